use Rattle.std.proofs.Common.{rules, ◌≡◌, option_map, string_bytes, sym, ap, ◌∙◌}
use Rattle.std.specs.BTreeMap.{get_by_text}
use Rattle.std.proofs.lemmas.Map.Text.{btree_map_updates_text}
use Rattle.std.proofs.lemmas.Result.{IfOk-at_ok}
use Rattle.commands.specs.Summaries.{place_of}
use Rattle.commands.proofs.Tallying.{counted_there, counted_nowhere}
use Rattle.commands.proofs.summary_command.count_with.Goals as goal

pub returns-in_default : goal.returns-in_default
returns-in_default c =
    let found = IfOk-at_ok (λ place. option_map string_bytes place ≡ place_of c.args.fault.now) c.in_ok-place.was c.place_of.ensures in
    counted_nowhere (get_by_text c.args.counts.now) c.args.fault.now (sym found ∙ ap (option_map string_bytes) c.in_default.is)

pub returns : goal.returns
returns c =
    let found = IfOk-at_ok (λ place. option_map string_bytes place ≡ place_of c.args.fault.now) c.in_ok-place.was c.place_of.ensures in
    let q = string_bytes c.in-Some.place in
    counted_there (get_by_text c.args.counts.now) (get_by_text c.insert.new.self) c.args.fault.now q c.in-Some-checked_add.count
    (sym found ∙ ap (option_map string_bytes) c.in-Some.is) (search rules)
    (btree_map_updates_text q c.args.counts.now c.insert.new.self _ c.in_ok-insert.ensures.updates)
