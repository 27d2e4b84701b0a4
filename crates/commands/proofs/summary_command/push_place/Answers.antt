use Rattle.std.proofs.Common.{cond, ◌≡◌, ◌++◌, Some, None, option_map, string_bytes, sym, ap, ◌∙◌, append-nil}
use Rattle.std.specs.Str.{bytes_eq}
use Rattle.std.specs.BTreeMap.{get_by_text}
use Rattle.std.proofs.lemmas.Result.{IfOk-at_ok}
use Rattle.commands.specs.Summaries.{place_of, summary_line}
use Rattle.commands.proofs.Tallying.{nowhere, line_nowhere, still_left, left_behind, line_there}
use Rattle.commands.proofs.summary_command.push_place.Goals as goal

pub returns-in_default : goal.returns-in_default
returns-in_default c =
    let found = IfOk-at_ok (λ place. option_map string_bytes place ≡ place_of c.args.fault.now) c.in_ok-place.was c.place_of.ensures in
    let none = sym found ∙ ap (option_map string_bytes) c.in_default.is in
    λ seen after left. (line_nowhere c.args.fault.now (string_bytes c.args.text.now) seen after none, λ p. left p ∙ still_left p c.args.fault.now seen after (nowhere c.args.fault.now none p))

pub returns-in_default-take_count : goal.returns-in_default-take_count
returns-in_default-take_count c =
    let found = IfOk-at_ok (λ place. option_map string_bytes place ≡ place_of c.args.fault.now) c.in_ok-place.was c.place_of.ensures in
    let q = string_bytes c.in-Some.place in
    let text = string_bytes c.args.text.now in
    let there = sym found ∙ ap (option_map string_bytes) c.in-Some.is in
    let none : None ≡ get_by_text c.args.counts.now q = sym c.in_default-take_count.is ∙ c.take_count.ensures.count ∙ ap (get_by_text c.args.counts.now) c.deref.ensures in
    λ seen after left. (
      sym (append-nil text) ∙ line_there c.args.fault.now q text seen after None there (none ∙ left q),
      left_behind (get_by_text c.args.counts.now) (get_by_text c.take_count.new.counts) c.args.fault.now q seen after there
          (λ p. c.take_count.ensures.left p ∙ ap (λ r. cond (bytes_eq r p) None (get_by_text c.args.counts.now p)) c.deref.ensures) left,
    )

pub returns : goal.returns
returns c =
    let found = IfOk-at_ok (λ place. option_map string_bytes place ≡ place_of c.args.fault.now) c.in_ok-place.was c.place_of.ensures in
    let q = string_bytes c.in-Some.place in
    let text = string_bytes c.args.text.now in
    let there = sym found ∙ ap (option_map string_bytes) c.in-Some.is in
    let some : Some c.in-Some-take_count.count ≡ get_by_text c.args.counts.now q = sym c.in-Some-take_count.is ∙ c.take_count.ensures.count ∙ ap (get_by_text c.args.counts.now) c.deref.ensures in
    λ seen after left. (
      c.in_ok-push_line.ensures ∙ ap (λ r. text ++ summary_line r c.in-Some-take_count.count c.args.fault.now) c.deref-2.ensures ∙ line_there c.args.fault.now q text seen after (Some c.in-Some-take_count.count) there (some ∙ left q),
      left_behind (get_by_text c.args.counts.now) (get_by_text c.take_count.new.counts) c.args.fault.now q seen after there
          (λ p. c.take_count.ensures.left p ∙ ap (λ r. cond (bytes_eq r p) None (get_by_text c.args.counts.now p)) c.deref.ensures) left,
    )
