use Rattle.std.proofs.Common.{rules, sym, ◌∙◌}
use Rattle.std.proofs.lemmas.Option.{none-some, same_Some}
use Rattle.derived_columns.proofs.Joined.{read_back}
use Rattle.derived_columns.proofs.images.join.Goals as goal

pub unreachable-requires : goal.unreachable-requires
unreachable-requires c =
    let found = read_back c.args.front.now c.args.back.now c.as_bytes.result.now c.in_ok-row.field-0 c.requires.front c.requires.back c.keeps_rules.ensures c.keeps_rules-2.ensures (search rules) c.in_ok-row.ensures in
    none-some _ (sym c.in-None.is ∙ found)

pub returns : goal.returns
returns c =
    let found = read_back c.args.front.now c.args.back.now c.as_bytes.result.now c.in_ok-row.field-0 c.requires.front c.requires.back c.keeps_rules.ensures c.keeps_rules-2.ensures (search rules) c.in_ok-row.ensures in
    same_Some _ _ (sym c.in-Some.is ∙ found)
