use Rattle.std.proofs.Common.{not, sym, ap, ◌∙◌}
use Rattle.gtid_report.proofs.AssumedLemmas.{some_assumed}
use Rattle.gtid_report.proofs.assumed.is_assuming.Goals as goal

pub returns-then-not-is_empty : goal.returns-then-not-is_empty
returns-then-not-is_empty c =
    let some = ap not c.if-not-is_empty.true in
    some ∙ sym (some_assumed c.args.bundle.now c.is_empty.result c.assumptions.result.now c.assumptions.ensures c.is_empty.ensures some)
