use Rattle.std.proofs.Common.{◌<◌, ◌+◌, ◌-◌, arith}
use Rattle.gtid_set.proofs.SetSources.{union_none}
use Rattle.audit.proofs.skipped.add_between.Goals as goal
use Rattle.audit.proofs.skipped.add_between.Goals.{then-after-below-via-then-after-below, then-after-below-via-else-after-below+then-below-after-eq1}

pub returns-then-after-below-clause-ok : goal.returns-then-after-below-clause-ok
returns-then-after-below-clause-ok c =
    let nothing : c.args.below - 1 < c.args.after + 1 = elim c.then-after-below.branch [
      | then-after-below-via-then-after-below w ↦ let h = w.if-after-below.true in grind arith
      | then-after-below-via-else-after-below+then-below-after-eq1 w ↦ let h = w.if-below-after-eq1.true in grind arith
    ] in
    union_none c.args.skipped.now c.args.source (c.args.after + 1) (c.args.below - 1) nothing
