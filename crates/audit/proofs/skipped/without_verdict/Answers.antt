use Rattle.std.proofs.Common.{sym, ◌∙◌}
use Rattle.audit.proofs.Parts.{but_absent, but_other}
use Rattle.audit.proofs.skipped.without_verdict.Goals as goal
use Rattle.audit.proofs.skipped.without_verdict.Goals.{in-Missing+else-contains, in_default}

pub returns-clause-ok : goal.returns-clause-ok
returns-clause-ok c = elim c.match-verdict.branch [
  | in-Missing+else-contains w ↦ but_absent c.args.verdict.now c.args.missing w.in-Missing.gtid w.in-Missing.is (sym w.contains.ensures ∙ w.if-contains.false)
  | in_default w ↦ but_other c.args.verdict.now c.args.missing w.in_default.not-Missing
]
