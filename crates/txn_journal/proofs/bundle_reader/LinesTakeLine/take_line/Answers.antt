use Rattle.std.proofs.Common.{sym, subst}
use Rattle.txn_journal.specs.declared.lines.Due.TheVariants.{Any}
use Rattle.txn_journal.specs.BundleLines.{HasCome}
use Rattle.txn_journal.specs.BundleDrafts.{bundle_standing}
use Rattle.txn_journal.proofs.BundleKept.{come_start, come_more}
use Rattle.txn_journal.proofs.bundle_reader.LinesTakeLine.take_line.Goals as goal

pub invariant_of-self : goal.invariant_of-self
invariant_of-self c = come_more (bundle_standing c.self.inside.draft) (bundle_standing c.take_line.new.self) c.args.line.now c.self.invariant c.in-Ok.ensures.line

pub invariant_of-self-in-Err : goal.invariant_of-self-in-Err
invariant_of-self-in-Err c = subst HasCome (sym c.start_again.ensures) (come_start Any)
