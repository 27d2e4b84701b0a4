use Rattle.std.proofs.Common.{sym, subst}
use Rattle.rows.specs.Patch.{SeesAll}
use Rattle.rows.specs.Prepared.{Sight}
use Rattle.rows.proofs.FitLemmas.{few_changes}
use Rattle.rows.proofs.prepared.prepare.Goals as goal

pub prepare-requires-clause-count : goal.prepare-requires-clause-count
prepare-requires-clause-count c = few_changes c.args.footprint.schema c.args.txn c.requires.fits

pub prepare-requires-clause-all : goal.prepare-requires-clause-all
prepare-requires-clause-all c = subst (λ (s : Sight). SeesAll s.schema c.args.txn s.seen) (sym c.footprint.view_is) c.requires.all
