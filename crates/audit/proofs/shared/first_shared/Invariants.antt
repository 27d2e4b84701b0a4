use Rattle.std.proofs.Common.{◌≡◌, drop, map}
use Rattle.std.specs.FinMap as finmap
use Rattle.audit.specs.Contents.{as_pair}
use Rattle.world.specs.Folds.{shared_from}
use Rattle.audit.proofs.shared.first_shared.Given as goal

abbrev pub invariant-loop-entry : goal.invariant-loop-entry
invariant-loop-entry l = shared_from l.schema l.seen (map as_pair (drop l.entry-index l.entries)) ≡ shared_from l.schema finmap.empty (map as_pair l.entries)
