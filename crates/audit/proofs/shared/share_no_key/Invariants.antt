use Rattle.std.proofs.Common.{drop, map}
use Rattle.world.specs.Folds.{FirstTouch}
use Rattle.audit.specs.Contents.{as_pair}
use Rattle.audit.specs.Marks.{AreMarked, owner_of}
use Rattle.audit.proofs.Apart.{IsApart}
use Rattle.audit.proofs.shared.share_no_key.Given as goal

abbrev pub invariant-loop-entry : goal.invariant-loop-entry
invariant-loop-entry l = (last : FirstTouch) × IsApart l.schema (map as_pair (map (λ e. e.now) l.entries)) (map as_pair (map (λ e. e.now) (drop l.entry-index l.entries))) last × AreMarked last (owner_of l.owners)
