use Rattle.std.proofs.Common.{ℕ, ◌+◌, ◌<◌, ◌≡◌, Some, take}
use Rattle.std.specs.Prelude.{slice_get}
use Rattle.journal.specs.declared.Entry.{Entry}
use Rattle.audit.specs.Ordered.{AreBelow, AreTops}
use Rattle.audit.proofs.ordered.is_in_order.Given as goal

abbrev pub invariant-loop-entry : goal.invariant-loop-entry
invariant-loop-entry l = record {
  tops : AreTops l.opened (take l.entry-index l.entries) l.tops.entries;
  below : AreBelow l.opened (take l.entry-index l.entries) l.top.source (l.top.number + 1);
  so_far : (place : ℕ) (e : Entry) → place < l.entry-index → slice_get l.entries place ≡ Some e → AreBelow l.opened (take place l.entries) e.gtid.source e.gtid.number;
}
