use Rattle.std.proofs.Common.{◌≡◌, drop}
use Rattle.std.specs.FinSet as set
use Rattle.gtid_set.specs.Spans.{set_of}
use Rattle.log_transactions.proofs.joined.add_all.Given as goal

abbrev pub invariant-loop-span : goal.invariant-loop-span
invariant-loop-span l = record {
  so_far : set.union l.whole (set_of (drop l.span-index l.spans)) ≡ set.union l.fn.whole (set_of l.spans);
  kept : set.union l.fn.whole l.whole ≡ l.whole;
}
