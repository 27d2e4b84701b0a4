use Rattle.std.proofs.Common.{◌≡◌, ℕ, ◌≤◌, [], take, drop}
use Rattle.std.specs.Prelude.{None}
use Rattle.std.specs.BTreeMap.{get}
use Rattle.gtid_text.specs.Gtids.{gtid_cmp}
use Rattle.fault_places.specs.Orders.{first_after, inversion_from}
use Rattle.fault_places.proofs.orders.find_inversion.Given as goal

abbrev pub invariant-loop-i : goal.invariant-loop-i
invariant-loop-i l = record {
  left : inversion_from (get gtid_cmp l.places) (take l.i l.entries) (drop l.i l.entries) ≡ inversion_from (get gtid_cmp l.places) [] l.entries;
  none : (p : ℕ) → l.last ≤ p → first_after (get gtid_cmp l.places) p (take l.i l.entries) ≡ None;
}
