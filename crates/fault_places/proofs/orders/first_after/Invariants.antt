use Rattle.std.proofs.Common.{◌≡◌, drop}
use Rattle.std.specs.BTreeMap.{get}
use Rattle.gtid_text.specs.Gtids.{gtid_cmp}
use Rattle.fault_places.specs.Orders.{first_after}
use Rattle.fault_places.proofs.orders.first_after.Given as goal

abbrev pub invariant-loop-entry : goal.invariant-loop-entry
invariant-loop-entry l = first_after (get gtid_cmp l.places) l.place (drop l.entry-index l.entries) ≡ first_after (get gtid_cmp l.places) l.place l.entries
