use Rattle.std.proofs.Common.{◌≡◌, drop}
use Rattle.std.specs.BTreeMap.{get}
use Rattle.gtid_text.specs.Gtids.{gtid_cmp}
use Rattle.fault_places.specs.Orders.{inverted_with}
use Rattle.fault_places.proofs.orders.inverted_with.Given as goal

abbrev pub invariant-loop-second : goal.invariant-loop-second
invariant-loop-second l =
    inverted_with (get gtid_cmp l.places) l.journals l.first (drop l.second-index l.others) ≡ inverted_with (get gtid_cmp l.places) l.journals l.first l.others
