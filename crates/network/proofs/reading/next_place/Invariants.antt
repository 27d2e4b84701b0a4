use Rattle.std.proofs.Common.{◌≡◌, ◌≤◌, ◌-◌, true, length, take}
use Rattle.std.specs.List.{list_all}
use Rattle.std.specs.FinSet as set
use Rattle.network.specs.Reading.{has_come}
use Rattle.network.proofs.reading.next_place.Given as goal

abbrev pub invariant-next : goal.invariant-next
invariant-next l = record { short : l.next ≤ length l.entries; come : list_all (has_come (set.union l.asked l.received)) (take l.next l.entries) ≡ true }

abbrev pub decreases-next : goal.decreases-next
decreases-next l = length l.entries - l.next
