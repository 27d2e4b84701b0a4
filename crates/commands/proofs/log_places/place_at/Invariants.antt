use Rattle.std.proofs.Common.{◌≡◌, ◌+◌, ◌≤◌}
use Rattle.commands.specs.LogPlaces.{place_of, place_from, place_at}
use Rattle.commands.proofs.log_places.place_at.Given as goal

abbrev pub invariant-loop-before : goal.invariant-loop-before
invariant-loop-before l = record {
  place : place_from (place_of l.place) l.before l.left ≡ place_at l.number l.text;
  columns : l.place.columns + l.before ≤ l.number;
}

abbrev pub decreases-loop-before : goal.decreases-loop-before
decreases-loop-before l = l.before
