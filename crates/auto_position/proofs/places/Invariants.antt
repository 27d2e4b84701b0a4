use Rattle.std.proofs.Common.{◌≡◌, ◌++◌, drop}
use Rattle.auto_position.specs.Sending.{is_wanted, places_from}
use Rattle.auto_position.proofs.places.Given as goal

abbrev pub invariant-entries : goal.invariant-entries
invariant-entries l = l.places.items ++ places_from (is_wanted l.ask) l.place (drop l.place l.entries) ≡ places_from (is_wanted l.ask) 0 l.entries
