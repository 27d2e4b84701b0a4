-- How the seats are kept: a slot for each.
use Rattle.std.specs.Prelude.{ℕ, List, Option, refl}
use Rattle.std.specs.Coded.{Coded, code_by, coded×, coded_ℕ}
use Rattle.std.specs.FinMap as map
use Rattle.ownership.specs.Slots.{of_slots}
use Rattle.replica_core.specs.declared.event.Spot.{Spot}
use Rattle.replica_core.specs.State.{Seats}

-- the map that slots denote, the first being seat 1
abbrev pub seats_of : List (Option Spot) → Seats
seats_of slots = of_slots slots

-- how a value keeps a place, and the seats
abbrev pub spot_code : Coded Spot
spot_code = code_by (ℕ × ℕ) (coded× coded_ℕ coded_ℕ) (λ s. (s.channel, s.place)) (λ p. record { channel = p.0; place = p.1 }) (λ _. refl)

abbrev pub seats_code : Coded Seats
seats_code = map.code coded_ℕ spot_code
