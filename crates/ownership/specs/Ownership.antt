-- Which seat owns which GTID. (MySQL 8.0 Reference Manual, "GTID Life Cycle": of several attempts at once only one executes a GTID.)
use Rattle.std.specs.Prelude.{◌≡◌, ℕ, ◌≤◌, Bool, false, List, Option, Some, find, refl}
use Rattle.std.specs.List.{range_with_len}
use Rattle.std.specs.Option.{option_map_or}
use Rattle.std.specs.Ordering.{nat_cmp}
use Rattle.std.specs.FinMap as map
use Rattle.std.specs.Coded.{Coded, coded_ℕ, code_by, coded×}
use Rattle.gtid_text.specs.declared.Gtid.{Gtid}
use Rattle.gtid_text.specs.Gtids.{same_gtid}
use Rattle.ownership.specs.declared.Attempt.{Attempt}
use Rattle.ownership.specs.declared.Attempt.TheVariants.{Owned, SeatBusy, OwnedBy}

-- a finite map from seats to the GTIDs that they own
abbrev pub Ownership : Type 0
Ownership = map.FinMap nat_cmp Gtid

-- how a model's value keeps it
abbrev pub owned_code : Coded Gtid
owned_code = code_by (ℕ × ℕ) (coded× coded_ℕ coded_ℕ) (λ g. (g.source, g.number)) (λ p. record { source = p.0; number = p.1 }) (λ _. refl)

abbrev pub ownership_code : Coded Ownership
ownership_code = map.code coded_ℕ owned_code

-- a seat, of 64
abbrev pub IsSeat : ℕ → Type 0
IsSeat seat = (1 ≤ seat) × (seat ≤ 64)

unfoldable pub seat_numbers : List ℕ
seat_numbers = range_with_len 1 64

-- what a seat owns
abbrev pub owned_by : Ownership → ℕ → Option Gtid
owned_by owned seat = map.get owned seat

-- whether a seat owns a GTID
abbrev pub owns : Ownership → Gtid → ℕ → Bool
owns owned gtid seat = option_map_or (λ g. same_gtid g gtid) (owned_by owned seat) false

-- the seat that owns a GTID, if any
abbrev pub owner : Ownership → Gtid → Option ℕ
owner owned gtid = find (owns owned gtid) seat_numbers

-- no GTID is owned by two seats
abbrev pub IsOwnedOnce : Ownership → Type 0
IsOwnedOnce owned = (a b : ℕ) (g : Gtid) → owned_by owned a ≡ Some g → owned_by owned b ≡ Some g → a ≡ b

-- only the 64 seats own anything
abbrev pub IsOfSeats : Ownership → Type 0
IsOfSeats owned = (seat : ℕ) (g : Gtid) → owned_by owned seat ≡ Some g → IsSeat seat

-- The reply to a seat that tries to own a GTID, and who owns what then:
-- a seat that owns one already keeps it; what another seat owns stays with it.
abbrev pub attempt : Ownership → Gtid → ℕ → Attempt × Ownership
attempt owned gtid seat =
    option_map_or (λ mine. (SeatBusy mine, owned))
    (owned_by owned seat)
    (option_map_or (λ other. (OwnedBy other, owned))
    (owner owned gtid)
    (Owned, map.insert owned seat gtid))
