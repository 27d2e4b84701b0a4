-- The owner, seat by seat.
use Rattle.std.proofs.Common.{◌≡◌, ℕ, ◌+◌, ◌≤◌, ◌<◌, ◌⊎◌, inl, inr, zero, suc, true, false, cond, refl, sym, ap, ◌∙◌, arith, true≢false}
use Rattle.std.specs.Prelude.{Option, Some, None, find, option_map, option_and_then}
use Rattle.std.specs.Option.{option_map_or}
use Rattle.std.specs.List.{range_with_len}
use Rattle.std.proofs.lemmas.Bool.Decides.{nat_tests}
use Rattle.lemmas.proofs.SameGtid.{same_itself}
use Rattle.gtid_text.specs.declared.Gtid.{Gtid}
use Rattle.gtid_text.specs.Gtids.{same_gtid}
use Rattle.apply_channel.specs.Channels.{Received}
use Rattle.replica_core.specs.declared.event.Spot.{Spot}
use Rattle.replica_core.specs.State.{State, entry_at, owns, owner, seat_numbers}
use Rattle.replica_core.specs.Machine.{is_seat}
use Rattle.replica_core.specs.Seated.{HasEntry, AreSeated, IsUnowned}
use Rattle.ownership.proofs.OwnerLemmas.{not_chosen}

unfoldable pub owner_from : State → Gtid → ℕ → ℕ → Option ℕ
owner_from s gtid seat n = find (λ seat. owns s gtid seat) (range_with_len seat n)

pub owner_first : (s : State) (gtid : Gtid) → owner s gtid ≡ owner_from s gtid 1 64
unfolding owner_from seat_numbers
owner_first s gtid = refl

pub owner_last : (s : State) (gtid : Gtid) (seat : ℕ) → owner_from s gtid seat 0 ≡ None
unfolding owner_from
owner_last s gtid seat = refl

-- one seat more
pub owner_next : (s : State) (gtid : Gtid) (seat n m : ℕ) → suc n ≡ m → owner_from s gtid seat m ≡ cond (owns s gtid seat) (Some seat) (owner_from s gtid (seat + 1) n)
unfolding owner_from
owner_next s gtid seat n m e = ap (λ k. find (λ seat. owns s gtid seat) (range_with_len seat k)) (sym e)

-- ---- nobody owns a GTID

here_or_later : (a b : ℕ) → a ≤ b → (a ≡ b) ⊎ (a + 1 ≤ b)
here_or_later a b h = grind arith

no_owner : (s : State) (gtid : Gtid) (n seat other : ℕ) → owner_from s gtid seat n ≡ None → seat ≤ other → other < seat + n → owns s gtid other ≡ false
no_owner s gtid zero seat other none low high = absurd (omega arith)
no_owner s gtid (suc n) seat other none low high =
    let parts = not_chosen (owns s gtid seat) seat _ (sym (owner_next s gtid seat n (suc n) refl) ∙ none) in
    elim (here_or_later seat other low) [
      | inl at ↦ ap (owns s gtid) (sym at) ∙ parts.0
      | inr later ↦ no_owner s gtid n (seat + 1) other parts.1 later (omega arith)
    ]

same_when : (g h : Gtid) → g ≡ h → same_gtid g h ≡ true
same_when g h same = ap (λ (k : Gtid). same_gtid g k) (sym same) ∙ same_itself g

owns_by : (s : State) (gtid : Gtid) (seat : ℕ) (e : Received) → HasEntry s.channels s.seats seat e → e.gtid ≡ gtid → owns s gtid seat ≡ true
owns_by s gtid seat e has same =
    ap (λ (o : Option Spot). option_map_or (λ (g : Gtid). same_gtid g gtid) (option_map (λ (x : Received). x.gtid) (option_and_then (entry_at s) o)) false) has.1
    ∙ ap (λ (o : Option Received). option_map_or (λ (g : Gtid). same_gtid g gtid) (option_map (λ (x : Received). x.gtid) o) false) has.2
    ∙ same_when e.gtid gtid same

within : (seat : ℕ) → is_seat seat ≡ true → (1 ≤ seat) × (seat < 65)
within seat h = (low seat h, high seat h)
  where
    low : (seat : ℕ) → is_seat seat ≡ true → 1 ≤ seat
    low seat h = grind (arith, nat_tests, h)

    high : (seat : ℕ) → is_seat seat ≡ true → seat < 65
    high seat h = grind (arith, nat_tests, h)

-- where no seat from 1 to 64 owns a GTID, no seat has a place of it
pub unowned_is : (s : State) (gtid : Gtid) → owner s gtid ≡ None → AreSeated s.channels s.seats → IsUnowned s.channels s.seats gtid
unowned_is s gtid none seated seat e has same =
    let in_range = within seat (seated.number seat has.0 has.1) in
    true≢false (sym (owns_by s gtid seat e has same) ∙ no_owner s gtid 64 1 seat (sym (owner_first s gtid) ∙ none) in_range.0 (omega (arith, in_range.1)))
