-- The owner, seat by seat.
use Rattle.std.proofs.Common.{◌≡◌, ◌≢◌, ℕ, ◌+◌, ◌≤◌, ◌<◌, ◌⊎◌, inl, inr, zero, suc, Bool, true, false, cond, refl, sym, ap, ◌∙◌, arith, true≢false}
use Rattle.std.specs.Prelude.{Option, Some, None, find, ◌==◌}
use Rattle.std.specs.List.{range_with_len}
use Rattle.std.specs.Option.{option_map_or}
use Rattle.std.specs.Cmp.{nat_cmp_total, unsigned_tied}
use Rattle.std.specs.FinMap as map
use Rattle.lemmas.proofs.SameGtid.{same_itself, same_is_equal}
use Rattle.lemmas.proofs.Numbers.{equal_numbers}
use Rattle.gtid_text.specs.declared.Gtid.{Gtid}
use Rattle.gtid_text.specs.Gtids.{same_gtid}
use Rattle.ownership.specs.Ownership.{Ownership, owner, owns, owned_by, seat_numbers, IsOwnedOnce, IsOfSeats, attempt}
use Rattle.ownership.specs.declared.Attempt.TheVariants.{Owned, SeatBusy, OwnedBy}

-- the first of some seats that owns a GTID
unfoldable pub owner_from : Ownership → Gtid → ℕ → ℕ → Option ℕ
owner_from owned gtid seat n = find (owns owned gtid) (range_with_len seat n)

pub owner_first : (owned : Ownership) (gtid : Gtid) → owner owned gtid ≡ owner_from owned gtid 1 64
unfolding owner_from seat_numbers
owner_first owned gtid = refl

pub owner_last : (owned : Ownership) (gtid : Gtid) (seat : ℕ) → owner_from owned gtid seat 0 ≡ None
unfolding owner_from
owner_last owned gtid seat = refl

-- one seat more
pub owner_next : (owned : Ownership) (gtid : Gtid) (seat n m : ℕ) → suc n ≡ m → owner_from owned gtid seat m ≡ cond (owns owned gtid seat) (Some seat) (owner_from owned gtid (seat + 1) n)
unfolding owner_from
owner_next owned gtid seat n m e = ap (λ k. find (owns owned gtid) (range_with_len seat k)) (sym e)

-- ---- what the owner is

held : (o : Option Gtid) (g : Gtid) → option_map_or (λ h. same_gtid h g) o false ≡ true → o ≡ Some g
held None g e = absurd (true≢false (sym e))
held (Some h) g e = ap Some (same_is_equal h g e)

pub owns_some : (owned : Ownership) (gtid : Gtid) (seat : ℕ) → owned_by owned seat ≡ Some gtid → owns owned gtid seat ≡ true
owns_some owned gtid seat e = ap (λ o. option_map_or (λ h. same_gtid h gtid) o false) e ∙ same_itself gtid

pub some_owns : (owned : Ownership) (gtid : Gtid) (seat : ℕ) → owns owned gtid seat ≡ true → owned_by owned seat ≡ Some gtid
some_owns owned gtid seat e = held (owned_by owned seat) gtid e

chosen_at : (b : Bool) (x y : ℕ) (o : Option ℕ) → cond b (Some x) o ≡ Some y → ((b ≡ true) × (x ≡ y)) ⊎ ((b ≡ false) × (o ≡ Some y))
chosen_at true x y o e = inl (refl, same_some x y e)
  where
    same_some : (x y : ℕ) → Some x ≡ Some y → x ≡ y
    same_some x y e = cc
chosen_at false x y o e = inr (refl, e)

-- who is found owns it, and where nobody is found, none of those seats does
pub find_owner : (owned : Ownership) (gtid : Gtid) (n seat other : ℕ) → owner_from owned gtid seat n ≡ Some other → owned_by owned other ≡ Some gtid
find_owner owned gtid zero seat other e = absurd (empty (sym (owner_last owned gtid seat) ∙ e))
  where
    empty : None ≡ Some other → ⊥
    empty e = cc
find_owner owned gtid (suc n) seat other e =
    elim (chosen_at (owns owned gtid seat) seat other _ (sym (owner_next owned gtid seat n (suc n) refl) ∙ e)) [
      | inl p ↦ some_owns owned gtid other (ap (owns owned gtid) (sym p.1) ∙ p.0)
      | inr p ↦ find_owner owned gtid n (seat + 1) other p.1
    ]

pub not_chosen : (b : Bool) (x : ℕ) (o : Option ℕ) → cond b (Some x) o ≡ None → (b ≡ false) × (o ≡ None)
not_chosen true x o e = cc
not_chosen false x o e = (refl, e)

pub no_owner : (owned : Ownership) (gtid : Gtid) (n seat other : ℕ) → owner_from owned gtid seat n ≡ None → seat ≤ other → other < seat + n → owned_by owned other ≢ Some gtid
no_owner owned gtid zero seat other none low high = absurd (omega arith)
no_owner owned gtid (suc n) seat other none low high =
    let parts = not_chosen (owns owned gtid seat) seat _ (sym (owner_next owned gtid seat n (suc n) refl) ∙ none) in
    λ e. elim (here_or_later seat other low) [
      | inl at ↦ true≢false (sym (owns_some owned gtid seat (ap (owned_by owned) at ∙ e)) ∙ parts.0)
      | inr later ↦ no_owner owned gtid n (seat + 1) other parts.1 later (omega arith) e
    ]
  where
    here_or_later : (a b : ℕ) → a ≤ b → (a ≡ b) ⊎ (a + 1 ≤ b)
    here_or_later a b h = grind arith

-- where nobody from seat 1 to 64 owns a GTID, nobody does
pub nobody : (owned : Ownership) (gtid : Gtid) → IsOfSeats owned → owner owned gtid ≡ None → (seat : ℕ) → owned_by owned seat ≢ Some gtid
nobody owned gtid within none seat e =
    let in_range = within seat gtid e in
    no_owner owned gtid 64 1 seat (sym (owner_first owned gtid) ∙ none) in_range.0 (omega (arith, in_range.1)) e

pub the_owner : (owned : Ownership) (gtid : Gtid) (seat : ℕ) → owner owned gtid ≡ Some seat → owned_by owned seat ≡ Some gtid
the_owner owned gtid seat e = find_owner owned gtid 64 1 seat (sym (owner_first owned gtid) ∙ e)

-- ---- what a seat has after a change

two_ways : (b : Bool) (x y : Gtid) (o : Option Gtid) → cond b (Some x) o ≡ Some y → ((b ≡ true) × (x ≡ y)) ⊎ (o ≡ Some y)
two_ways true x y o e = inl (refl, same_some x y e)
  where
    same_some : (x y : Gtid) → Some x ≡ Some y → x ≡ y
    same_some x y e = cc
two_ways false x y o e = inr e

after_insert : (owned : Ownership) (seat a : ℕ) (gtid g : Gtid) → owned_by (map.insert owned seat gtid) a ≡ Some g → ((a ≡ seat) × (gtid ≡ g)) ⊎ (owned_by owned a ≡ Some g)
after_insert owned seat a gtid g e =
    elim (two_ways (a == seat) gtid g (owned_by owned a) (ap (λ b. cond b (Some gtid) (owned_by owned a)) (sym (unsigned_tied a seat)) ∙ sym (map.get-insert nat_cmp_total owned seat gtid a) ∙ e)) [
      | inl p ↦ inl (equal_numbers a seat p.0, p.1)
      | inr p ↦ inr p
    ]

kept_some : (b : Bool) (o : Option Gtid) (g : Gtid) → cond b None o ≡ Some g → o ≡ Some g
kept_some true o g e = cc
kept_some false o g e = e

after_remove : (owned : Ownership) (seat a : ℕ) (g : Gtid) → owned_by (map.remove owned seat) a ≡ Some g → owned_by owned a ≡ Some g
after_remove owned seat a g e = kept_some _ _ g (sym (map.get-remove nat_cmp_total owned seat a) ∙ e)

-- a GTID that nobody owns may be given to a seat
pub once-insert : (owned : Ownership) (seat : ℕ) (gtid : Gtid) → IsOwnedOnce owned → ((s : ℕ) → owned_by owned s ≢ Some gtid) → IsOwnedOnce (map.insert owned seat gtid)
once-insert owned seat gtid once free a b g p q =
    elim (after_insert owned seat a gtid g p) [
      | inl x ↦ elim (after_insert owned seat b gtid g q) [
        | inl y ↦ x.0 ∙ sym y.0
        | inr y ↦ absurd (free b (y ∙ ap Some (sym x.1)))
      ]
      | inr x ↦ elim (after_insert owned seat b gtid g q) [
        | inl y ↦ absurd (free a (x ∙ ap Some (sym y.1)))
        | inr y ↦ once a b g x y
      ]
    ]

-- and one may be taken away
pub once-remove : (owned : Ownership) (seat : ℕ) → IsOwnedOnce owned → IsOwnedOnce (map.remove owned seat)
once-remove owned seat once a b g p q = once a b g (after_remove owned seat a g p) (after_remove owned seat b g q)

-- a seat that owns nothing takes what no seat owns
pub attempt_free : (owned : Ownership) (gtid : Gtid) (seat : ℕ) → owned_by owned seat ≡ None → owner owned gtid ≡ None → (Owned, map.insert owned seat gtid) ≡ attempt owned gtid seat
attempt_free owned gtid seat idle free =
    sym (ap (λ o. option_map_or (λ mine. (SeatBusy mine, owned)) o (option_map_or (λ other. (OwnedBy other, owned)) (owner owned gtid) (Owned, map.insert owned seat gtid))) idle
    ∙ ap (λ o. option_map_or (λ other. (OwnedBy other, owned)) o (Owned, map.insert owned seat gtid)) free)
