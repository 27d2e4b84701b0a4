-- What the map of the slots has at a seat, and after a write.
use Rattle.std.proofs.Common.{drop, subst, append_assoc, append-nil, ◌++◌, ◌⊎◌, inl, inr, ◌≡◌, ℕ, ◌+◌, ◌-◌, ◌<◌, ◌≤◌, zero, suc, Bool, true, false, cond, List, [], ◌∷◌, refl, sym, ap, ◌∙◌, arith, get_or, set, length, true≢false}
use Rattle.std.specs.Prelude.{◌&&◌, T, Option, Some, None, ◌==◌}
use Rattle.std.proofs.lemmas.Bool.Decides.{nat_tests}
use Rattle.std.specs.Ordering.{nat_cmp, is_lt}
use Rattle.std.specs.Cmp.{nat_cmp_total, nat_cmp_is, unsigned_tied}
use Rattle.std.specs.FinMap as map
use Rattle.std.specs.FinMap.{nat_cmp-IsAntisymmetric, find, is_sorted}
use Rattle.std.specs.FinMap.Entries.{below_all}
use Rattle.std.specs.declared.cmp.Ordering.TheVariants.{Less}
use Rattle.std.proofs.lemmas.List.{at_drop_more, at_drop_all, get_or_default}
use Rattle.gtid_text.specs.declared.Gtid.{Gtid}
use Rattle.ownership.specs.Slots.{taken_from, of_slots, owned_of}
use Rattle.ownership.specs.Ownership.{IsSeat, IsOwnedOnce, IsOfSeats}
use Rattle.std.proofs.lemmas.Option.{none-some}
use Rattle.lemmas.proofs.Numbers.{eqb_below as off, same_number as on}

-- a seat before the first slot has nothing
find_before : {X : Type 0} (q n : ℕ) (slots : List (Option X)) → q < n → find nat_cmp q (taken_from n slots) ≡ None
find_before q n [] h = refl
find_before q n (None ∷ slots) h = find_before q (n + 1) slots (omega arith)
find_before q n (Some x ∷ slots) h =
    ap (λ b. cond b (Some x) (find nat_cmp q (taken_from (n + 1) slots))) (unsigned_tied q n ∙ off q n h)
    ∙ find_before q (n + 1) slots (omega arith)

-- and one from there on has what its slot has
find_in : {X : Type 0} (i n q : ℕ) (slots : List (Option X)) → n + i ≡ q → find nat_cmp q (taken_from n slots) ≡ get_or slots i None
find_in i n q [] e = refl
find_in zero n q (None ∷ slots) e = find_before q (n + 1) slots (omega arith)
find_in (suc i) n q (None ∷ slots) e = find_in i (n + 1) q slots (omega arith)
find_in zero n q (Some x ∷ slots) e =
    ap (λ b. cond b (Some x) (find nat_cmp q (taken_from (n + 1) slots))) (unsigned_tied q n ∙ ap (λ m. q == m) (omega arith) ∙ on q)
find_in (suc i) n q (Some x ∷ slots) e =
    ap (λ b. cond b (Some x) (find nat_cmp q (taken_from (n + 1) slots))) (unsigned_tied q n ∙ not_first)
    ∙ find_in i (n + 1) q slots (omega arith)
  where
    not_first : (q == n) ≡ false
    not_first = let above : n < q = omega arith in grind (arith, nat_tests)

-- what a seat has
pub get-of_slots : {X : Type 0} (slots : List (Option X)) (seat : ℕ) → 1 ≤ seat → map.get (of_slots slots) seat ≡ get_or slots (seat - 1) None
get-of_slots slots seat h = map.get-from_entries nat_cmp_total (taken_from 1 slots) seat ∙ find_in (seat - 1) 1 seat slots (omega arith)

get-zero : {X : Type 0} (slots : List (Option X)) → map.get (of_slots slots) 0 ≡ None
get-zero slots = map.get-from_entries nat_cmp_total (taken_from 1 slots) 0 ∙ find_before 0 1 slots (omega arith)

at_set : {X : Type 0} (d v : X) (xs : List X) (i j : ℕ) (b : Bool) → (j == i) ≡ b → i < length xs → get_or (set xs i v) j d ≡ cond b v (get_or xs j d)
at_set d v [] i j b e h = absurd (omega arith)
at_set d v (x ∷ xs) zero zero true e h = refl
at_set d v (x ∷ xs) zero zero false e h = absurd (true≢false (sym (on 0) ∙ e))
at_set d v (x ∷ xs) zero (suc j) true e h = absurd (true≢false (sym e ∙ apart))
  where
    apart : (suc j == 0) ≡ false
    apart = grind (arith, nat_tests)
at_set d v (x ∷ xs) zero (suc j) false e h = refl
at_set d v (x ∷ xs) (suc i) zero true e h = absurd (true≢false (sym e ∙ off 0 (suc i) (omega arith)))
at_set d v (x ∷ xs) (suc i) zero false e h = refl
at_set d v (x ∷ xs) (suc i) (suc j) b e h = at_set d v xs i j b (less_one ∙ e) (omega arith)
  where
    less_one : (j == i) ≡ (suc j == suc i)
    less_one = grind (arith, nat_tests)

next_test : (j i : ℕ) → (suc j == (i + 1)) ≡ (j == i)
next_test j i = grind (arith, nat_tests)

pub pred-suc : (j : ℕ) → suc j - 1 ≡ j
pred-suc j = omega arith

-- a slot that takes a GTID
pub of_slots-put : {X : Type 0} (slots : List (Option X)) (i : ℕ) (x : X) → i < length slots → of_slots (set slots i (Some x)) ≡ map.insert (of_slots slots) (i + 1) x
of_slots-put slots i x h = map.same_map nat_cmp_total nat_cmp-IsAntisymmetric _ _ at
  where
    at : (q : ℕ) → map.get (of_slots (set slots i (Some x))) q ≡ map.get (map.insert (of_slots slots) (i + 1) x) q
    at zero =
        get-zero (set slots i (Some x))
        ∙ sym (map.get-insert nat_cmp_total (of_slots slots) (i + 1) x 0 ∙ (λ k. cond ((unsigned_tied 0 (i + 1) ∙ off 0 (i + 1) (omega arith)) k) (Some x) (get-zero slots k)))
    at (suc j) =
        get-of_slots (set slots i (Some x)) (suc j) (omega arith)
        ∙ ap (λ m. get_or (set slots i (Some x)) m None) (pred-suc j)
        ∙ at_set None (Some x) slots i j (j == i) refl h
        ∙ sym (map.get-insert nat_cmp_total (of_slots slots) (i + 1) x (suc j) ∙ (λ k. cond ((unsigned_tied (suc j) (i + 1) ∙ next_test j i) k) (Some x) ((get-of_slots slots (suc j) (omega arith) ∙ ap (λ m. get_or slots m None) (pred-suc j)) k)))

-- a slot that is given up
pub of_slots-clear : {X : Type 0} (slots : List (Option X)) (i : ℕ) → i < length slots → of_slots (set slots i None) ≡ map.remove (of_slots slots) (i + 1)
of_slots-clear slots i h = map.same_map nat_cmp_total nat_cmp-IsAntisymmetric _ _ at
  where
    at : (q : ℕ) → map.get (of_slots (set slots i None)) q ≡ map.get (map.remove (of_slots slots) (i + 1)) q
    at zero =
        get-zero (set slots i None)
        ∙ sym (map.get-remove nat_cmp_total (of_slots slots) (i + 1) 0 ∙ (λ k. cond ((unsigned_tied 0 (i + 1) ∙ off 0 (i + 1) (omega arith)) k) None (get-zero slots k)))
    at (suc j) =
        get-of_slots (set slots i None) (suc j) (omega arith)
        ∙ ap (λ m. get_or (set slots i None) m None) (pred-suc j)
        ∙ at_set None None slots i j (j == i) refl h
        ∙ sym (map.get-remove nat_cmp_total (of_slots slots) (i + 1) (suc j) ∙ (λ k. cond ((unsigned_tied (suc j) (i + 1) ∙ next_test j i) k) None ((get-of_slots slots (suc j) (omega arith) ∙ ap (λ m. get_or slots m None) (pred-suc j)) k)))

-- ---- the slots of an opening

pub taken_from-push : (slots : List (Option Gtid)) (n : ℕ) → taken_from n (slots ++ None ∷ []) ≡ taken_from n slots
taken_from-push [] n = refl
taken_from-push (None ∷ slots) n = taken_from-push slots (n + 1)
taken_from-push (Some gtid ∷ slots) n = ap (λ es. (n, gtid) ∷ es) (taken_from-push slots (n + 1))

-- ---- only the slots' seats own anything

beyond : (slots : List (Option Gtid)) (i : ℕ) → length slots ≤ i → get_or slots i None ≡ None
beyond [] i h = refl
beyond (x ∷ slots) zero h = absurd (omega arith)
beyond (x ∷ slots) (suc i) h = beyond slots i (omega arith)

pub of_seats : (slots : List (Option Gtid)) (seat : ℕ) (g : Gtid) → map.get (owned_of slots) seat ≡ Some g → (1 ≤ seat) × (seat ≤ length slots)
of_seats slots zero g e = absurd (none-some g (sym (get-zero slots) ∙ e))
of_seats slots (suc i) g e = (omega arith, elim (le_or (suc i) (length slots)) [ inl h ↦ h | inr h ↦ absurd (none-some g (sym (get-of_slots slots (suc i) (omega arith) ∙ beyond slots (suc i - 1) (omega arith)) ∙ e)) ])
  where
    le_or : (a b : ℕ) → (a ≤ b) ⊎ (b < a)
    le_or a b = grind arith

-- ---- what a change leaves

-- where nothing is owned, nothing is owned twice
pub vacant_slots : (slots : List (Option Gtid)) → taken_from 1 slots ≡ [] → owned_of slots ≡ map.empty
vacant_slots slots e = ap (λ es. map.from_entries {R = nat_cmp} es) e

pub once-empty : IsOwnedOnce map.empty
once-empty a b g p q = absurd (none-some g (sym (map.get-empty nat_cmp a) ∙ p))

-- the slot of a seat that takes a GTID, and of one that frees it
pub put_at_seat : (slots : List (Option Gtid)) (seat : ℕ) (gtid : Gtid) → IsSeat seat → length slots ≡ 64 → owned_of (set slots (seat - 1) (Some gtid)) ≡ map.insert (owned_of slots) seat gtid
put_at_seat slots seat gtid is full = of_slots-put slots (seat - 1) gtid (omega (arith, is.0, is.1)) ∙ ap (λ s. map.insert (owned_of slots) s gtid) (omega (arith, is.0))

pub clear_at_seat : (slots : List (Option Gtid)) (seat : ℕ) → IsSeat seat → length slots ≡ 64 → owned_of (set slots (seat - 1) None) ≡ map.remove (owned_of slots) seat
clear_at_seat slots seat is full = of_slots-clear slots (seat - 1) (omega (arith, is.0, is.1)) ∙ ap (λ s. map.remove (owned_of slots) s) (omega (arith, is.0))

pub slots_of_seats : (slots : List (Option Gtid)) → length slots ≡ 64 → IsOfSeats (owned_of slots)
slots_of_seats slots full seat g e = let p = of_seats slots seat g e in (p.0, omega (arith, p.1))

-- ---- the entries, in order of seats

below_later : (n m : ℕ) (slots : List (Option Gtid)) → n < m → T (below_all nat_cmp n (taken_from m slots))
below_later n m [] h = tt
below_later n m (None ∷ slots) h = below_later n (m + 1) slots (omega arith)
below_later n m (Some gtid ∷ slots) h =
    subst (λ o. T (is_lt o && below_all nat_cmp n (taken_from (m + 1) slots))) (nat_cmp_is n m Less h) (below_later n (m + 1) slots (omega arith))

rising : (n : ℕ) (slots : List (Option Gtid)) → T (is_sorted nat_cmp (taken_from n slots))
rising n [] = tt
rising n (None ∷ slots) = rising (n + 1) slots
rising n (Some gtid ∷ slots) = both _ _ (below_later n (n + 1) slots (omega arith)) (rising (n + 1) slots)
  where
    both : (a b : Bool) → T a → T b → T (a && b)
    both true b p q = q
    both false b p q = absurd p

pub entries-owned_of : (slots : List (Option Gtid)) → map.entries (owned_of slots) ≡ taken_from 1 slots
entries-owned_of slots =
    ap map.entries (map.same_map nat_cmp_total nat_cmp-IsAntisymmetric (owned_of slots) (map.from_sorted (taken_from 1 slots)) (λ q.
    map.get-from_entries nat_cmp_total (taken_from 1 slots) q ∙ sym (map.get-from_sorted nat_cmp (taken_from 1 slots) q (rising 1 slots))))
    ∙ map.entries-from_sorted nat_cmp (taken_from 1 slots) (rising 1 slots)

-- what a seat's slot has is what the seat owns
pub slot_is : (slots : List (Option Gtid)) (seat : ℕ) (held : Option Gtid) → IsSeat seat → length slots ≡ 64 → held ≡ get_or slots (seat - 1) held → held ≡ map.get (owned_of slots) seat
slot_is slots seat held is full e =
    e ∙ get_or_default slots (seat - 1) held None (omega (arith, is.0, is.1)) ∙ sym (get-of_slots slots seat is.0)

-- one slot more, free or not
pub taken_free : (front : List (ℕ × Gtid)) (slots : List (Option Gtid)) (i : ℕ) (held : Option Gtid) → i < length slots → held ≡ get_or slots i held → held ≡ None
    → front ++ taken_from (i + 1) (drop i slots) ≡ taken_from 1 slots → front ++ taken_from (i + 1 + 1) (drop (i + 1) slots) ≡ taken_from 1 slots
taken_free front slots i held h is free e =
    ap (λ o. front ++ taken_from (i + 1) (o ∷ drop (i + 1) slots)) (sym free ∙ is)
    ∙ ap (λ es. front ++ es) (sym (at_drop_more (taken_from (i + 1)) slots i held h)) ∙ e

pub taken_one : (front : List (ℕ × Gtid)) (slots : List (Option Gtid)) (i : ℕ) (held : Option Gtid) (gtid : Gtid) → i < length slots → held ≡ get_or slots i held → held ≡ Some gtid
    → front ++ taken_from (i + 1) (drop i slots) ≡ taken_from 1 slots → (front ++ (i + 1, gtid) ∷ []) ++ taken_from (i + 1 + 1) (drop (i + 1) slots) ≡ taken_from 1 slots
taken_one front slots i held gtid h is owned e =
    append_assoc front ((i + 1, gtid) ∷ []) (taken_from (i + 1 + 1) (drop (i + 1) slots))
    ∙ ap (λ o. front ++ taken_from (i + 1) (o ∷ drop (i + 1) slots)) (sym owned ∙ is)
    ∙ ap (λ es. front ++ es) (sym (at_drop_more (taken_from (i + 1)) slots i held h)) ∙ e

pub taken_all : (front : List (ℕ × Gtid)) (slots : List (Option Gtid)) (i : ℕ) → length slots ≤ i → front ++ taken_from (i + 1) (drop i slots) ≡ taken_from 1 slots → front ≡ map.entries (owned_of slots)
taken_all front slots i h e =
    sym (append-nil front) ∙ ap (λ es. front ++ es) (sym (at_drop_all (taken_from (i + 1)) slots i h)) ∙ e ∙ sym (entries-owned_of slots)
