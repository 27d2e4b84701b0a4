-- The cells that are in lists are no more than the intervals of all lists that a caller knows.
use Rattle.std.proofs.Common.{◌≡◌, ◌≢◌, ℕ, suc, ◌+◌, ◌-◌, ◌≤◌, Bool, true, false, cond, List, [], ◌∷◌, length, map, Option, Some, None, sym, ap, subst, ◌∙◌, ⊎_elim, arith, length-append}
use Rattle.std.specs.Prelude.{is_some, unwrap_or, slice_index_or, ◌==◌}
use Rattle.std.proofs.lemmas.Bool.Decides.{eqb_tells}
use Rattle.std.proofs.lemmas.List.{length-map}
use Rattle.std.specs.List.{AllByRecursion}
use Rattle.interval_pool.specs.Chains.{AreOnce, IsAmong}
use Rattle.interval_pool.specs.Values.{Held, PoolValue, slot_at, IsList, spans, cells_in_lists, AreAmong, intervals_of}
use Rattle.interval_pool.proofs.Walking.{without, without_none, without_once}
use Rattle.interval_pool.proofs.Parting.{among_without}

-- these slots are those from a place on
abbrev AreSlotsFrom : PoolValue → ℕ → List (Option (List Held)) → Type 0
AreSlotsFrom p k slots = (j : ℕ) → slice_index_or slots j None ≡ slot_at p (k + j)

next_slots : (p : PoolValue) (k : ℕ) (slot : Option (List Held)) (slots : List (Option (List Held))) → AreSlotsFrom p k (slot ∷ slots) → AreSlotsFrom p (suc k) slots
next_slots p k slot slots from j = from (suc j) ∙ ap (slot_at p) (let e : k + suc j ≡ suc k + j = omega arith in e)

this_slot : (p : PoolValue) (k : ℕ) (slot : Option (List Held)) (slots : List (Option (List Held))) → AreSlotsFrom p k (slot ∷ slots) → slot ≡ slot_at p k
this_slot p k slot slots from = from 0 ∙ ap (slot_at p) (let e : k + 0 ≡ k = omega arith in e)

fewer : (p : PoolValue) (k : ℕ) (ls : List ℕ) → intervals_of p (without k ls) ≤ intervals_of p ls
fewer p k [] = omega arith
fewer p k (l ∷ ls) = picked (l == k) (fewer p k ls)
  where
    picked : (b : Bool) → intervals_of p (without k ls) ≤ intervals_of p ls → intervals_of p (cond b (without k ls) (l ∷ without k ls)) ≤ intervals_of p (l ∷ ls)
    picked true le = omega (le, arith)
    picked false le = omega (le, arith)

fewer_by : (p : PoolValue) (k : ℕ) (ls : List ℕ) → IsAmong k ls → length (spans p k) + intervals_of p (without k ls) ≤ intervals_of p ls
fewer_by p k [] among = absurd among
fewer_by p k (l ∷ ls) among =
    let P : Bool → Type 0 = λ b. length (spans p k) + intervals_of p (cond b (without k ls) (l ∷ without k ls)) ≤ intervals_of p (l ∷ ls) in
    ⊎_elim
    (λ (e : ((l == k) ≡ true) × (l ≡ k)). subst P (sym e.0) (let le = fewer p k ls in let same = ap (λ n. length (spans p n)) e.1 in omega (le, same, arith)))
    (λ (e : ((l == k) ≡ false) × (l ≢ k)). subst P (sym e.0) (⊎_elim (λ same. absurd (e.1 (sym same))) (λ more. let le = fewer_by p k ls more in omega (le, arith)) among))
    (eqb_tells l k)

within : (p : PoolValue) (k : ℕ) (slots : List (Option (List Held))) (ls : List ℕ) → AreSlotsFrom p k slots → ((j : ℕ) → IsList p (k + j) → IsAmong (k + j) ls) → length (cells_in_lists slots) ≤ intervals_of p ls
within p k [] ls from all = omega arith
within p k (None ∷ slots) ls from all =
    within p (suc k) slots ls (next_slots p k None slots from)
    (λ j is. let e : k + suc j ≡ suc k + j = omega arith in subst (λ n. IsAmong n ls) e (all (suc j) (subst (IsList p) (sym e) is)))
within p k (Some hs ∷ slots) ls from all =
    let here = this_slot p k (Some hs) slots from in
    let among : IsAmong k ls = (let e : k + 0 ≡ k = omega arith in subst (λ n. IsAmong n ls) e (all 0 (subst (IsList p) (sym e) (ap is_some (sym here))))) in
    let rest = within p (suc k) slots (without k ls) (next_slots p k (Some hs) slots from)
    (λ j is.
    let e : k + suc j ≡ suc k + j = omega arith in
    let other : suc k + j ≢ k = λ same. omega (same, arith) in
    among_without k (suc k + j) ls other (subst (λ n. IsAmong n ls) e (all (suc j) (subst (IsList p) (sym e) is)))) in
    let more = fewer_by p k ls among in
    let count = ap (λ o. length (map (λ (h : Held). h.numbers) (unwrap_or o []))) here in
    let numbers = length-map hs (λ (h : Held). h.numbers) in
    let cells = length-map hs (λ (h : Held). h.cell) in
    let sum = length-append (map (λ (h : Held). h.cell) hs) (cells_in_lists slots) in
    omega (rest, more, count, numbers, cells, sum, arith)

pub stand_within : (p : PoolValue) (ls : List ℕ) → AreAmong p ls → length (cells_in_lists p.lists) ≤ intervals_of p ls
stand_within p ls all = within p 0 p.lists ls
    (λ j. ap (slot_at p) (let e : j ≡ 0 + j = omega arith in e))
    (λ j is. all (0 + j) is)

-- ---- and as many at least as those of distinct lists

most_by : (p : PoolValue) (k : ℕ) (ls : List ℕ) → AreOnce ls → intervals_of p ls ≤ length (spans p k) + intervals_of p (without k ls)
most_by p k [] once = omega arith
most_by p k (l ∷ ls) once =
    let P : Bool → Type 0 = λ b. intervals_of p (l ∷ ls) ≤ length (spans p k) + intervals_of p (cond b (without k ls) (l ∷ without k ls)) in
    ⊎_elim
    (λ (e : ((l == k) ≡ true) × (l ≡ k)).
    let others : AllByRecursion (λ m. m ≢ k) ls = (let Q : ℕ → Type 0 = λ n. AllByRecursion (λ m. m ≢ n) ls in subst Q e.1 once.0) in
    let rest = ap (intervals_of p) (without_none k ls others) in
    let same = ap (λ n. length (spans p n)) e.1 in
    subst P (sym e.0) (omega (rest, same, arith)))
    (λ (e : ((l == k) ≡ false) × (l ≢ k)). subst P (sym e.0) (let le = most_by p k ls once.1 in omega (le, arith)))
    (eqb_tells l k)

without_above : (k : ℕ) (ls : List ℕ) → AllByRecursion (λ l. k ≤ l) ls → AllByRecursion (λ l. suc k ≤ l) (without k ls)
without_above k [] all = tt
without_above k (l ∷ ls) all =
    let P : Bool → Type 0 = λ b. AllByRecursion (λ m. suc k ≤ m) (cond b (without k ls) (l ∷ without k ls)) in
    ⊎_elim
    (λ (e : ((l == k) ≡ true) × (l ≡ k)). subst P (sym e.0) (without_above k ls all.1))
    (λ (e : ((l == k) ≡ false) × (l ≢ k)). subst P (sym e.0) (let le = all.0 in let ne = e.1 in (omega (le, ne, arith), without_above k ls all.1)))
    (eqb_tells l k)

none_beyond : (p : PoolValue) (k : ℕ) (ls : List ℕ) → AreSlotsFrom p k [] → AllByRecursion (λ l. k ≤ l) ls → intervals_of p ls ≤ 0
none_beyond p k [] from all = omega arith
none_beyond p k (l ∷ ls) from all =
    let le = all.0 in
    let at : k + (l - k) ≡ l = omega (le, arith) in
    let none : None ≡ slot_at p l = from (l - k) ∙ ap (slot_at p) at in
    let count = ap (λ o. length (map (λ (h : Held). h.numbers) (unwrap_or o []))) none in
    let rest = none_beyond p k ls from all.1 in
    omega (count, rest, arith)

beyond : (p : PoolValue) (k : ℕ) (slots : List (Option (List Held))) (ls : List ℕ) → AreSlotsFrom p k slots → AreOnce ls → AllByRecursion (λ l. k ≤ l) ls → intervals_of p ls ≤ length (cells_in_lists slots)
beyond p k [] ls from once all = none_beyond p k ls from all
beyond p k (None ∷ slots) ls from once all =
    let here = this_slot p k None slots from in
    let count = ap (λ o. length (map (λ (h : Held). h.numbers) (unwrap_or o []))) here in
    let rest = beyond p (suc k) slots (without k ls) (next_slots p k None slots from) (without_once k ls once) (without_above k ls all) in
    let most = most_by p k ls once in
    omega (count, rest, most, arith)
beyond p k (Some hs ∷ slots) ls from once all =
    let here = this_slot p k (Some hs) slots from in
    let count = ap (λ o. length (map (λ (h : Held). h.numbers) (unwrap_or o []))) here in
    let rest = beyond p (suc k) slots (without k ls) (next_slots p k (Some hs) slots from) (without_once k ls once) (without_above k ls all) in
    let most = most_by p k ls once in
    let numbers = length-map hs (λ (h : Held). h.numbers) in
    let cells = length-map hs (λ (h : Held). h.cell) in
    let sum = length-append (map (λ (h : Held). h.cell) hs) (cells_in_lists slots) in
    omega (count, rest, most, numbers, cells, sum, arith)

pub distinct_stand : (p : PoolValue) (ls : List ℕ) → AreOnce ls → intervals_of p ls ≤ length (cells_in_lists p.lists)
distinct_stand p ls once = beyond p 0 p.lists ls (λ j. ap (slot_at p) (let e : j ≡ 0 + j = omega arith in e)) once (from_none ls)
  where
    from_none : (ls : List ℕ) → AllByRecursion (λ l. 0 ≤ l) ls
    from_none [] = tt
    from_none (l ∷ ls) = (omega arith, from_none ls)
