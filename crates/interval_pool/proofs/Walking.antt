-- A chain is what a walk along its links finds.
use Rattle.std.proofs.Common.{◌≡◌, ◌≢◌, ℕ, zero, suc, ◌+◌, ◌<◌, ◌≤◌, Bool, true, false, cond, List, [], ◌∷◌, ◌++◌, length, Option, Some, None, refl, sym, ap, subst, ◌∙◌, ⊎_elim, inl, inr, arith, length-append}
use Rattle.std.specs.Prelude.{◌==◌}
use Rattle.std.specs.List.{AllByRecursion}
use Rattle.std.proofs.lemmas.Bool.Decides.{eqb_tells}
use Rattle.interval_pool.specs.declared.cells.Cell.{Cell}
use Rattle.interval_pool.specs.declared.cells.Head.{Head}
use Rattle.interval_pool.specs.Cells.{cell_at, head_at, after}
use Rattle.interval_pool.specs.Chains.{first_or, last_or, AreLinked, AreOnce, IsAmong, AreChains}
use Rattle.interval_pool.specs.Pools.{walk, chain_of}

pub walk_is : (cells : List Cell) (k : ℕ) (is : List ℕ) → AreLinked cells k is None → walk cells (length is) (first_or None is) ≡ is
walk_is cells k [] linked = refl
walk_is cells k (i ∷ is) linked = ap (λ at. i ∷ walk cells (length is) at) linked.0.next_is ∙ ap (λ js. i ∷ js) (walk_is cells k is linked.1)

pub chain_is : (cells : List Cell) (heads : List Head) (out : Option ℕ) (chain : ℕ → List ℕ) → AreChains cells heads out chain → (k : ℕ) → chain_of cells heads k ≡ chain k
chain_is cells heads out chain h k =
    ap (λ n. walk cells n (head_at heads k).first) (h.count k) ∙ (ap (λ at. walk cells (length (chain k)) at) (h.first k) ∙ walk_is cells k (chain k) (h.linked k))

-- so the chains are those that a walk finds
pub rewalked : (cells : List Cell) (heads : List Head) (out : Option ℕ) (chain : ℕ → List ℕ) → AreChains cells heads out chain → AreChains cells heads out (chain_of cells heads)
rewalked cells heads out chain h =
    let same : chain ≡ chain_of cells heads = λ i k. sym (chain_is cells heads out chain h k) i in
    subst (AreChains cells heads out) same h

-- what comes after some cells of a chain
pub after_is : (cells : List Cell) (heads : List Head) (out : Option ℕ) (chain : ℕ → List ℕ) (k : ℕ) (xs ys : List ℕ) → AreChains cells heads out chain → chain k ≡ xs ++ ys → after cells heads k (last_or None xs) ≡ first_or None ys
after_is cells heads out chain k xs ys h at = along xs (h.first k ∙ ap (first_or None) at) (subst (λ is. AreLinked cells k is None) at (h.linked k))
  where
    later : (x : ℕ) (xs ys : List ℕ) → AreLinked cells k (x ∷ xs ++ ys) None → after cells heads k (last_or (Some x) xs) ≡ first_or None ys
    later x [] ys linked = linked.0.next_is
    later x (w ∷ xs) ys linked = later w xs ys linked.1

    along : (xs : List ℕ) → (head_at heads k).first ≡ first_or None (xs ++ ys) → AreLinked cells k (xs ++ ys) None → after cells heads k (last_or None xs) ≡ first_or None ys
    along [] first linked = first
    along (x ∷ xs) first linked = later x xs ys linked

-- ---- a new cell

pub new_cell : (cells : List Cell) (c : Cell) (j : ℕ) → j < length cells → cell_at (cells ++ c ∷ []) j ≡ cell_at cells j
new_cell [] c j lt = absurd (omega (lt, arith))
new_cell (d ∷ cells) c zero lt = refl
new_cell (d ∷ cells) c (suc j) lt = new_cell cells c j (omega (lt, arith))

still_linked : (cells : List Cell) (c : Cell) (k : ℕ) (is : List ℕ) (e : Option ℕ) → AreLinked cells k is e → AreLinked (cells ++ c ∷ []) k is e
still_linked cells c k [] e linked = tt
still_linked cells c k (i ∷ is) e linked =
    let same = new_cell cells c i linked.0.below in
    let lt : i < length cells = linked.0.below in (
      record { below = omega (lt, arith, length-append cells (c ∷ [])); owner = ap (λ (d : Cell). d.owner) same ∙ linked.0.owner; next_is = ap (λ (d : Cell). d.next) same ∙ linked.0.next_is },
      still_linked cells c k is e linked.1,
    )

below_apart : (cells : List Cell) (k n : ℕ) (is : List ℕ) (e : Option ℕ) → length cells ≤ n → AreLinked cells k is e → AllByRecursion (λ j. j ≢ n) is
below_apart cells k n [] e le linked = tt
below_apart cells k n (i ∷ is) e le linked = let lt : i < length cells = linked.0.below in ((λ same. omega (lt, le, same, arith)), below_apart cells k n is e le linked.1)

pub grows : (cells : List Cell) (heads : List Head) (chain : ℕ → List ℕ) (c : Cell) → AreChains cells heads None chain → AreChains (cells ++ c ∷ []) heads (Some (length cells)) chain
grows cells heads chain c h = record {
  first = h.first;
  count = h.count;
  linked = λ k. still_linked cells c k (chain k) None (h.linked k);
  once = h.once;
  whole = λ i lt. ⊎_elim
      (λ (e : ((i == length cells) ≡ true) × (i ≡ length cells)). inl (ap Some (sym e.1)))
      (λ (e : ((i == length cells) ≡ false) × (i ≢ length cells)).
      let ne = e.1 in
      let below : i < length cells = omega (lt, ne, arith, length-append cells (c ∷ [])) in
      let a : IsAmong i (chain (cell_at cells i).owner) = ⊎_elim (λ s. absurd (cc)) (λ a. a) (h.whole i below) in
      inr (subst (λ o. IsAmong i (chain o)) (sym (ap (λ (d : Cell). d.owner) (new_cell cells c i below))) a))
      (eqb_tells i (length cells));
  apart = λ i k e. below_apart cells k i (chain k) None (let same : length cells ≡ i = cc in omega (same, arith)) (h.linked k);
}

-- ---- how many cells a chain has

abbrev pub without : ℕ → List ℕ → List ℕ
without n [] = []
without n (i ∷ is) = cond (i == n) (without n is) (i ∷ without n is)

pub without_none : (n : ℕ) (is : List ℕ) → AllByRecursion (λ j. j ≢ n) is → without n is ≡ is
without_none n [] ne = refl
without_none n (i ∷ is) ne = ⊎_elim
    (λ (e : ((i == n) ≡ true) × (i ≡ n)). absurd (ne.0 e.1))
    (λ (e : ((i == n) ≡ false) × (i ≢ n)). ap (λ b. cond b (without n is) (i ∷ without n is)) e.0 ∙ ap (λ js. i ∷ js) (without_none n is ne.1))
    (eqb_tells i n)

without_length : (n : ℕ) (is : List ℕ) → AreOnce is → length is ≤ length (without n is) + 1
without_length n [] once = omega arith
without_length n (i ∷ is) once = ⊎_elim
    (λ (e : ((i == n) ≡ true) × (i ≡ n)).
    let same : without n (i ∷ is) ≡ is = ap (λ b. cond b (without n is) (i ∷ without n is)) e.0
    ∙ without_none n is (let P : ℕ → Type 0 = λ m. AllByRecursion (λ j. j ≢ m) is in subst P e.1 once.0) in
    let f = ap length same in omega (f, arith))
    (λ (e : ((i == n) ≡ false) × (i ≢ n)).
    let same : without n (i ∷ is) ≡ i ∷ without n is = ap (λ b. cond b (without n is) (i ∷ without n is)) e.0 in
    let f = ap length same in let more = without_length n is once.1 in omega (f, more, arith))
    (eqb_tells i n)

without_all : (P : ℕ → Type 0) (n : ℕ) (is : List ℕ) → AllByRecursion P is → AllByRecursion P (without n is)
without_all P n [] all = tt
without_all P n (i ∷ is) all = picked (i == n) (without_all P n is all.1)
  where
    picked : (b : Bool) → AllByRecursion P (without n is) → AllByRecursion P (cond b (without n is) (i ∷ without n is))
    picked true more = more
    picked false more = (all.0, more)

pub without_once : (n : ℕ) (is : List ℕ) → AreOnce is → AreOnce (without n is)
without_once n [] once = tt
without_once n (i ∷ is) once = picked (i == n) (without_once n is once.1)
  where
    picked : (b : Bool) → AreOnce (without n is) → AreOnce (cond b (without n is) (i ∷ without n is))
    picked true more = more
    picked false more = (without_all (λ j. j ≢ i) n is once.0, more)

pub without_below : (n : ℕ) (is : List ℕ) → AllByRecursion (λ j. j < suc n) is → AllByRecursion (λ j. j < n) (without n is)
without_below n [] all = tt
without_below n (i ∷ is) all = ⊎_elim
    (λ (e : ((i == n) ≡ true) × (i ≡ n)). subst (λ b. AllByRecursion (λ j. j < n) (cond b (without n is) (i ∷ without n is))) (sym e.0) (without_below n is all.1))
    (λ (e : ((i == n) ≡ false) × (i ≢ n)). subst (λ b. AllByRecursion (λ j. j < n) (cond b (without n is) (i ∷ without n is))) (sym e.0)
    (let lt = all.0 in let ne = e.1 in (omega (lt, ne, arith), without_below n is all.1)))
    (eqb_tells i n)

pub once_few : (n : ℕ) (is : List ℕ) → AreOnce is → AllByRecursion (λ j. j < n) is → length is ≤ n
once_few zero [] once all = omega arith
once_few zero (i ∷ is) once all = absurd (let lt : i < 0 = all.0 in omega (lt, arith))
once_few (suc n) is once all =
    let more = once_few n (without n is) (without_once n is once) (without_below n is all) in
    let le = without_length n is once in
    omega (more, le, arith)

pub all_below : (cells : List Cell) (k : ℕ) (is : List ℕ) (e : Option ℕ) → AreLinked cells k is e → AllByRecursion (λ j. j < length cells) is
all_below cells k [] e linked = tt
all_below cells k (i ∷ is) e linked = (linked.0.below, all_below cells k is e linked.1)

-- no more than there are
pub chain_few : (cells : List Cell) (heads : List Head) (out : Option ℕ) (chain : ℕ → List ℕ) (k : ℕ) → AreChains cells heads out chain → length (chain k) ≤ length cells
chain_few cells heads out chain k h = once_few (length cells) (chain k) (h.once k) (all_below cells k (chain k) None (h.linked k))

-- and fewer while one is in none
pub chain_fewer : (cells : List Cell) (heads : List Head) (i : ℕ) (chain : ℕ → List ℕ) (k : ℕ) → AreChains cells heads (Some i) chain → i < length cells → length (chain k) < length cells
chain_fewer cells heads i chain k h lt =
    let more = once_few (length cells) (i ∷ chain k) (h.apart i k refl, h.once k) (lt, all_below cells k (chain k) None (h.linked k)) in
    omega (more, arith)
