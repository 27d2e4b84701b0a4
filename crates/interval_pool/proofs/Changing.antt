-- What taking a cell out of a chain, and putting it in, leaves.
use Rattle.std.proofs.Common.{◌≡◌, ◌≢◌, ℕ, zero, suc, ◌+◌, ◌-◌, ◌<◌, ◌≤◌, ◌⊎◌, true, false, List, [], ◌∷◌, ◌++◌, length, Option, Some, None, refl, sym, ap, subst, ◌∙◌, ⊎_elim, inl, inr, arith, length-append, length-set}
use Rattle.std.specs.Prelude.{slice_set, ◌==◌}
use Rattle.std.proofs.lemmas.Bool.Decides.{eqb_tells}
use Rattle.interval_pool.specs.declared.cells.Cell.{Cell}
use Rattle.interval_pool.specs.declared.cells.Head.{Head}
use Rattle.interval_pool.specs.Cells.{cell_at, head_at, after, first_with, with_next, with_head, with_owner}
use Rattle.interval_pool.specs.Chains.{first_or, last_or, AreLinked, AreChains, with_chain}
use Rattle.interval_pool.specs.declared.interval.Interval.{Interval}
use Rattle.interval_pool.specs.Pools.{chain_of, AreWhole, AreWholeBut, interval_at, Unlinked, Linked}
use Rattle.interval_pool.proofs.Linking.{cell_other, cell_same, head_other, head_same, in_parts, length_next, unlinks, links}
use Rattle.interval_pool.proofs.Walking.{chain_is, rewalked, after_is}

-- ---- what stays

-- a cell that is written with the same numbers
same_interval : (cells : List Cell) (i : ℕ) (c : Cell) (j : ℕ) → c.lo ≡ (cell_at cells i).lo → c.hi ≡ (cell_at cells i).hi → interval_at (slice_set cells i c) j ≡ interval_at cells j
same_interval cells i c j lo hi = ⊎_elim here (λ (h : ((j == i) ≡ false) × (j ≢ i)). ap (λ (d : Cell). let r : Interval = record { lo = d.lo; hi = d.hi } in r) (cell_other cells i j c h.1)) (eqb_tells j i)
  where
    beyond : (cells : List Cell) (i : ℕ) → length cells ≤ i → slice_set cells i c ≡ cells
    beyond [] i le = refl
    beyond (d ∷ cells) zero le = absurd (omega (le, arith))
    beyond (d ∷ cells) (suc i) le = ap (λ ds. d ∷ ds) (beyond cells i (omega (le, arith)))

    at_i : (i < length cells) ⊎ (length cells ≤ i) → interval_at (slice_set cells i c) i ≡ interval_at cells i
    at_i (inl lt) = let same = cell_same cells i c lt in (λ p. record { lo = (ap (λ (d : Cell). d.lo) same ∙ lo) p; hi = (ap (λ (d : Cell). d.hi) same ∙ hi) p })
    at_i (inr le) = ap (λ ds. interval_at ds i) (beyond cells i le)

    here : ((j == i) ≡ true) × (j ≡ i) → interval_at (slice_set cells i c) j ≡ interval_at cells j
    here h = let P : ℕ → Type 0 = λ n. interval_at (slice_set cells i c) n ≡ interval_at cells n in subst P (sym h.1) (at_i (grind arith))

next_interval : (cells : List Cell) (before e : Option ℕ) (j : ℕ) → interval_at (with_next cells before e) j ≡ interval_at cells j
next_interval cells None e j = refl
next_interval cells (Some p) e j = same_interval cells p (record (cell_at cells p) { next = e }) j refl refl

same_list : (heads : List Head) (k : ℕ) (h : Head) (j : ℕ) → h.is_list ≡ (head_at heads k).is_list → (head_at (slice_set heads k h) j).is_list ≡ (head_at heads j).is_list
same_list heads k h j e = ⊎_elim here (λ (ne : ((j == k) ≡ false) × (j ≢ k)). ap (λ (d : Head). d.is_list) (head_other heads k j h ne.1)) (eqb_tells j k)
  where
    beyond : (heads : List Head) (k : ℕ) → length heads ≤ k → slice_set heads k h ≡ heads
    beyond [] k le = refl
    beyond (d ∷ heads) zero le = absurd (omega (le, arith))
    beyond (d ∷ heads) (suc k) le = ap (λ ds. d ∷ ds) (beyond heads k (omega (le, arith)))

    at_k : (k < length heads) ⊎ (length heads ≤ k) → (head_at (slice_set heads k h) k).is_list ≡ (head_at heads k).is_list
    at_k (inl lt) = ap (λ (d : Head). d.is_list) (head_same heads k h lt) ∙ e
    at_k (inr le) = ap (λ ds. (head_at ds k).is_list) (beyond heads k le)

    here : ((j == k) ≡ true) × (j ≡ k) → (head_at (slice_set heads k h) j).is_list ≡ (head_at heads j).is_list
    here same = let P : ℕ → Type 0 = λ n. (head_at (slice_set heads k h) n).is_list ≡ (head_at heads n).is_list in subst P (sym same.1) (at_k (grind arith))

-- ---- both changes

pub unlinked : (cells : List Cell) (heads : List Head) (k i : ℕ) (xs ys : List ℕ) (before at next : Option ℕ) (n : ℕ) → AreWhole cells heads → k < length heads → chain_of cells heads k ≡ xs ++ i ∷ ys → before ≡ last_or None xs
    → at ≡ after cells heads k before → next ≡ after cells heads k at → n ≡ (head_at heads k).len - 1
    → Unlinked cells heads k xs i ys at (with_next cells before next) (with_head heads k before next n)
unlinked cells heads k i xs ys before at next n h lt parts is_before is_at is_next is_n =
    let found : at ≡ Some i = is_at ∙ (ap (after cells heads k) is_before ∙ after_is cells heads None (chain_of cells heads) k xs (i ∷ ys) h parts) in
    let linked = in_parts cells k xs (i ∷ ys) None (subst (λ is. AreLinked cells k is None) parts (h.linked k)) in
    let goes : next ≡ first_or None ys = is_next ∙ (ap (after cells heads k) found ∙ linked.1.0.next_is) in
    let size : n ≡ length (xs ++ ys) = let e : (head_at heads k).len ≡ length (xs ++ i ∷ ys) = h.count k ∙ ap length parts in omega (is_n, e, arith, length-append xs (i ∷ ys), length-append xs ys) in
    let moved = unlinks cells heads (chain_of cells heads) k i xs ys h lt parts in
    let cells_are : with_next cells before next ≡ with_next cells (last_or None xs) (first_or None ys) = (λ p. with_next cells (is_before p) (goes p)) in
    let heads_are : with_head heads k before next n ≡ with_head heads k (last_or None xs) (first_or None ys) (length (xs ++ ys)) = (λ p. with_head heads k (is_before p) (goes p) (size p)) in
    let result : AreChains (with_next cells before next) (with_head heads k before next n) (Some i) (with_chain (chain_of cells heads) k (xs ++ ys)) =
    subst (λ cs. AreChains cs (with_head heads k before next n) (Some i) (with_chain (chain_of cells heads) k (xs ++ ys))) (sym cells_are)
    (subst (λ hs. AreChains (with_next cells (last_or None xs) (first_or None ys)) hs (Some i) (with_chain (chain_of cells heads) k (xs ++ ys))) (sym heads_are) moved) in
    record {
      found = found;
      below = linked.1.0.below;
      whole = rewalked (with_next cells before next) (with_head heads k before next n) (Some i) (with_chain (chain_of cells heads) k (xs ++ ys)) result;
      chains = chain_is (with_next cells before next) (with_head heads k before next n) (Some i) (with_chain (chain_of cells heads) k (xs ++ ys)) result;
      keeps = record {
        as_many = length_next cells before next;
        as_many_chains = simp length-set;
        intervals = next_interval cells before next;
        lists = λ j. same_list heads k (record (head_at heads k) { first = first_with before next (head_at heads k).first; len = n }) j refl;
      };
    }

pub linked : (cells : List Cell) (heads : List Head) (k i : ℕ) (xs ys : List ℕ) (before next : Option ℕ) (n : ℕ) → AreWholeBut cells heads i → k < length heads → i < length cells → chain_of cells heads k ≡ xs ++ ys → before ≡ last_or None xs
    → next ≡ after cells heads k before → n ≡ (head_at heads k).len + 1
    → Linked cells heads k xs i ys (with_next (with_owner cells i k next) before (Some i)) (with_head heads k before (Some i) n)
linked cells heads k i xs ys before next n h lt below parts is_before is_next is_n =
    let goes : next ≡ first_or None ys = is_next ∙ (ap (after cells heads k) is_before ∙ after_is cells heads (Some i) (chain_of cells heads) k xs ys h parts) in
    let size : n ≡ length (xs ++ i ∷ ys) = let e : (head_at heads k).len ≡ length (xs ++ ys) = h.count k ∙ ap length parts in omega (is_n, e, arith, length-append xs (i ∷ ys), length-append xs ys) in
    let chain' : ℕ → List ℕ = with_chain (chain_of cells heads) k (xs ++ i ∷ ys) in
    let cells' : List Cell = with_next (with_owner cells i k next) before (Some i) in
    let heads' : List Head = with_head heads k before (Some i) n in
    let moved = links cells heads (chain_of cells heads) k i xs ys h lt below parts in
    let cells_are : cells' ≡ with_next (with_owner cells i k (first_or None ys)) (last_or None xs) (Some i) = (λ p. with_next (with_owner cells i k (goes p)) (is_before p) (Some i)) in
    let heads_are : heads' ≡ with_head heads k (last_or None xs) (Some i) (length (xs ++ i ∷ ys)) = (λ p. with_head heads k (is_before p) (Some i) (size p)) in
    let result : AreChains cells' heads' None chain' =
    subst (λ cs. AreChains cs heads' None chain') (sym cells_are)
    (subst (λ hs. AreChains (with_next (with_owner cells i k (first_or None ys)) (last_or None xs) (Some i)) hs None chain') (sym heads_are) moved) in
    record {
      whole = rewalked cells' heads' None chain' result;
      chains = chain_is cells' heads' None chain' result;
      keeps = record {
        as_many = length_next (with_owner cells i k next) before (Some i) ∙ simp length-set;
        as_many_chains = simp length-set;
        intervals = λ j. next_interval (with_owner cells i k next) before (Some i) j ∙ same_interval cells i (record (cell_at cells i) { next = next; owner = k }) j refl refl;
        lists = λ j. same_list heads k (record (head_at heads k) { first = first_with before (Some i) (head_at heads k).first; len = n }) j refl;
      };
    }
