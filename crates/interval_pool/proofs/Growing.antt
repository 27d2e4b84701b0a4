-- What other numbers in a cell leave.
use Rattle.std.proofs.Common.{◌≡◌, ◌≢◌, ℕ, ◌+◌, ◌<◌, ◌≤◌, ◌⊎◌, true, false, ◌&&◌, ◌||◌, nat_le, List, [], ◌∷◌, ◌++◌, length, map, Option, Some, None, refl, sym, ap, subst, ◌∙◌, ⊎_elim, inl, arith, length-append, length-set}
use Rattle.std.specs.Prelude.{max, slice_set, ◌==◌}
use Rattle.std.specs.List.{AllByRecursion}
use Rattle.std.proofs.lemmas.Bool.Decides.{eqb_tells, nat_tests}
use Rattle.std.proofs.lemmas.List.{map-append, nil_from_length}
use Rattle.interval_pool.specs.declared.cells.Cell.{Cell}
use Rattle.interval_pool.specs.declared.cells.Head.{Head}
use Rattle.interval_pool.specs.declared.interval.Interval.{Interval}
use Rattle.interval_pool.specs.Links.{most_cells}
use Rattle.interval_pool.specs.Cells.{after, cell_at, with_end, with_numbers}
use Rattle.interval_pool.specs.Chains.{first_or, last_or, IsCell, AreLinked, AreOnce, AreChains, IsAmong}
use Rattle.interval_pool.specs.Intervals.{IsBefore, IsApart, AreMerged, covers, has}
use Rattle.interval_pool.specs.Pools.{chain_of, interval_at, AreWhole, KeepsOthers}
use Rattle.interval_pool.specs.Places.{IsBehind, TouchesEnd}
use Rattle.interval_pool.specs.Changes.{spans_of, free_count, Added, Replaced}
use Rattle.interval_pool.proofs.Facts.{or_false, or_three, all_parts, all_joined, all_weaker}
use Rattle.interval_pool.proofs.Linking.{cell_other, cell_same, in_parts, kept_cell, once_without}
use Rattle.interval_pool.proofs.Walking.{after_is, chain_is, rewalked}
use Rattle.interval_pool.proofs.Lists.{same_but}
use Rattle.interval_pool.proofs.Appending.{end_parts}
use Rattle.interval_pool.proofs.Altering.{has_append}

-- ---- a cell with the same owner and the same cell after it

module _ (cells : List Cell) (i : ℕ) (c : Cell) (lt : i < length cells) (owner : c.owner ≡ (cell_at cells i).owner) (next : c.next ≡ (cell_at cells i).next) where
  abbrev rewritten : List Cell
  rewritten = slice_set cells i c

  owner_stays : (j : ℕ) → (cell_at rewritten j).owner ≡ (cell_at cells j).owner
  owner_stays j = ⊎_elim
      (λ (e : ((j == i) ≡ true) × (j ≡ i)).
      let P : ℕ → Type 0 = λ n. (cell_at rewritten n).owner ≡ (cell_at cells n).owner in
      subst P (sym e.1) (ap (λ (d : Cell). d.owner) (cell_same cells i c lt) ∙ owner))
      (λ (e : ((j == i) ≡ false) × (j ≢ i)). ap (λ (d : Cell). d.owner) (cell_other cells i j c e.1))
      (eqb_tells j i)

  cell_stays : (k j : ℕ) (e : Option ℕ) → IsCell cells k j e → IsCell rewritten k j e
  cell_stays k j e is = ⊎_elim
      (λ (h : ((j == i) ≡ true) × (j ≡ i)).
      let same : cell_at rewritten j ≡ c = (let P : ℕ → Type 0 = λ n. cell_at rewritten n ≡ c in subst P (sym h.1) (cell_same cells i c lt)) in
      let at : (cell_at cells i).next ≡ (cell_at cells j).next = ap (λ n. (cell_at cells n).next) (sym h.1) in
      record {
        below = let b = is.below in simp length-set b;
        owner = owner_stays j ∙ is.owner;
        next_is = ap (λ (d : Cell). d.next) same ∙ (next ∙ (at ∙ is.next_is));
      })
      (λ (h : ((j == i) ≡ false) × (j ≢ i)). kept_cell cells i k j c e h.1 is)
      (eqb_tells j i)

  links_stay : (k : ℕ) (is : List ℕ) (e : Option ℕ) → AreLinked cells k is e → AreLinked rewritten k is e
  links_stay k [] e linked = tt
  links_stay k (j ∷ js) e linked = (cell_stays k j (first_or e js) linked.0, links_stay k js e linked.1)

  whole_stays : (heads : List Head) → AreWhole cells heads → AreChains rewritten heads None (chain_of cells heads)
  whole_stays heads h = record {
    first = h.first;
    count = h.count;
    linked = λ k. links_stay k (chain_of cells heads k) None (h.linked k);
    once = h.once;
    whole = λ j below.
        let lt0 : j < length cells = simp length-set at below in
        subst (λ o. (None ≡ Some j) ⊎ IsAmong j (chain_of cells heads o)) (sym (owner_stays j)) (h.whole j lt0);
    apart = h.apart;
  }

  apart_from : (k : ℕ) (is : List ℕ) (e : Option ℕ) → (cell_at cells i).owner ≢ k → AreLinked cells k is e → AllByRecursion (λ j. j ≢ i) is
  apart_from k [] e ne linked = tt
  apart_from k (j ∷ js) e ne linked = ((λ same. ne (ap (λ n. (cell_at cells n).owner) (sym same) ∙ linked.0.owner)), apart_from k js e ne linked.1)

  others_stay : (j : ℕ) → j ≢ i → interval_at rewritten j ≡ interval_at cells j
  others_stay j ne = ap (λ (d : Cell). let r : Interval = record { lo = d.lo; hi = d.hi } in r) (cell_other cells i j c ne)

  chains_stay : (heads : List Head) → AreWhole cells heads → (m : ℕ) → chain_of rewritten heads m ≡ chain_of cells heads m
  chains_stay heads h m = chain_is rewritten heads None (chain_of cells heads) (whole_stays heads h) m

  -- all that is no list of its owner stays
  pub keeps_others : (heads : List Head) (k : ℕ) → AreWhole cells heads → (cell_at cells i).owner ≡ k → KeepsOthers cells heads k rewritten heads
  keeps_others heads k h own = record {
    whole = rewalked rewritten heads None (chain_of cells heads) (whole_stays heads h);
    as_many_chains = refl;
    lists = λ m. refl;
    chains = λ m free other. chains_stay heads h m;
    intervals = λ m free other. same_but cells rewritten i others_stay (chain_of cells heads m) (apart_from m (chain_of cells heads m) None (λ e. other (sym e ∙ own)) (h.linked m));
  }

  -- and the list has the other interval in the place of one
  pub spans_with : (heads : List Head) (k : ℕ) (xs ys : List ℕ) → AreWhole cells heads → chain_of cells heads k ≡ xs ++ i ∷ ys → spans_of rewritten heads k ≡ map (interval_at cells) xs ++ record { lo = c.lo; hi = c.hi } ∷ map (interval_at cells) ys
  spans_with heads k xs ys h parts =
      let apart = all_parts (λ j. j ≢ i) xs ys (once_without xs ys i (subst AreOnce parts (h.once k))).1 in
      let here : interval_at rewritten i ≡ record { lo = c.lo; hi = c.hi } = ap (λ (d : Cell). let r : Interval = record { lo = d.lo; hi = d.hi } in r) (cell_same cells i c lt) in
      ap (map (interval_at rewritten)) (chains_stay heads h k ∙ parts)
      ∙ (map-append (interval_at rewritten) xs (i ∷ ys) ∙ (λ p. same_but cells rewritten i others_stay xs apart.0 p ++ here p ∷ same_but cells rewritten i others_stay ys apart.1 p))

-- ---- other numbers in a cell

-- the walk reaches the cell
pub renewed_at : (cells : List Cell) (heads : List Head) (k i : ℕ) (before : Option ℕ) (xs ys : List ℕ) → AreWhole cells heads → chain_of cells heads k ≡ xs ++ i ∷ ys → before ≡ last_or None xs → after cells heads k before ≡ Some i
renewed_at cells heads k i before xs ys h parts is_before = ap (after cells heads k) is_before ∙ after_is cells heads None (chain_of cells heads) k xs (i ∷ ys) h parts

pub renewed : (cells : List Cell) (heads : List Head) (k i : ℕ) (s : Interval) (xs ys : List ℕ) → AreWhole cells heads → length cells ≤ most_cells → chain_of cells heads k ≡ xs ++ i ∷ ys → Replaced cells heads k xs (i ∷ ys) 1 (s ∷ []) (with_numbers cells i s.lo s.hi) heads
renewed cells heads k i s xs ys h small parts =
    let c : Cell = record (cell_at cells i) { lo = s.lo; hi = s.hi } in
    let cells' : List Cell = with_numbers cells i s.lo s.hi in
    let linked = in_parts cells k xs (i ∷ ys) None (subst (λ is. AreLinked cells k is None) parts (h.linked k)) in
    let lt = linked.1.0.below in
    let many : length cells' ≡ length cells = simp length-set in
    let free = ap length (chains_stay cells i c lt refl refl heads h 0) in
    record {
      keeps = keeps_others cells i c lt refl refl heads k h linked.1.0.owner;
      small = omega (many, small, arith);
      spans = spans_with cells i c lt refl refl heads k xs ys h parts;
      total = omega (many, free, arith);
      more = inl many;
    }

pub renewed_length : (cells cells' : List Cell) (heads : List Head) (k : ℕ) (s : Interval) (xs ys : List ℕ) (i : ℕ) → Replaced cells heads k xs (i ∷ ys) 1 (s ∷ []) cells' heads → length cells' ≡ length cells
renewed_length cells cells' heads k s xs ys i r = ⊎_elim
    (λ e. e)
    (λ (e : (free_count cells heads ≡ 0) × (free_count cells' heads ≡ 0) × (length cells' ≡ length cells + 1)). let total = r.total in let a = e.0 in let b = e.1 in let n = e.2 in omega (total, a, b, n, arith))
    r.more

-- ---- numbers after the last cell

ends_all : (us : List Interval) (t s : Interval) → AreMerged (us ++ t ∷ []) → IsBefore t s → AllByRecursion (λ u. IsBefore u s) (us ++ t ∷ [])
ends_all [] t s merged before = (before, tt)
ends_all (u ∷ us) t s merged before =
    let last = (all_parts (IsBefore u) us (t ∷ []) merged.1).1.0 in
    let filled = last_filled us t merged.2 in
    (omega (last, filled, before, arith), ends_all us t s merged.2 before)
  where
    last_filled : (us : List Interval) (t : Interval) → AreMerged (us ++ t ∷ []) → t.lo ≤ t.hi
    last_filled [] t merged = merged.0
    last_filled (u ∷ us) t merged = last_filled us t merged.2

pub behind_all : (cells : List Cell) (heads : List Head) (k : ℕ) (s : Interval) (end : Option ℕ) → AreWhole cells heads → AreMerged (spans_of cells heads k) → IsBehind cells heads k s end → AllByRecursion (λ t. IsBefore t s) (spans_of cells heads k)
behind_all cells heads k s None h merged behind =
    let none = nil_from_length (chain_of cells heads k) (sym (h.count k) ∙ behind) in
    subst (λ is. AllByRecursion (λ t. IsBefore t s) (map (interval_at cells) is)) (sym none) tt
behind_all cells heads k s (Some i) h merged behind =
    let f : ℕ → Interval = interval_at cells in
    let parts = end_parts cells heads k i h behind.0 in
    let spans : spans_of cells heads k ≡ map f parts.0 ++ f i ∷ [] = ap (map f) parts.1 ∙ map-append f parts.0 (i ∷ []) in
    subst (AllByRecursion (λ t. IsBefore t s)) (sym spans) (ends_all (map f parts.0) (f i) s (subst AreMerged spans merged) behind.1)

pub apart_behind : (ss : List Interval) (s : Interval) → AllByRecursion (λ t. IsBefore t s) ss → IsApart ss s
apart_behind ss s all = all_weaker (λ t. IsBefore t s) (λ t. IsBefore t s ⊎ IsBefore s t) ss (λ t before. inl before) all

-- ---- numbers in the last cell

merged_longer : (us : List Interval) (t t' : Interval) → t'.lo ≡ t.lo → t'.lo ≤ t'.hi → AreMerged (us ++ t ∷ []) → AreMerged (us ++ t' ∷ [])
merged_longer [] t t' same filled merged = (filled, tt, tt)
merged_longer (u ∷ us) t t' same filled merged =
    let parts = all_parts (IsBefore u) us (t ∷ []) merged.1 in
    let last = parts.1.0 in
    (merged.0, all_joined (IsBefore u) us (t' ∷ []) parts.0 (omega (last, same, arith), tt), merged_longer us t t' same filled merged.2)

longer_covers : (a b c d n : ℕ) → a ≤ c → c ≤ d → c ≤ b + 1 → (nat_le a n && nat_le n (max b d)) ≡ ((nat_le a n && nat_le n b) || (nat_le c n && nat_le n d))
longer_covers a b c d n from filled near = grind (arith, nat_tests)

has_longer : (us : List Interval) (t t' s : Interval) (n : ℕ) → covers t' n ≡ (covers t n || covers s n) → has (us ++ t' ∷ []) n ≡ (has (us ++ t ∷ []) n || covers s n)
has_longer us t t' s n here =
    has_append us (t' ∷ []) n
    ∙ (ap (λ b. has us n || b) (sym (or_false (covers t' n)) ∙ here)
    ∙ (sym (or_three (has us n) (covers t n) (covers s n)) ∙ ap (λ b. b || covers s n) (ap (λ b. has us n || b) (or_false (covers t n)) ∙ sym (has_append us (t ∷ []) n))))

pub length_end : (cells : List Cell) (end : Option ℕ) (hi : ℕ) → length (with_end cells end hi) ≡ length cells
length_end cells None hi = refl
length_end cells (Some i) hi = simp length-set

pub grown_end : (cells : List Cell) (heads : List Head) (k : ℕ) (s : Interval) (end : Option ℕ) → AreWhole cells heads → length cells ≤ most_cells → AreMerged (spans_of cells heads k) → s.lo ≤ s.hi → TouchesEnd cells heads k s end
    → Added cells heads k s (with_end cells end s.hi) heads
grown_end cells heads k s None h small merged filled touches = absurd touches
grown_end cells heads k s (Some i) h small merged filled touches =
    let f : ℕ → Interval = interval_at cells in
    let t : Interval = f i in
    let c : Cell = record (cell_at cells i) { hi = max (cell_at cells i).hi s.hi } in
    let t' : Interval = record { lo = c.lo; hi = c.hi } in
    let cells' : List Cell = slice_set cells i c in
    let lt = touches.0.0 in
    let from = touches.1.0 in
    let near = touches.1.1 in
    let parts = end_parts cells heads k i h touches.0 in
    let us = map f parts.0 in
    let spans : spans_of cells heads k ≡ us ++ t ∷ [] = ap (map f) parts.1 ∙ map-append f parts.0 (i ∷ []) in
    let spans' : spans_of cells' heads k ≡ us ++ t' ∷ [] = spans_with cells i c lt refl refl heads k parts.0 [] h parts.1 in
    let keeps = keeps_others cells i c lt refl refl heads k h touches.0.1 in
    let many : length cells' ≡ length cells = simp length-set in
    let free = ap length (chains_stay cells i c lt refl refl heads h 0) in
    let a = ap length spans in
    let b = ap length spans' in
    let a' = length-append us (t ∷ []) in
    let b' = length-append us (t' ∷ []) in
    record {
      keeps = keeps;
      small = omega (many, small, arith);
      merged = subst AreMerged (sym spans') (merged_longer us t t' refl (omega (from, filled, arith)) (subst AreMerged spans merged));
      numbers = λ n. ap (λ ss. has ss n) spans' ∙ (has_longer us t t' s n (longer_covers t.lo t.hi s.lo s.hi n from filled near) ∙ ap (λ ss. has ss n || covers s n) (sym spans));
      few = omega (a, b, a', b', arith);
      total = omega (a, b, a', b', free, many, arith);
      more = inl many;
    }
