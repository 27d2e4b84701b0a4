-- What is left where a cell leaves a list for the free ones, or the other way.
use Rattle.std.proofs.Common.{◌≡◌, ◌≢◌, ℕ, suc, ◌+◌, ◌<◌, ◌≤◌, ◌⊎◌, true, false, cond, List, [], ◌∷◌, ◌++◌, length, map, Option, Some, None, refl, sym, ap, subst, ◌∙◌, ⊎_elim, inl, arith, get_or, length-append, length-set, take, drop}
use Rattle.std.specs.Prelude.{slice_set, ◌==◌}
use Rattle.std.proofs.Math.Seq.{drop-cons}
use Rattle.std.proofs.Math.ListN.{drop_of_length-le}
use Rattle.std.proofs.lemmas.List.{take_more, take_all}
use Rattle.std.specs.List.{AllByRecursion}
use Rattle.std.proofs.lemmas.Bool.Decides.{eqb_tells}
use Rattle.interval_pool.specs.declared.cells.Cell.{Cell}
use Rattle.interval_pool.specs.declared.cells.Head.{Head}
use Rattle.interval_pool.specs.Links.{most_cells}
use Rattle.interval_pool.specs.Cells.{cell_at}
use Rattle.interval_pool.specs.Chains.{last_or, AreChains, IsAmong, with_chain}
use Rattle.interval_pool.specs.declared.interval.Interval.{Interval}
use Rattle.interval_pool.specs.Pools.{chain_of, AreWhole, interval_at, Unlinks, Unlinked, Links, Linked, Freed, Frees, FreedSome, Grown, Placed}
use Rattle.interval_pool.proofs.Linking.{chain_here, kept_cells, cell_other, cell_same}
use Rattle.interval_pool.proofs.Walking.{chain_is, rewalked, grows, new_cell, all_below}

-- ---- a chain at a place

pub chain_other : (chain : ℕ → List ℕ) (k m : ℕ) (is : List ℕ) → m ≢ k → with_chain chain k is m ≡ chain m
chain_other chain k m is ne = ⊎_elim
    (λ (e : ((m == k) ≡ true) × (m ≡ k)). absurd (ne e.1))
    (λ (e : ((m == k) ≡ false) × (m ≢ k)). ap (λ b. cond b is (chain m)) e.0)
    (eqb_tells m k)

pub same_intervals : (cells cells' : List Cell) → ((i : ℕ) → interval_at cells' i ≡ interval_at cells i) → (is : List ℕ) → map (interval_at cells') is ≡ map (interval_at cells) is
same_intervals cells cells' same [] = refl
same_intervals cells cells' same (i ∷ is) = (λ p. same i p ∷ same_intervals cells cells' same is p)

pub same_but : (cells cells' : List Cell) (n : ℕ) → ((i : ℕ) → i ≢ n → interval_at cells' i ≡ interval_at cells i) → (is : List ℕ) → AllByRecursion (λ i. i ≢ n) is → map (interval_at cells') is ≡ map (interval_at cells) is
same_but cells cells' n same [] ne = refl
same_but cells cells' n same (i ∷ is) ne = (λ p. same i ne.0 p ∷ same_but cells cells' n same is ne.1 p)

-- ---- a cell is freed

pub freed : (cells cells1 cells2 : List Cell) (heads heads1 heads2 : List Head) (k i : ℕ) (xs ys : List ℕ) (before at : Option ℕ) → AreWhole cells heads → length cells ≤ most_cells → k ≢ 0 → k < length heads
    → chain_of cells heads k ≡ xs ++ i ∷ ys → before ≡ last_or None xs → Unlinks cells heads k before at cells1 heads1 → Links cells1 heads1 0 None i cells2 heads2
    → Freed cells heads k xs i ys cells2 heads2
freed cells cells1 cells2 heads heads1 heads2 k i xs ys before at h small not_free lt parts is_before out into =
    let left : Unlinked cells heads k xs i ys at cells1 heads1 = out xs i ys h lt parts is_before in
    let free1 : chain_of cells1 heads1 0 ≡ chain_of cells heads 0 = left.chains 0 ∙ chain_other (chain_of cells heads) k 0 (xs ++ ys) (λ e. not_free (sym e)) in
    let n1 = left.keeps.as_many in
    let m1 = left.keeps.as_many_chains in
    let below : i < length cells = left.below in
    let joined : Linked cells1 heads1 0 [] i (chain_of cells1 heads1 0) cells2 heads2 =
    into [] (chain_of cells1 heads1 0) left.whole (omega (n1, small, arith)) (omega (m1, lt, arith)) (omega (n1, below, arith)) refl refl in
    let all : (j : ℕ) → interval_at cells2 j ≡ interval_at cells j = λ j. joined.keeps.intervals j ∙ left.keeps.intervals j in
    record {
      keeps = record {
        whole = joined.whole;
        as_many_chains = joined.keeps.as_many_chains ∙ m1;
        lists = λ m. joined.keeps.lists m ∙ left.keeps.lists m;
        chains = λ m free other. joined.chains m ∙ (chain_other (chain_of cells1 heads1) 0 m (i ∷ chain_of cells1 heads1 0) free ∙ (left.chains m ∙ chain_other (chain_of cells heads) k m (xs ++ ys) other));
        intervals = λ m free other. same_intervals cells cells2 all (chain_of cells heads m);
      };
      as_many = joined.keeps.as_many ∙ n1;
      all_intervals = all;
      list = joined.chains k ∙ (chain_other (chain_of cells1 heads1) 0 k (i ∷ chain_of cells1 heads1 0) not_free ∙ (left.chains k ∙ chain_here (chain_of cells heads) k (xs ++ ys)));
      free = joined.chains 0 ∙ (chain_here (chain_of cells1 heads1) 0 (i ∷ chain_of cells1 heads1 0) ∙ ap (λ is. i ∷ is) free1);
    }

-- ---- a cell more

pub pushed_spans : (cells : List Cell) (c : Cell) (is : List ℕ) → AllByRecursion (λ j. j < length cells) is → map (interval_at (cells ++ c ∷ [])) is ≡ map (interval_at cells) is
pushed_spans cells c [] below = refl
pushed_spans cells c (i ∷ is) below =
    let here = new_cell cells c i below.0 in
    (λ p. (let d : Cell = here p in let r : Interval = record { lo = d.lo; hi = d.hi } in r) ∷ pushed_spans cells c is below.1 p)

pub pushed_cell : (cells : List Cell) (c : Cell) → cell_at (cells ++ c ∷ []) (length cells) ≡ c
pushed_cell [] c = refl
pushed_cell (d ∷ cells) c = pushed_cell cells c

pub grown : (cells cells2 : List Cell) (heads heads2 : List Head) (c : Cell) → AreWhole cells heads → length cells < most_cells → 0 < length heads
    → Links (cells ++ c ∷ []) heads 0 None (length cells) cells2 heads2 → Grown cells heads cells2 heads2
grown cells cells2 heads heads2 c h small some into =
    let cells1 : List Cell = cells ++ c ∷ [] in
    let n = length cells in
    let one : AreChains cells1 heads (Some n) (chain_of cells heads) = grows cells heads (chain_of cells heads) c h in
    let same : (m : ℕ) → chain_of cells1 heads m ≡ chain_of cells heads m = chain_is cells1 heads (Some n) (chain_of cells heads) one in
    let size = length-append cells (c ∷ []) in
    let joined : Linked cells1 heads 0 [] n (chain_of cells1 heads 0) cells2 heads2 =
    into [] (chain_of cells1 heads 0) (rewalked cells1 heads (Some n) (chain_of cells heads) one) (omega (size, small, arith)) some (omega (size, arith)) refl refl in
    record {
      keeps = record {
        whole = joined.whole;
        as_many_chains = joined.keeps.as_many_chains;
        lists = joined.keeps.lists;
        chains = λ m free other. joined.chains m ∙ (chain_other (chain_of cells1 heads) 0 m (n ∷ chain_of cells1 heads 0) free ∙ same m);
        intervals = λ m free other. same_intervals cells1 cells2 joined.keeps.intervals (chain_of cells heads m) ∙ pushed_spans cells c (chain_of cells heads m) (all_below cells m (chain_of cells heads m) None (h.linked m));
      };
      as_many = joined.keeps.as_many ∙ size;
      free = joined.chains 0 ∙ (chain_here (chain_of cells1 heads) 0 (n ∷ chain_of cells1 heads 0) ∙ ap (λ is. n ∷ is) (same 0));
    }

-- ---- a free cell joins a list

renumbered : (cells : List Cell) (heads : List Head) (chain : ℕ → List ℕ) (i : ℕ) (c : Cell) → c.owner ≡ (cell_at cells i).owner → AreChains cells heads (Some i) chain → AreChains (slice_set cells i c) heads (Some i) chain
renumbered cells heads chain i c owner h = record {
  first = h.first;
  count = h.count;
  linked = λ k. kept_cells cells i k c (chain k) None (h.apart i k refl) (h.linked k);
  once = h.once;
  whole = λ j lt. ⊎_elim
      (λ (e : ((j == i) ≡ true) × (j ≡ i)). inl (ap Some (sym e.1)))
      (λ (e : ((j == i) ≡ false) × (j ≢ i)).
      let lt0 : j < length cells = simp length-set at lt in
      subst (λ o. (Some i ≡ Some j) ⊎ IsAmong j (chain o)) (sym (ap (λ (d : Cell). d.owner) (cell_other cells i j c e.1))) (h.whole j lt0))
      (eqb_tells j i);
  apart = h.apart;
}

pub placed : (cells cells1 cells3 : List Cell) (heads heads1 heads3 : List Head) (k i : ℕ) (xs ys rest : List ℕ) (before at : Option ℕ) (numbers : Interval) → AreWhole cells heads → length cells ≤ most_cells → k ≢ 0 → k < length heads
    → chain_of cells heads 0 ≡ i ∷ rest → chain_of cells heads k ≡ xs ++ ys → before ≡ last_or None xs → Unlinks cells heads 0 None at cells1 heads1
    → Links (slice_set cells1 i (record (cell_at cells1 i) { lo = numbers.lo; hi = numbers.hi })) heads1 k before i cells3 heads3 → Placed cells heads k xs ys i rest numbers cells3 heads3
placed cells cells1 cells3 heads heads1 heads3 k i xs ys rest before at numbers h small not_free lt free parts is_before out into =
    let left : Unlinked cells heads 0 [] i rest at cells1 heads1 = out [] i rest h (omega (lt, arith)) free refl in
    let c : Cell = record (cell_at cells1 i) { lo = numbers.lo; hi = numbers.hi } in
    let cells2 : List Cell = slice_set cells1 i c in
    let whole2 = renumbered cells1 heads1 (chain_of cells1 heads1) i c refl left.whole in
    let same : (m : ℕ) → chain_of cells2 heads1 m ≡ chain_of cells1 heads1 m = chain_is cells2 heads1 (Some i) (chain_of cells1 heads1) whole2 in
    let stays : (m : ℕ) → m ≢ 0 → chain_of cells1 heads1 m ≡ chain_of cells heads m = λ m ne. left.chains m ∙ chain_other (chain_of cells heads) 0 m rest ne in
    let n1 = left.keeps.as_many in
    let m1 = left.keeps.as_many_chains in
    let n2 : length cells2 ≡ length cells1 = simp length-set in
    let below : i < length cells = left.below in
    let joined : Linked cells2 heads1 k xs i ys cells3 heads3 =
    into xs ys (rewalked cells2 heads1 (Some i) (chain_of cells1 heads1) whole2) (omega (n1, n2, small, arith)) (omega (m1, lt, arith)) (omega (n1, n2, below, arith))
    (same k ∙ (stays k not_free ∙ parts)) is_before in
    let apart : (m : ℕ) → m ≢ 0 → AllByRecursion (λ j. j ≢ i) (chain_of cells heads m) = λ m ne. subst (AllByRecursion (λ j. j ≢ i)) (stays m ne) (left.whole.apart i m refl) in
    let lt1 : i < length cells1 = omega (n1, below, arith) in
    let written : cell_at cells2 i ≡ c = cell_same cells1 i c lt1 in
    let other : (j : ℕ) → j ≢ i → interval_at cells3 j ≡ interval_at cells j = λ j ne.
    joined.keeps.intervals j ∙ (ap (λ (d : Cell). let r : Interval = record { lo = d.lo; hi = d.hi } in r) (cell_other cells1 i j c ne) ∙ left.keeps.intervals j) in
    record {
      keeps = record {
        whole = joined.whole;
        as_many_chains = joined.keeps.as_many_chains ∙ m1;
        lists = λ m. joined.keeps.lists m ∙ left.keeps.lists m;
        chains = λ m ne ne_k. joined.chains m ∙ (chain_other (chain_of cells2 heads1) k m (xs ++ i ∷ ys) ne_k ∙ (same m ∙ stays m ne));
        intervals = λ m ne ne_k. same_but cells cells3 i other (chain_of cells heads m) (apart m ne);
      };
      as_many = joined.keeps.as_many ∙ (n2 ∙ n1);
      here = joined.keeps.intervals i ∙ ap (λ (d : Cell). let r : Interval = record { lo = d.lo; hi = d.hi } in r) written;
      others = other;
      apart = subst (AllByRecursion (λ j. j ≢ i)) parts (apart k not_free);
      list = joined.chains k ∙ chain_here (chain_of cells2 heads1) k (xs ++ i ∷ ys);
      free = joined.chains 0 ∙ (chain_other (chain_of cells2 heads1) k 0 (xs ++ i ∷ ys) (λ e. not_free (sym e)) ∙ (same 0 ∙ (left.chains 0 ∙ chain_here (chain_of cells heads) 0 rest)));
    }

-- ---- some cells are freed

pub none_freed : (cells : List Cell) (heads : List Head) (k : ℕ) (xs ys : List ℕ) → AreWhole cells heads → chain_of cells heads k ≡ xs ++ ys → FreedSome cells heads k xs [] ys cells heads
none_freed cells heads k xs ys h parts = record {
  keeps = record { whole = h; as_many_chains = refl; lists = λ m. refl; chains = λ m free other. refl; intervals = λ m free other. refl };
  as_many = refl;
  all_intervals = λ j. refl;
  list = parts;
  more = [];
  as_many_free = refl;
  free = refl;
}

pub one_more_freed : (cells cells1 cells2 : List Cell) (heads heads1 heads2 : List Head) (k i : ℕ) (xs zs ys : List ℕ) (before : Option ℕ) → length cells ≤ most_cells → k ≢ 0 → k < length heads → before ≡ last_or None xs
    → FreedSome cells heads k xs zs (i ∷ ys) cells1 heads1 → Frees cells1 heads1 k before cells2 heads2 → FreedSome cells heads k xs (zs ++ i ∷ []) ys cells2 heads2
one_more_freed cells cells1 cells2 heads heads1 heads2 k i xs zs ys before small not_free lt is_before some one =
    let n = some.as_many in
    let m = some.keeps.as_many_chains in
    let f : Freed cells1 heads1 k xs i ys cells2 heads2 = one xs i ys some.keeps.whole (omega (n, small, arith)) not_free (omega (m, lt, arith)) some.list is_before in
    record {
      keeps = record {
        whole = f.keeps.whole;
        as_many_chains = f.keeps.as_many_chains ∙ m;
        lists = λ m. f.keeps.lists m ∙ some.keeps.lists m;
        chains = λ m free other. f.keeps.chains m free other ∙ some.keeps.chains m free other;
        intervals = λ m free other. same_intervals cells cells2 (λ j. f.all_intervals j ∙ some.all_intervals j) (chain_of cells heads m);
      };
      as_many = f.as_many ∙ n;
      all_intervals = λ j. f.all_intervals j ∙ some.all_intervals j;
      list = f.list;
      more = i ∷ some.more;
      as_many_free = let e = some.as_many_free in omega (e, arith, length-append zs (i ∷ []));
      free = f.free ∙ ap (λ is. i ∷ is) some.free;
    }

pub next_freed : (cells cells1 cells2 : List Cell) (heads heads1 heads2 : List Head) (k n : ℕ) (xs zs ys : List ℕ) (before : Option ℕ) → length cells ≤ most_cells → k ≢ 0 → k < length heads → before ≡ last_or None xs → n < length zs
    → FreedSome cells heads k xs (take n zs) (drop n zs ++ ys) cells1 heads1 → Frees cells1 heads1 k before cells2 heads2 → FreedSome cells heads k xs (take (n + 1) zs) (drop (n + 1) zs ++ ys) cells2 heads2
next_freed cells cells1 cells2 heads heads1 heads2 k n xs zs ys before small not_free lt is_before below some one =
    let i = get_or zs n 0 in
    let left : drop n zs ≡ i ∷ drop (n + 1) zs = (let more : suc n ≡ n + 1 = omega arith in drop-cons zs n 0 below ∙ ap (λ m. i ∷ drop m zs) more) in
    let P : List ℕ → Type 0 = λ is. FreedSome cells heads k xs (take n zs) (is ++ ys) cells1 heads1 in
    let Q : List ℕ → Type 0 = λ is. FreedSome cells heads k xs is (drop (n + 1) zs ++ ys) cells2 heads2 in
    subst Q (sym (take_more zs n 0 below))
    (one_more_freed cells cells1 cells2 heads heads1 heads2 k i xs (take n zs) (drop (n + 1) zs ++ ys) before small not_free lt is_before (subst P left some) one)

pub all_freed : (cells cells1 : List Cell) (heads heads1 : List Head) (k n : ℕ) (xs zs ys : List ℕ) → length zs ≤ n → FreedSome cells heads k xs (take n zs) (drop n zs ++ ys) cells1 heads1 → FreedSome cells heads k xs zs ys cells1 heads1
all_freed cells cells1 heads heads1 k n xs zs ys le some =
    let P : List ℕ → Type 0 = λ is. FreedSome cells heads k xs is ys cells1 heads1 in
    let Q : List ℕ → Type 0 = λ is. FreedSome cells heads k xs (take n zs) (is ++ ys) cells1 heads1 in
    subst P (take_all n zs le) (subst Q (drop_of_length-le zs le) some)
