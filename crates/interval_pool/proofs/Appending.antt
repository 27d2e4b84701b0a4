-- What an interval after all others of a list leaves.
use Rattle.std.proofs.Common.{◌≡◌, ◌≢◌, ℕ, ◌+◌, ◌<◌, ◌≤◌, ◌||◌, List, [], ◌∷◌, ◌++◌, length, map, Option, Some, None, refl, sym, ap, subst, ◌∙◌, ⊎_elim, inl, inr, arith, length-append}
use Rattle.std.specs.Prelude.{slice_set, IfSome}
use Rattle.std.specs.List.{AllByRecursion}
use Rattle.std.proofs.Math.Seq.{set-append_seam}
use Rattle.std.proofs.lemmas.List.{append-nil, map-append, nil_from_length, set-append_left}
use Rattle.interval_pool.specs.declared.cells.Cell.{Cell}
use Rattle.interval_pool.specs.declared.cells.Head.{Head}
use Rattle.interval_pool.specs.declared.interval.Interval.{Interval}
use Rattle.interval_pool.specs.Links.{most_cells}
use Rattle.interval_pool.specs.Cells.{cell_at, head_at, after, with_head, with_next, with_owner}
use Rattle.interval_pool.specs.Chains.{first_or, last_or, IsAmong, AreLinked, AreChains}
use Rattle.interval_pool.specs.Intervals.{IsBefore, AreMerged, covers, has}
use Rattle.interval_pool.specs.Pools.{chain_of, interval_at, AreWhole, Linked, Placed, Places}
use Rattle.interval_pool.specs.Places.{AreBelow, Reaches, IsPlace, IsEnd}
use Rattle.interval_pool.specs.Changes.{spans_of, Pushed, Pushes, PutsLast, Replaced, Added}
use Rattle.interval_pool.proofs.Facts.{or_false, all_parts, all_joined}
use Rattle.interval_pool.proofs.Linking.{chain_here, in_parts, last_among, linked_below}
use Rattle.interval_pool.proofs.Walking.{chain_is, rewalked, grows, all_below, after_is, new_cell}
use Rattle.interval_pool.proofs.Changing.{linked}
use Rattle.interval_pool.proofs.Lists.{chain_other, same_but, same_intervals, pushed_spans, pushed_cell}
use Rattle.interval_pool.proofs.Seeking.{last_append, split_at}
use Rattle.interval_pool.proofs.Putting.{first_free}
use Rattle.interval_pool.proofs.Altering.{has_append}

-- ---- the last cell of a list

no_first : (is : List ℕ) → None ≡ first_or None is → is ≡ []
no_first [] e = refl
no_first (i ∷ is) e = absurd (cc)

pub end_parts : (cells : List Cell) (heads : List Head) (k i : ℕ) → AreWhole cells heads → IsEnd cells heads k (Some i) → (xs : List ℕ) × (chain_of cells heads k ≡ xs ++ i ∷ [])
end_parts cells heads k i h end =
    let among : IsAmong i (chain_of cells heads k) = subst (λ o. IsAmong i (chain_of cells heads o)) end.1 (⊎_elim (λ e. absurd (cc)) (λ a. a) (h.whole i end.0)) in
    let split = split_at i (chain_of cells heads k) among in
    let linked = in_parts cells k split.0 (i ∷ split.1.0) None (subst (λ is. AreLinked cells k is None) split.1.1 (h.linked k)) in
    let none = no_first split.1.0 (sym end.2 ∙ linked.1.0.next_is) in
    (split.0, split.1.1 ∙ ap (λ ys. split.0 ++ i ∷ ys) none)

pub end_is : (cells : List Cell) (heads : List Head) (k : ℕ) (place : Option ℕ) → AreWhole cells heads → IsEnd cells heads k place → place ≡ last_or None (chain_of cells heads k)
end_is cells heads k None h end = sym (ap (last_or None) (nil_from_length (chain_of cells heads k) (sym (h.count k) ∙ end)))
end_is cells heads k (Some i) h end = let parts = end_parts cells heads k i h end in sym (ap (last_or None) parts.1 ∙ last_append None parts.0 i)

none_reaches : (cells : List Cell) (n : ℕ) (ys : List ℕ) → AreBelow cells n ys → Reaches cells n ys → ys ≡ []
none_reaches cells n [] below reaches = refl
none_reaches cells n (y ∷ ys) below reaches = absurd (let lt = below.0 in omega (lt, reaches, arith))

pub place_is_last : (cells : List Cell) (heads : List Head) (k n : ℕ) (before : Option ℕ) → IsPlace cells heads k n before → AreBelow cells n (chain_of cells heads k) → before ≡ last_or None (chain_of cells heads k)
place_is_last cells heads k n before place below =
    let parts = all_parts (λ i. (cell_at cells i).hi < n) place.xs place.ys (subst (AreBelow cells n) place.parts below) in
    let none = none_reaches cells n place.ys parts.1 place.reaches in
    place.before_is ∙ ap (last_or None) (sym (place.parts ∙ (ap (λ ys. place.xs ++ ys) none ∙ append-nil place.xs)))

pub all_end_below : (cells : List Cell) (s : Interval) (is : List ℕ) → AllByRecursion (λ t. IsBefore t s) (map (interval_at cells) is) → AreBelow cells s.lo is
all_end_below cells s [] all = tt
all_end_below cells s (i ∷ is) all = (let lt = all.0 in omega (lt, arith), all_end_below cells s is all.1)

-- ---- a cell more

same_cell : (c : Cell) (k : ℕ) → c.owner ≡ k → c.next ≡ None → record c { next = None; owner = k } ≡ c
same_cell c k owner next = (λ p. record { lo = c.lo; hi = c.hi; next = sym next p; owner = sym owner p })

-- the new cell has its owner already
owned : (cells : List Cell) (c : Cell) (k : ℕ) → c.owner ≡ k → c.next ≡ None → with_owner (cells ++ c ∷ []) (length cells) k None ≡ cells ++ c ∷ []
owned cells c k owner next =
    ap (λ (d : Cell). slice_set (cells ++ c ∷ []) (length cells) (record d { next = None; owner = k })) (pushed_cell cells c)
    ∙ (ap (slice_set (cells ++ c ∷ []) (length cells)) (same_cell c k owner next) ∙ set-append_seam cells c [] c)

last_below : (cells : List Cell) (k p : ℕ) (is : List ℕ) → AreLinked cells k is None → last_or None is ≡ Some p → p < length cells
last_below cells k p [] linked e = absurd (cc)
last_below cells k p (i ∷ is) linked e = linked_below cells k p (i ∷ is) None linked (last_among i p is e)

pub last_inside : (cells : List Cell) (heads : List Head) (k : ℕ) (last : Option ℕ) → AreWhole cells heads → last ≡ last_or None (chain_of cells heads k) → IfSome last (λ i. i < length cells)
last_inside cells heads k None h is_last = tt
last_inside cells heads k (Some p) h is_last = last_below cells k p (chain_of cells heads k) (h.linked k) (sym is_last)

-- a cell is written before another is pushed, or after it
next_pushed : (cells : List Cell) (c : Cell) (k : ℕ) (is : List ℕ) (last next : Option ℕ) → AreLinked cells k is None → last ≡ last_or None is → with_next cells last next ++ c ∷ [] ≡ with_next (cells ++ c ∷ []) last next
next_pushed cells c k is None next linked e = refl
next_pushed cells c k is (Some p) next linked e =
    let lt = last_below cells k p is linked (sym e) in
    sym (ap (λ (d : Cell). slice_set (cells ++ c ∷ []) p (record d { next = next })) (new_cell cells c p lt) ∙ set-append_left cells (c ∷ []) p (record (cell_at cells p) { next = next }) lt)

pub pushed_last : (cells : List Cell) (heads : List Head) (k : ℕ) (last : Option ℕ) (c : Cell) → c.owner ≡ k → c.next ≡ None
    → Pushes cells heads k last (record { lo = c.lo; hi = c.hi }) (with_next cells last (Some (length cells)) ++ c ∷ []) (with_head heads k last (Some (length cells)) ((head_at heads k).len + 1))
pushed_last cells heads k last c owner next h small not_free lt is_last =
    let cells1 : List Cell = cells ++ c ∷ [] in
    let n = length cells in
    let xs = chain_of cells heads k in
    let cells2 : List Cell = with_next cells last (Some n) ++ c ∷ [] in
    let heads2 : List Head = with_head heads k last (Some n) ((head_at heads k).len + 1) in
    let one : AreChains cells1 heads (Some n) (chain_of cells heads) = grows cells heads (chain_of cells heads) c h in
    let same : (m : ℕ) → chain_of cells1 heads m ≡ chain_of cells heads m = chain_is cells1 heads (Some n) (chain_of cells heads) one in
    let size = length-append cells (c ∷ []) in
    let parts : chain_of cells1 heads k ≡ xs ++ [] = same k ∙ sym (append-nil xs) in
    let whole1 = rewalked cells1 heads (Some n) (chain_of cells heads) one in
    let none : None ≡ after cells1 heads k last = sym (ap (after cells1 heads k) is_last ∙ after_is cells1 heads (Some n) (chain_of cells1 heads) k xs [] whole1 parts) in
    let into = linked cells1 heads k n xs [] last None ((head_at heads k).len + 1) whole1 lt (omega (size, arith)) parts is_last none refl in
    let P : List Cell → Type 0 = λ cs. Linked cells1 heads k xs n [] (with_next cs last (Some n)) heads2 in
    let Q : List Cell → Type 0 = λ cs. Linked cells1 heads k xs n [] cs heads2 in
    let joined : Linked cells1 heads k xs n [] cells2 heads2 = subst Q (sym (next_pushed cells c k xs last (Some n) (h.linked k) is_last)) (subst P (owned cells c k owner next) into) in
    let stay : (is : List ℕ) → AllByRecursion (λ j. j < length cells) is → map (interval_at cells2) is ≡ map (interval_at cells) is = λ is below. same_intervals cells1 cells2 joined.keeps.intervals is ∙ pushed_spans cells c is below in
    let here : interval_at cells2 n ≡ record { lo = c.lo; hi = c.hi } = joined.keeps.intervals n ∙ ap (λ (d : Cell). let r : Interval = record { lo = d.lo; hi = d.hi } in r) (pushed_cell cells c) in
    record {
      keeps = record {
        whole = joined.whole;
        as_many_chains = joined.keeps.as_many_chains;
        lists = joined.keeps.lists;
        chains = λ m free other. joined.chains m ∙ (chain_other (chain_of cells1 heads) k m (xs ++ n ∷ []) other ∙ same m);
        intervals = λ m free other. stay (chain_of cells heads m) (all_below cells m (chain_of cells heads m) None (h.linked m));
      };
      as_many = joined.keeps.as_many ∙ size;
      list = joined.chains k ∙ chain_here (chain_of cells1 heads) k (xs ++ n ∷ []);
      spans =
          ap (map (interval_at cells2)) (joined.chains k ∙ chain_here (chain_of cells1 heads) k (xs ++ n ∷ []))
          ∙ (map-append (interval_at cells2) xs (n ∷ []) ∙ (λ p. stay xs (all_below cells k xs None (h.linked k)) p ++ here p ∷ []));
      free = joined.chains 0 ∙ (chain_other (chain_of cells1 heads) k 0 (xs ++ n ∷ []) (λ e. not_free (sym e)) ∙ same 0);
    }

-- ---- an interval after the last cell

pub put_new : (cells cells1 : List Cell) (heads heads1 : List Head) (k : ℕ) (last : Option ℕ) (s : Interval) → (head_at heads 0).len ≤ 0 → length cells < most_cells → Pushes cells heads k last s cells1 heads1 → PutsLast cells heads k last s cells1 heads1
put_new cells cells1 heads heads1 k last s none less pushes h small not_free lt is_last =
    let p : Pushed cells heads k s cells1 heads1 = pushes h less not_free lt is_last in
    let n = h.count 0 in
    let more = p.as_many in
    let free = ap length p.free in
    record {
      keeps = p.keeps;
      small = omega (more, less, arith);
      spans = p.spans;
      total = omega (free, more, arith);
      more = inr (omega (n, none, arith), omega (n, none, free, arith), more);
    }

-- the first free cell comes after the last of a list
pub free_placed : (cells cells1 : List Cell) (heads heads1 : List Head) (k : ℕ) (last : Option ℕ) (s : Interval) → 0 < (head_at heads 0).len → Places cells heads k last s cells1 heads1 → AreWhole cells heads → length cells ≤ most_cells → k ≢ 0
    → k < length heads → last ≡ last_or None (chain_of cells heads k) → (i : ℕ) × ((rest : List ℕ) × ((chain_of cells heads 0 ≡ i ∷ rest) × Placed cells heads k (chain_of cells heads k) [] i rest s cells1 heads1))
free_placed cells cells1 heads heads1 k last s some places h small not_free lt is_last =
    let n = h.count 0 in
    let first = first_free (chain_of cells heads 0) (omega (some, n, arith)) in
    (first.0, (first.1.0, (first.1.1, places (chain_of cells heads k) [] first.0 first.1.0 h small not_free lt first.1.1 (sym (append-nil (chain_of cells heads k))) is_last)))

pub as_many_free : (cells cells1 : List Cell) (heads heads1 : List Head) (k : ℕ) (last : Option ℕ) (s : Interval) → 0 < (head_at heads 0).len → Places cells heads k last s cells1 heads1 → AreWhole cells heads → length cells ≤ most_cells → k ≢ 0
    → k < length heads → last ≡ last_or None (chain_of cells heads k) → length cells1 ≡ length cells
as_many_free cells cells1 heads heads1 k last s some places h small not_free lt is_last = (free_placed cells cells1 heads heads1 k last s some places h small not_free lt is_last).1.1.1.as_many

pub put_free : (cells cells1 : List Cell) (heads heads1 : List Head) (k : ℕ) (last : Option ℕ) (s : Interval) → 0 < (head_at heads 0).len → Places cells heads k last s cells1 heads1 → PutsLast cells heads k last s cells1 heads1
put_free cells cells1 heads heads1 k last s some places h small not_free lt is_last =
    let xs = chain_of cells heads k in
    let found = free_placed cells cells1 heads heads1 k last s some places h small not_free lt is_last in
    let i = found.0 in
    let p : Placed cells heads k xs [] i found.1.0 s cells1 heads1 = found.1.1.1 in
    let apart = all_parts (λ o. o ≢ i) xs [] p.apart in
    let many = p.as_many in
    let here = p.here in
    record {
      keeps = p.keeps;
      small = omega (many, small, arith);
      spans = ap (map (interval_at cells1)) p.list ∙ (map-append (interval_at cells1) xs (i ∷ []) ∙ (λ q. same_but cells cells1 i p.others xs apart.0 q ++ here q ∷ []));
      total = let a = ap length found.1.1.0 in let b = ap length p.free in omega (a, b, many, arith);
      more = inl many;
    }

-- ---- an interval after all others

merged_end : (ss : List Interval) (s : Interval) → AreMerged ss → s.lo ≤ s.hi → AllByRecursion (λ t. IsBefore t s) ss → AreMerged (ss ++ s ∷ [])
merged_end [] s merged filled all = (filled, tt, tt)
merged_end (t ∷ ts) s merged filled all = (merged.0, all_joined (IsBefore t) ts (s ∷ []) merged.1 (all.0, tt), merged_end ts s merged.2 filled all.1)

pub spans_appended : (cells cells1 : List Cell) (heads heads1 : List Head) (k : ℕ) (last : Option ℕ) (s : Interval) → AreWhole cells heads → length cells ≤ most_cells → k ≢ 0 → k < length heads → last ≡ last_or None (chain_of cells heads k)
    → PutsLast cells heads k last s cells1 heads1 → spans_of cells1 heads1 k ≡ spans_of cells heads k ++ s ∷ []
spans_appended cells cells1 heads heads1 k last s h small not_free lt is_last puts = (puts h small not_free lt is_last).spans

pub appended : (cells cells1 : List Cell) (heads heads1 : List Head) (k : ℕ) (last : Option ℕ) (s : Interval) → AreWhole cells heads → length cells ≤ most_cells → k ≢ 0 → k < length heads → last ≡ last_or None (chain_of cells heads k)
    → AreMerged (spans_of cells heads k) → s.lo ≤ s.hi → AllByRecursion (λ t. IsBefore t s) (spans_of cells heads k) → PutsLast cells heads k last s cells1 heads1 → Added cells heads k s cells1 heads1
appended cells cells1 heads heads1 k last s h small not_free lt is_last merged filled all puts =
    let r : Replaced cells heads k (chain_of cells heads k) [] 0 (s ∷ []) cells1 heads1 = puts h small not_free lt is_last in
    let ss = spans_of cells heads k in
    let e = ap length r.spans in
    let size = length-append ss (s ∷ []) in
    let total = r.total in
    record {
      keeps = r.keeps;
      small = r.small;
      merged = subst AreMerged (sym r.spans) (merged_end ss s merged filled all);
      numbers = λ n. ap (λ ts. has ts n) r.spans ∙ (has_append ss (s ∷ []) n ∙ ap (λ b. has ss n || b) (sym (or_false (covers s n))));
      few = omega (e, size, arith);
      total = omega (e, size, total, arith);
      more = r.more;
    }
