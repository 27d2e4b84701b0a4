-- A pool's cells, and what callers see of them.
use Rattle.std.proofs.Common.{◌≡◌, ◌≢◌, ℕ, zero, suc, ◌+◌, ◌-◌, ◌<◌, ◌≤◌, ◌⊎◌, Bool, true, false, List, [], ◌∷◌, ◌++◌, length, map, take, drop, Some, None, refl, sym, ap, subst, ◌∙◌, ⊎_elim, inl, inr, arith}
use Rattle.std.specs.Prelude.{min, is_some, unwrap_or, if◌then◌else◌, slice_index_or, ◌==◌}
use Rattle.std.specs.List.{AllByRecursion}
use Rattle.std.proofs.Math.Seq.{take-append_seam}
use Rattle.std.proofs.lemmas.List.{get_or_past, nil_from_length}
use Rattle.std.proofs.lemmas.Bool.Decides.{eqb_tells}
use Rattle.interval_pool.specs.declared.cells.Cell.{Cell}
use Rattle.interval_pool.specs.declared.cells.Head.{Head}
use Rattle.interval_pool.specs.declared.interval.Interval.{Interval}
use Rattle.interval_pool.specs.Links.{most_cells}
use Rattle.interval_pool.specs.Cells.{head_at, no_head}
use Rattle.interval_pool.specs.Intervals.{AreMerged, has}
use Rattle.interval_pool.specs.Pools.{chain_of, interval_at, KeepsOthers}
use Rattle.interval_pool.specs.Changes.{spans_of, free_count, Changed, Added, with_more}
use Rattle.interval_pool.specs.Values.{Held, is_list, IsList, cells_of, spans, Altered, Appended, held, slot, value_of, IsPool}
use Rattle.interval_pool.proofs.Facts.{bool_cases}

-- ---- lists of cells

pub seamed : {X : Type 0} → (new old : List X) (n : ℕ) → length new ≡ n → take n (new ++ drop (length new) old) ≡ new
seamed new old n size = ap (λ m. take m (new ++ drop (length new) old)) (sym size) ∙ take-append_seam new (drop (length new) old)

-- where the intervals are the same, so is each
pub each_same : (f g : ℕ → Interval) (is : List ℕ) → map f is ≡ map g is → AllByRecursion (λ i. f i ≡ g i) is
each_same f g [] e = tt
each_same f g (i ∷ is) e = (cc, each_same f g is (cc))

pub held_same : (cells cells' : List Cell) (is : List ℕ) → map (interval_at cells') is ≡ map (interval_at cells) is → map (held cells') is ≡ map (held cells) is
held_same cells cells' is e = each is (each_same (interval_at cells') (interval_at cells) is e)
  where
    each : (is : List ℕ) → AllByRecursion (λ i. interval_at cells' i ≡ interval_at cells i) is → map (held cells') is ≡ map (held cells) is
    each [] same = refl
    each (i ∷ is) same = (λ p. (let h : Held = record { cell = i; numbers = same.0 p } in h) ∷ each is same.1 p)

pub held_numbers : (cells : List Cell) (is : List ℕ) → map (λ (h : Held). h.numbers) (map (held cells) is) ≡ map (interval_at cells) is
held_numbers cells [] = refl
held_numbers cells (i ∷ is) = ap (λ ss. interval_at cells i ∷ ss) (held_numbers cells is)

pub held_cells : (cells : List Cell) (is : List ℕ) → map (λ (h : Held). h.cell) (map (held cells) is) ≡ is
held_cells cells [] = refl
held_cells cells (i ∷ is) = ap (λ js. i ∷ js) (held_cells cells is)

-- what keeps all lists keeps their intervals
pub same_spans : (cells cells1 : List Cell) (heads heads1 : List Head) (k m : ℕ) → KeepsOthers cells heads k cells1 heads1 → m ≢ 0 → m ≢ k → spans_of cells1 heads1 m ≡ spans_of cells heads m
same_spans cells cells1 heads heads1 k m keeps free other = ap (map (interval_at cells1)) (keeps.chains m free other) ∙ keeps.intervals m free other

-- ---- the list with a number

pub slot_is : (cells : List Cell) (heads : List Head) (k : ℕ) → slice_index_or (map (slot cells) heads) k None ≡ slot cells (head_at heads k)
slot_is cells [] k = refl
slot_is cells (h ∷ hs) zero = refl
slot_is cells (h ∷ hs) (suc k) = slot_is cells hs k

some_slot : (b : Bool) (hs : List Held) → is_some (if b then Some hs else None) ≡ b
some_slot true hs = refl
some_slot false hs = refl

pub list_is : (cells : List Cell) (heads : List Head) (capacity k : ℕ) → is_list (value_of cells heads capacity) k ≡ (head_at heads k).is_list
list_is cells heads capacity k = ap is_some (slot_is cells heads k) ∙ some_slot (head_at heads k).is_list (map (held cells) (chain_of cells heads k))

pub head_is : (cells : List Cell) (heads : List Head) (capacity k : ℕ) → IsList (value_of cells heads capacity) k → (head_at heads k).is_list ≡ true
head_is cells heads capacity k is = sym (list_is cells heads capacity k) ∙ is

pub is_head : (heads : List Head) (k : ℕ) → (head_at heads k).is_list ≡ true → k < length heads
is_head heads k is = bounded (either k (length heads))
  where
    either : (a b : ℕ) → (a < b) ⊎ (b ≤ a)
    either a b = grind arith

    bounded : (k < length heads) ⊎ (length heads ≤ k) → k < length heads
    bounded (inl lt) = lt
    bounded (inr le) = absurd (let e : head_at heads k ≡ no_head = get_or_past heads k no_head le in cc)

pub slot_list : (cells : List Cell) (heads : List Head) (k : ℕ) → (head_at heads k).is_list ≡ true → slice_index_or (map (slot cells) heads) k None ≡ Some (map (held cells) (chain_of cells heads k))
slot_list cells heads k is = slot_is cells heads k ∙ ap (λ b. if b then Some (map (held cells) (chain_of cells heads k)) else None) is

pub slot_none : (cells : List Cell) (heads : List Head) (k : ℕ) → (head_at heads k).is_list ≢ true → slice_index_or (map (slot cells) heads) k None ≡ None
slot_none cells heads k none = ⊎_elim (λ is. absurd (none is))
    (λ (e : ((head_at heads k).is_list ≡ false) × ((head_at heads k).is_list ≢ true)). slot_is cells heads k ∙ ap (λ b. if b then Some (map (held cells) (chain_of cells heads k)) else None) e.0)
    (bool_cases (head_at heads k).is_list)

pub cells_are : (cells : List Cell) (heads : List Head) (capacity k : ℕ) → IsPool cells heads → k ≢ 0 → cells_of (value_of cells heads capacity) k ≡ map (held cells) (chain_of cells heads k)
cells_are cells heads capacity k h not_free = ⊎_elim
    (λ is. ap (λ o. unwrap_or o []) (slot_list cells heads k is))
    (λ (e : ((head_at heads k).is_list ≡ false) × ((head_at heads k).is_list ≢ true)). ap (λ o. unwrap_or o []) (slot_none cells heads k e.1) ∙ ap (map (held cells)) (sym (h.gone k e.1 not_free)))
    (bool_cases (head_at heads k).is_list)

pub spans_are : (cells : List Cell) (heads : List Head) (capacity k : ℕ) → IsPool cells heads → k ≢ 0 → spans (value_of cells heads capacity) k ≡ spans_of cells heads k
spans_are cells heads capacity k h not_free = ap (map (λ (s : Held). s.numbers)) (cells_are cells heads capacity k h not_free) ∙ held_numbers cells (chain_of cells heads k)

-- a list is no chain of free cells
pub is_not_free : (cells : List Cell) (heads : List Head) (k : ℕ) → IsPool cells heads → (head_at heads k).is_list ≡ true → k ≢ 0
is_not_free cells heads k h is e = h.free_is_none (subst (λ m. (head_at heads m).is_list ≡ true) e is)

-- lists that a change keeps
pub slots_kept : (cells cells' : List Cell) (heads heads' : List Head) (k m : ℕ) → IsPool cells heads → KeepsOthers cells heads k cells' heads' → m ≢ k
    → slice_index_or (map (slot cells') heads') m None ≡ slice_index_or (map (slot cells) heads) m None
slots_kept cells cells' heads heads' k m h keeps other = ⊎_elim
    (λ is.
    let free = is_not_free cells heads m h is in
    slot_list cells' heads' m (keeps.lists m ∙ is)
    ∙ (ap Some (ap (map (held cells')) (keeps.chains m free other) ∙ held_same cells cells' (chain_of cells heads m) (keeps.intervals m free other))
    ∙ sym (slot_list cells heads m is)))
    (λ (e : ((head_at heads m).is_list ≡ false) × ((head_at heads m).is_list ≢ true)).
    slot_none cells' heads' m (λ is. e.1 (sym (keeps.lists m) ∙ is)) ∙ sym (slot_none cells heads m e.1))
    (bool_cases (head_at heads m).is_list)

-- ---- a list is altered

pub pool_with : (cells cells' : List Cell) (heads heads' : List Head) (k : ℕ) → IsPool cells heads → (head_at heads k).is_list ≡ true → KeepsOthers cells heads k cells' heads' → length cells' ≤ most_cells → AreMerged (spans_of cells' heads' k) → IsPool cells' heads'
pool_with cells cells' heads heads' k h is keeps small merged = record {
  whole = keeps.whole;
  small = small;
  merged = λ m free. ⊎_elim
      (λ (e : ((m == k) ≡ true) × (m ≡ k)). subst (λ n. AreMerged (spans_of cells' heads' n)) (sym e.1) merged)
      (λ (e : ((m == k) ≡ false) × (m ≢ k)). subst AreMerged (sym (same_spans cells cells' heads heads' k m keeps free e.1)) (h.merged m free))
      (eqb_tells m k);
  gone = λ m none free.
      let was : (head_at heads m).is_list ≢ true = λ e. none (keeps.lists m ∙ e) in
      let other : m ≢ k = λ e. was (subst (λ n. (head_at heads n).is_list ≡ true) (sym e) is) in
      keeps.chains m free other ∙ h.gone m was free;
  free_is_none = λ e. h.free_is_none (sym (keeps.lists 0) ∙ e);
}

pub pool_kept : (cells cells' : List Cell) (heads heads' : List Head) (k : ℕ) (among : ℕ → Bool) → IsPool cells heads → (head_at heads k).is_list ≡ true → Changed cells heads k among cells' heads' → IsPool cells' heads'
pool_kept cells cells' heads heads' k among h is c = pool_with cells cells' heads heads' k h is c.keeps c.small c.merged

room_left : (free free' len len' cells cells' cap cap' : ℕ) → free' + len' + cells ≡ free + len + cells' → (cells' ≡ cells) ⊎ ((free ≡ 0) × (free' ≡ 0) × (cells' ≡ cells + 1)) → cap ≤ cap'
    → free + len + (min cap most_cells - cells) ≤ free' + len' + (min cap' most_cells - cells')
room_left free free' len len' cells cells' cap cap' total more le = ⊎_elim
    (λ e. omega (total, e, le, arith))
    (λ (e : (free ≡ 0) × (free' ≡ 0) × (cells' ≡ cells + 1)). let a = e.2 in omega (total, a, le, arith))
    more

pub altered : (cells cells' : List Cell) (heads heads' : List Head) (capacity capacity' k : ℕ) (among : ℕ → Bool) → IsPool cells heads → (head_at heads k).is_list ≡ true → Changed cells heads k among cells' heads' → capacity ≤ capacity'
    → Altered (value_of cells heads capacity) k among (value_of cells' heads' capacity')
altered cells cells' heads heads' capacity capacity' k among h is c le =
    let free = is_not_free cells heads k h is in
    let h' = pool_kept cells cells' heads heads' k among h is c in
    let before = spans_are cells heads capacity k h free in
    let after = spans_are cells' heads' capacity' k h' free in
    let a = ap length before in
    let b = ap length after in
    let few = c.few in
    let total = c.total in
    record {
      lists = λ m. list_is cells' heads' capacity' m ∙ (c.keeps.lists m ∙ sym (list_is cells heads capacity m));
      others = λ m other. slots_kept cells cells' heads heads' k m h c.keeps other;
      numbers = λ n. ap (λ ss. has ss n) after ∙ c.numbers n;
      total = omega (a, b, total, arith);
      more = ⊎_elim (λ e. inl e) (λ (e : (free_count cells heads ≡ 0) × (free_count cells' heads' ≡ 0) × (length cells' ≡ length cells + 1)). inr (nil_from_length (chain_of cells heads 0) e.0, nil_from_length (chain_of cells' heads' 0) e.1, e.2)) c.more;
      few = omega (a, b, few, arith);
      room = let left = room_left (free_count cells heads) (free_count cells' heads') (length (spans_of cells heads k)) (length (spans_of cells' heads' k)) (length cells) (length cells') capacity capacity' total c.more le in omega (a, b, left, arith);
    }

pub altered_list : (change : List Interval → Interval → ℕ → Bool) (cells cells' : List Cell) (heads heads' : List Head) (capacity capacity' l : ℕ) (s : Interval) → IsPool cells heads → (head_at heads l).is_list ≡ true
    → Changed cells heads l (change (spans_of cells heads l) s) cells' heads' → capacity ≤ capacity' → Altered (value_of cells heads capacity) l (change (spans (value_of cells heads capacity) l) s) (value_of cells' heads' capacity')
altered_list change cells cells' heads heads' capacity capacity' l s h is changed le =
    let same = spans_are cells heads capacity l h (is_not_free cells heads l h is) in
    subst (λ ss. Altered (value_of cells heads capacity) l (change ss s) (value_of cells' heads' capacity')) (sym same) (altered cells cells' heads heads' capacity capacity' l (change (spans_of cells heads l) s) h is changed le)

-- an interval was put after all others
pub appended_list : (cells cells' : List Cell) (heads heads' : List Head) (capacity capacity' l : ℕ) (s : Interval) → IsPool cells heads → (head_at heads l).is_list ≡ true → Added cells heads l s cells' heads'
    → spans_of cells' heads' l ≡ spans_of cells heads l ++ s ∷ [] → capacity ≤ capacity' → Appended (value_of cells heads capacity) l s (value_of cells' heads' capacity')
appended_list cells cells' heads heads' capacity capacity' l s h is added more le =
    let free = is_not_free cells heads l h is in
    let h' = pool_kept cells cells' heads heads' l (with_more (spans_of cells heads l) s) h is added in
    record {
      added = altered_list with_more cells cells' heads heads' capacity capacity' l s h is added le;
      spans = spans_are cells' heads' capacity' l h' free ∙ (more ∙ ap (λ ss. ss ++ s ∷ []) (sym (spans_are cells heads capacity l h free)));
    }
