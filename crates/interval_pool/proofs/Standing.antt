-- What callers see of lists that begin or end, and of the cells in lists.
use Rattle.std.proofs.Common.{◌≡◌, ◌≢◌, ℕ, zero, suc, ◌-◌, ◌<◌, ◌≤◌, Bool, true, false, nat_le, ◌&&◌, ◌||◌, List, [], ◌∷◌, ◌++◌, length, map, Option, Some, None, refl, sym, ap, subst, ◌∙◌, ⊎_elim, arith}
use Rattle.std.specs.Prelude.{min, unwrap_or, is_some, IfSome, IfNone, ◌==◌}
use Rattle.std.specs.List.{AllByRecursion, Contains}
use Rattle.std.proofs.lemmas.List.Elements.{Contains-append_right}
use Rattle.std.proofs.lemmas.Bool.Decides.{eqb_tells, nat_tests}
use Rattle.std.proofs.lemmas.List.{map-append, length-map}
use Rattle.interval_pool.specs.declared.cells.Cell.{Cell}
use Rattle.interval_pool.specs.declared.cells.Head.{Head}
use Rattle.interval_pool.specs.declared.interval.Interval.{Interval}
use Rattle.interval_pool.specs.Links.{most_cells}
use Rattle.interval_pool.specs.Cells.{cell_at, head_at, after}
use Rattle.interval_pool.specs.Chains.{first_or, AreLinked}
use Rattle.interval_pool.specs.Intervals.{IsBefore, AreMerged, covers, has}
use Rattle.interval_pool.specs.Pools.{chain_of, interval_at, AreWhole}
use Rattle.interval_pool.specs.Places.{Reaches, IsPlace}
use Rattle.interval_pool.specs.Changes.{spans_of, Claimed, AreAllClaimed, Dropped}
use Rattle.interval_pool.specs.Values.{Held, cells_of, spans, first_cell, Opened, Released, AreAllLists, Follows, Covers, held, slot, value_of, IsPool}
use Rattle.interval_pool.proofs.Facts.{bool_cases, or_false, all_weaker}
use Rattle.interval_pool.proofs.Linking.{in_parts}
use Rattle.interval_pool.proofs.Lists.{same_intervals}
use Rattle.interval_pool.proofs.Walking.{after_is}
use Rattle.interval_pool.proofs.Seeking.{begins}
use Rattle.interval_pool.proofs.Altering.{has_append, merged_back, below_spans}
use Rattle.interval_pool.proofs.Listing.{chains_stay, whole_stays}
use Rattle.interval_pool.proofs.Valued.{slot_is, slot_list, slot_none, list_is, head_is, is_not_free, cells_are, spans_are, held_same}

-- ---- a list begins

pub pool_claimed : (cells : List Cell) (heads heads' : List Head) (k : ℕ) → IsPool cells heads → Claimed heads k heads' → IsPool cells heads'
pool_claimed cells heads heads' k h c = record {
  whole = whole_stays cells heads heads' k true c.list h.whole;
  small = h.small;
  merged = λ m free. subst AreMerged (sym (ap (map (interval_at cells)) (chains_stay cells heads heads' k true c.list m))) (h.merged m free);
  gone = λ m none free.
      let is_now : (head_at heads' k).is_list ≡ true = ap (λ (g : Head). g.is_list) c.list.now in
      let other : m ≢ k = λ e. none (subst (λ n. (head_at heads' n).is_list ≡ true) (sym e) is_now) in
      chains_stay cells heads heads' k true c.list m ∙ h.gone m (λ is. none (ap (λ (g : Head). g.is_list) (c.list.others m other) ∙ is)) free;
  free_is_none = λ is. h.free_is_none (sym (ap (λ (g : Head). g.is_list) (c.list.others 0 (λ e. c.not_free (sym e)))) ∙ is);
}

pub opened : (cells : List Cell) (heads heads' : List Head) (capacity k : ℕ) → IsPool cells heads → Claimed heads k heads' → Opened (value_of cells heads capacity) k (value_of cells heads' capacity)
opened cells heads heads' capacity k h c =
    let was : (head_at heads k).is_list ≢ true = λ e. let no = c.was in cc in
    record {
      new = slot_none cells heads k was;
      now = slot_list cells heads' k (ap (λ (g : Head). g.is_list) c.list.now) ∙ ap (λ is. Some (map (held cells) is)) (chains_stay cells heads heads' k true c.list k ∙ h.gone k was c.not_free);
      others = λ m other. slot_is cells heads' m ∙ (ap (slot cells) (c.list.others m other) ∙ sym (slot_is cells heads m));
      free = chains_stay cells heads heads' k true c.list 0;
      cells = refl;
      room = refl;
    }

pub all_lists : (cells : List Cell) (heads : List Head) (capacity : ℕ) → AreAllClaimed heads → AreAllLists (value_of cells heads capacity)
all_lists cells heads capacity all = λ l from upto. list_is cells heads capacity l ∙ all l from upto

pub all_claimed : (cells : List Cell) (heads : List Head) (capacity : ℕ) → AreAllLists (value_of cells heads capacity) → AreAllClaimed heads
all_claimed cells heads capacity all = λ k from upto. head_is cells heads capacity k (all k from upto)

-- ---- a list ends

pub pool_dropped : (cells cells' : List Cell) (heads heads' : List Head) (k : ℕ) → IsPool cells heads → (head_at heads k).is_list ≡ true → Dropped cells heads k cells' heads' → IsPool cells' heads'
pool_dropped cells cells' heads heads' k h is d = record {
  whole = d.whole;
  small = let n = d.as_many in let s = h.small in omega (n, s, arith);
  merged = λ m free. ⊎_elim
      (λ (e : ((m == k) ≡ true) × (m ≡ k)). subst (λ n. AreMerged (map (interval_at cells') (chain_of cells' heads' n))) (sym e.1) (subst (λ is. AreMerged (map (interval_at cells') is)) (sym d.empty) tt))
      (λ (e : ((m == k) ≡ false) × (m ≢ k)). subst AreMerged (sym (ap (map (interval_at cells')) (d.chains m free e.1) ∙ same_intervals cells cells' d.intervals (chain_of cells heads m))) (h.merged m free))
      (eqb_tells m k);
  gone = λ m none free. ⊎_elim
      (λ (e : ((m == k) ≡ true) × (m ≡ k)). subst (λ n. chain_of cells' heads' n ≡ []) (sym e.1) d.empty)
      (λ (e : ((m == k) ≡ false) × (m ≢ k)). d.chains m free e.1 ∙ h.gone m (λ is. none (d.lists m e.1 ∙ is)) free)
      (eqb_tells m k);
  free_is_none = λ is_now. h.free_is_none (sym (d.lists 0 (λ e. is_not_free cells heads k h is (sym e))) ∙ is_now);
}

pub released : (cells cells' : List Cell) (heads heads' : List Head) (capacity k : ℕ) → IsPool cells heads → (head_at heads k).is_list ≡ true → Dropped cells heads k cells' heads' → Released (value_of cells heads capacity) k (value_of cells' heads' capacity)
released cells cells' heads heads' capacity k h is d = record {
  now = slot_none cells' heads' k (λ e. let no = d.none in cc);
  others = λ m other. ⊎_elim
      (λ list.
      let free = is_not_free cells heads m h list in
      slot_list cells' heads' m (d.lists m other ∙ list)
      ∙ (ap Some (ap (map (held cells')) (d.chains m free other) ∙ held_same cells cells' (chain_of cells heads m) (same_intervals cells cells' d.intervals (chain_of cells heads m)))
      ∙ sym (slot_list cells heads m list)))
      (λ (e : ((head_at heads m).is_list ≡ false) × ((head_at heads m).is_list ≢ true)). slot_none cells' heads' m (λ list. e.1 (sym (d.lists m other) ∙ list)) ∙ sym (slot_none cells heads m e.1))
      (bool_cases (head_at heads m).is_list);
  free = let a = d.free in let b = ap length (spans_are cells heads capacity k h (is_not_free cells heads k h is)) in omega (a, b, arith);
  cells = d.as_many;
  room = let n = d.as_many in (let e : min capacity most_cells - length cells' ≡ min capacity most_cells - length cells = ap (λ m. min capacity most_cells - m) n in e);
}

-- ---- the cells of a list

first_held : (cells : List Cell) (is : List ℕ) → first_cell (map (held cells) is) ≡ first_or None is
first_held cells [] = refl
first_held cells (i ∷ is) = refl

pub first_is : (cells : List Cell) (heads : List Head) (capacity k : ℕ) → IsPool cells heads → (head_at heads k).is_list ≡ true → (head_at heads k).first ≡ first_cell (cells_of (value_of cells heads capacity) k)
first_is cells heads capacity k h is =
    h.whole.first k ∙ (sym (first_held cells (chain_of cells heads k)) ∙ ap first_cell (sym (cells_are cells heads capacity k h (is_not_free cells heads k h is))))

pub many_are : (cells : List Cell) (heads : List Head) (capacity k : ℕ) → IsPool cells heads → (head_at heads k).is_list ≡ true → (head_at heads k).len ≡ length (cells_of (value_of cells heads capacity) k)
many_are cells heads capacity k h is =
    h.whole.count k ∙ (sym (length-map (chain_of cells heads k) (held cells)) ∙ ap length (sym (cells_are cells heads capacity k h (is_not_free cells heads k h is))))

held_parts : (cells : List Cell) (is : List ℕ) (before : List Held) (h : Held) (behind : List Held) → map (held cells) is ≡ before ++ h ∷ behind
    → (xs : List ℕ) × ((ys : List ℕ) × ((is ≡ xs ++ h.cell ∷ ys) × ((interval_at cells h.cell ≡ h.numbers) × (map (held cells) ys ≡ behind))))
held_parts cells [] [] h behind e = absurd (cc)
held_parts cells [] (b ∷ bs) h behind e = absurd (cc)
held_parts cells (i ∷ is) [] h behind e =
    let here : held cells i ≡ h = cc in
    let number : i ≡ h.cell = ap (λ (g : Held). g.cell) here in
    ([], (is, (ap (λ n. n ∷ is) number, (ap (interval_at cells) (sym number) ∙ ap (λ (g : Held). g.numbers) here, (cc)))))
held_parts cells (i ∷ is) (b ∷ bs) h behind e =
    let more = held_parts cells is bs h behind (cc) in
    (i ∷ more.0, (more.1.0, (ap (λ js. i ∷ js) more.1.1.0, more.1.1.1)))

-- a list of cells is that of a chain
chain_with : (cells : List Cell) (heads : List Head) (capacity l : ℕ) (before : List Held) (h : Held) (behind : List Held) → IsPool cells heads → cells_of (value_of cells heads capacity) l ≡ before ++ h ∷ behind
    → map (held cells) (chain_of cells heads l) ≡ before ++ h ∷ behind
chain_with cells heads capacity l before h behind p e = ⊎_elim
    (λ is. sym (cells_are cells heads capacity l p (is_not_free cells heads l p is)) ∙ e)
    (λ (none : ((head_at heads l).is_list ≡ false) × ((head_at heads l).is_list ≢ true)). absurd (some before (sym (ap (λ o. unwrap_or o []) (slot_none cells heads l none.1)) ∙ e)))
    (bool_cases (head_at heads l).is_list)
  where
    some : (before : List Held) → [] ≡ before ++ h ∷ behind → ⊥
    some [] e = cc
    some (b ∷ bs) e = cc

pub follows : (cells : List Cell) (heads : List Head) (capacity i : ℕ) → IsPool cells heads → Follows (value_of cells heads capacity) i (cell_at cells i).next
follows cells heads capacity i p = λ l before h behind e same.
    let parts = held_parts cells (chain_of cells heads l) before h behind (chain_with cells heads capacity l before h behind p e) in
    let xs = parts.0 in
    let ys = parts.1.0 in
    let linked = in_parts cells l xs (h.cell ∷ ys) None (subst (λ is. AreLinked cells l is None) parts.1.1.0 (p.whole.linked l)) in
    ap (λ n. (cell_at cells n).next) (sym same) ∙ (linked.1.0.next_is ∙ (sym (first_held cells ys) ∙ ap first_cell parts.1.1.1.1))

pub covers_it : (cells : List Cell) (heads : List Head) (capacity i : ℕ) → IsPool cells heads → Covers (value_of cells heads capacity) i (interval_at cells i)
covers_it cells heads capacity i p = λ l before h behind e same.
    let parts = held_parts cells (chain_of cells heads l) before h behind (chain_with cells heads capacity l before h behind p e) in
    ap (interval_at cells) (sym same) ∙ parts.1.1.1.0

-- ---- whether a list has a number

has_none : (ss : List Interval) (n : ℕ) → AllByRecursion (λ s. s.hi < n) ss → has ss n ≡ false
has_none [] n all = refl
has_none (s ∷ ss) n all = let lt = all.0 in (λ i. past s.lo s.hi lt i || has_none ss n all.1 i)
  where
    past : (a b : ℕ) → b < n → (nat_le a n && nat_le n b) ≡ false
    past a b lt = grind (arith, nat_tests)

has_after : (ss : List Interval) (n : ℕ) → AllByRecursion (λ s. n < s.lo) ss → has ss n ≡ false
has_after [] n all = refl
has_after (s ∷ ss) n all = let lt = all.0 in (λ i. past s.lo s.hi lt i || has_after ss n all.1 i)
  where
    past : (a b : ℕ) → n < a → (nat_le a n && nat_le n b) ≡ false
    past a b lt = grind (arith, nat_tests)

-- what is found at the place of a number: whether the cell there begins up to it
abbrev pub begins_at : List Cell → ℕ → Option ℕ → Bool
begins_at cells n None = false
begins_at cells n (Some i) = nat_le (cell_at cells i).lo n

pub found : (cells : List Cell) (heads : List Head) (k n : ℕ) (before : Option ℕ) → AreWhole cells heads → AreMerged (spans_of cells heads k) → IsPlace cells heads k n before → begins_at cells n (after cells heads k before) ≡ has (spans_of cells heads k) n
found cells heads k n before h merged place =
    let f : ℕ → Interval = interval_at cells in
    let spans : spans_of cells heads k ≡ map f place.xs ++ map f place.ys = ap (map f) place.parts ∙ map-append f place.xs place.ys in
    let back : AreMerged (map f place.ys) = merged_back (map f place.xs) (map f place.ys) (subst AreMerged spans merged) in
    let at : after cells heads k before ≡ first_or None place.ys = ap (after cells heads k) place.before_is ∙ after_is cells heads None (chain_of cells heads) k place.xs place.ys h place.parts in
    ap (begins_at cells n) at ∙ (first_has place.ys back place.reaches
    ∙ (sym (ap (λ b. b || has (map f place.ys) n) (has_none (map f place.xs) n (below_spans cells n place.xs place.below)))
    ∙ (sym (has_append (map f place.xs) (map f place.ys) n) ∙ ap (λ ss. has ss n) (sym spans))))
  where
    first_has : (ys : List ℕ) → AreMerged (map (interval_at cells) ys) → Reaches cells n ys → begins_at cells n (first_or None ys) ≡ has (map (interval_at cells) ys) n
    first_has [] merged reaches = refl
    first_has (y ∷ ys) merged reaches = begun (nat_le (cell_at cells y).lo n) refl
      where
        upto : nat_le n (cell_at cells y).hi ≡ true
        upto = grind (arith, nat_tests)

        and_true : (a : Bool) → a ≡ (a && true)
        and_true true = refl
        and_true false = refl

        begun : (b : Bool) → nat_le (cell_at cells y).lo n ≡ b → nat_le (cell_at cells y).lo n ≡ (covers (interval_at cells y) n || has (map (interval_at cells) ys) n)
        begun true e = e ∙ sym (λ i. ((e i) && (upto i)) || has (map (interval_at cells) ys) n)
        begun false e =
            let filled = merged.0 in
            let far : n < (cell_at cells y).lo = grind (arith, nat_tests) in
            let later = has_after (map (interval_at cells) ys) n (all_weaker (IsBefore (interval_at cells y)) (λ s. n < s.lo) (map (interval_at cells) ys) (λ s b. omega (b, filled, far, arith)) merged.1) in
            and_true (nat_le (cell_at cells y).lo n) ∙ (sym (λ i. nat_le (cell_at cells y).lo n && upto i) ∙ (or_false (covers (interval_at cells y) n) ∙ sym (λ i. covers (interval_at cells y) n || later i)))

-- the cell at the place of a number, if it begins up to it
pub stands_there : (cells : List Cell) (heads : List Head) (k n i : ℕ) (before : Option ℕ) → AreWhole cells heads → IsPlace cells heads k n before → after cells heads k before ≡ Some i → (cell_at cells i).lo ≤ n
    → Contains (spans_of cells heads k) (interval_at cells i) × (covers (interval_at cells i) n ≡ true)
stands_there cells heads k n i before h place is le =
    let f : ℕ → Interval = interval_at cells in
    let at : after cells heads k before ≡ first_or None place.ys = ap (after cells heads k) place.before_is ∙ after_is cells heads None (chain_of cells heads) k place.xs place.ys h place.parts in
    let rest = begins place.ys i (sym is ∙ at) in
    let spans : spans_of cells heads k ≡ map f place.xs ++ f i ∷ map f rest.0 = ap (map f) place.parts ∙ (map-append f place.xs place.ys ∙ ap (λ js. map f place.xs ++ map f js) rest.1) in
    let upto : n ≤ (cell_at cells i).hi = subst (Reaches cells n) rest.1 place.reaches in (
      subst (λ ss. Contains ss (f i)) (sym spans) (Contains-append_right (map f place.xs) (f i ∷ map f rest.0) (f i) (0, omega arith, refl)),
      grind (arith, nat_tests),
    )

pub found_none : (cells : List Cell) (heads : List Head) (k n : ℕ) (before at : Option ℕ) → AreWhole cells heads → AreMerged (spans_of cells heads k) → IsPlace cells heads k n before → at ≡ after cells heads k before → begins_at cells n at ≡ false → has (spans_of cells heads k) n ≡ false
found_none cells heads k n before at h merged place is none = sym (ap (begins_at cells n) is ∙ found cells heads k n before h merged place) ∙ none

pub begins_later : (a n : ℕ) → n < a → nat_le a n ≡ false
begins_later a n lt = grind (arith, nat_tests)

pub has_one : (ss : List Interval) (s : Interval) (n : ℕ) → Contains ss s → covers s n ≡ true → has ss n ≡ true
has_one [] s n one covered = absurd (let lt = one.1 in omega (lt, arith))
has_one (t ∷ ts) s n (zero, lt, same) covered = (let first : covers t n ≡ true = ap (λ u. covers u n) same ∙ covered in ap (λ b. b || has ts n) first)
has_one (t ∷ ts) s n (suc k, lt, same) covered = ap (λ b. covers t n || b) (has_one ts s n (k, omega (lt, arith), same) covered) ∙ or_true (covers t n)
  where
    or_true : (a : Bool) → (a || true) ≡ true
    or_true true = refl
    or_true false = refl

-- so a list has a number where an interval of it does
pub some_has : (found : Option Interval) (ss : List Interval) (n : ℕ) → IfSome found (λ s. Contains ss s) → IfSome found (λ s. covers s n ≡ true) → IfNone found (has ss n ≡ false) → is_some found ≡ has ss n
some_has None ss n one covered none = sym none
some_has (Some s) ss n one covered none = sym (has_one ss s n one covered)

-- ---- every list is merged

pub all_merged : (cells : List Cell) (heads : List Head) (capacity l : ℕ) → IsPool cells heads → AreMerged (spans (value_of cells heads capacity) l)
all_merged cells heads capacity l h = ⊎_elim
    (λ is. let free = is_not_free cells heads l h is in subst AreMerged (sym (spans_are cells heads capacity l h free)) (h.merged l free))
    (λ (e : ((head_at heads l).is_list ≡ false) × ((head_at heads l).is_list ≢ true)). subst (λ o. AreMerged (map (λ (s : Held). s.numbers) (unwrap_or o []))) (sym (slot_none cells heads l e.1)) tt)
    (bool_cases (head_at heads l).is_list)
