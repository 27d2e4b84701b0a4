-- Lists and the free cells share no cell, and are together all cells.
use Rattle.std.proofs.Common.{◌≡◌, ◌≢◌, ℕ, zero, suc, ◌+◌, ◌<◌, ◌≤◌, Bool, true, false, cond, List, [], ◌∷◌, ◌++◌, length, map, Option, Some, None, refl, sym, ap, subst, ◌∙◌, ⊎_elim, inl, inr, arith, length-append}
use Rattle.std.specs.Prelude.{if◌then◌else◌, ◌==◌}
use Rattle.std.specs.List.{AllByRecursion}
use Rattle.std.proofs.lemmas.Bool.Decides.{eqb_tells}
use Rattle.interval_pool.specs.declared.cells.Cell.{Cell}
use Rattle.interval_pool.specs.declared.cells.Head.{Head}
use Rattle.interval_pool.specs.Links.{most_cells}
use Rattle.interval_pool.specs.Cells.{cell_at, head_at}
use Rattle.interval_pool.specs.Chains.{AreLinked, AreOnce, IsAmong}
use Rattle.interval_pool.specs.Pools.{walk, chain_of}
use Rattle.interval_pool.specs.Changes.{Spends}
use Rattle.interval_pool.specs.Values.{Held, cells_in_lists, IsPartition, IsFull, held, slot, value_of, IsPool}
use Rattle.interval_pool.proofs.Facts.{told, all_weaker, all_joined}
use Rattle.interval_pool.proofs.Walking.{all_below, once_few, without}
use Rattle.interval_pool.proofs.Valued.{held_cells}

-- ---- counting

pub among_without : (n i : ℕ) (is : List ℕ) → i ≢ n → IsAmong i is → IsAmong i (without n is)
among_without n i [] ne among = among
among_without n i (j ∷ js) ne among = ⊎_elim
    (λ (e : ((j == n) ≡ true) × (j ≡ n)). subst (λ b. IsAmong i (cond b (without n js) (j ∷ without n js))) (sym e.0) (⊎_elim (λ same. absurd (ne (same ∙ e.1))) (λ more. among_without n i js ne more) among))
    (λ (e : ((j == n) ≡ false) × (j ≢ n)). subst (λ b. IsAmong i (cond b (without n js) (j ∷ without n js))) (sym e.0) (⊎_elim inl (λ more. inr (among_without n i js ne more)) among))
    (eqb_tells j n)

without_short : (n : ℕ) (is : List ℕ) → length (without n is) ≤ length is
without_short n [] = omega arith
without_short n (i ∷ is) = picked (i == n) (without_short n is)
  where
    picked : (b : Bool) → length (without n is) ≤ length is → length (cond b (without n is) (i ∷ without n is)) ≤ length (i ∷ is)
    picked true le = omega (le, arith)
    picked false le = omega (le, arith)

without_shorter : (n : ℕ) (is : List ℕ) → IsAmong n is → length (without n is) + 1 ≤ length is
without_shorter n [] among = absurd among
without_shorter n (i ∷ is) among = ⊎_elim
    (λ (e : ((i == n) ≡ true) × (i ≡ n)). let P : Bool → Type 0 = λ b. length (cond b (without n is) (i ∷ without n is)) + 1 ≤ length (i ∷ is) in
    subst P (sym e.0) (let le = without_short n is in omega (le, arith)))
    (λ (e : ((i == n) ≡ false) × (i ≢ n)). let P : Bool → Type 0 = λ b. length (cond b (without n is) (i ∷ without n is)) + 1 ≤ length (i ∷ is) in
    subst P (sym e.0) (⊎_elim (λ same. absurd (e.1 (sym same))) (λ more. let le = without_shorter n is more in omega (le, arith)) among))
    (eqb_tells i n)

all_many : (n : ℕ) (is : List ℕ) → ((i : ℕ) → i < n → IsAmong i is) → n ≤ length is
all_many zero is whole = omega arith
all_many (suc n) is whole =
    let le = without_shorter n is (whole n (omega arith)) in
    let more = all_many n (without n is) (λ i lt. among_without n i is (λ (e : i ≡ n). omega (e, lt, arith)) (whole i (omega (lt, arith)))) in
    omega (le, more, arith)

-- ---- chains of different owners

among_front : (i : ℕ) (is js : List ℕ) → IsAmong i is → IsAmong i (is ++ js)
among_front i [] js among = absurd among
among_front i (j ∷ is) js among = ⊎_elim inl (λ more. inr (among_front i is js more)) among

among_back : (i : ℕ) (is js : List ℕ) → IsAmong i js → IsAmong i (is ++ js)
among_back i [] js among = among
among_back i (j ∷ is) js among = inr (among_back i is js among)

owned : (cells : List Cell) (k : ℕ) (is : List ℕ) (e : Option ℕ) → AreLinked cells k is e → AllByRecursion (λ i. (cell_at cells i).owner ≡ k) is
owned cells k [] e linked = tt
owned cells k (i ∷ is) e linked = (linked.0.owner, owned cells k is e linked.1)

once_both : (cells : List Cell) (k : ℕ) (is js : List ℕ) → AllByRecursion (λ i. (cell_at cells i).owner ≡ k) is → AllByRecursion (λ j. k < (cell_at cells j).owner) js → AreOnce is → AreOnce js → AreOnce (is ++ js)
once_both cells k [] js here there one two = two
once_both cells k (i ∷ is) js here there one two =
    let own = here.0 in (
      all_joined (λ j. j ≢ i) is js one.0 (all_weaker (λ j. k < (cell_at cells j).owner) (λ j. j ≢ i) js (λ j lt (e : j ≡ i). let same = ap (λ n. (cell_at cells n).owner) e in omega (own, lt, same, arith)) there),
      once_both cells k is js here.1 there one.1 two,
    )

-- ---- the cells that are in lists

stands_more : (cells : List Cell) (h : Head) (slots : List (Option (List Held))) → h.is_list ≡ true → cells_in_lists (slot cells h ∷ slots) ≡ walk cells h.len h.first ++ cells_in_lists slots
stands_more cells h slots is =
    ap (λ b. cells_in_lists ((if b then Some (map (held cells) (walk cells h.len h.first)) else None) ∷ slots)) is ∙ ap (λ is. is ++ cells_in_lists slots) (held_cells cells (walk cells h.len h.first))

stands_none : (cells : List Cell) (h : Head) (slots : List (Option (List Held))) → h.is_list ≡ false → cells_in_lists (slot cells h ∷ slots) ≡ cells_in_lists slots
stands_none cells h slots none = ap (λ b. cells_in_lists ((if b then Some (map (held cells) (walk cells h.len h.first)) else None) ∷ slots)) none

-- these heads are those from a place on
abbrev AreFrom : List Head → ℕ → List Head → Type 0
AreFrom heads k hs = (j : ℕ) → head_at hs j ≡ head_at heads (k + j)

from_next : (heads : List Head) (k : ℕ) (h : Head) (hs : List Head) → AreFrom heads k (h ∷ hs) → AreFrom heads (suc k) hs
from_next heads k h hs from j = from (suc j) ∙ ap (head_at heads) (let e : k + suc j ≡ suc k + j = omega arith in e)

from_here : (heads : List Head) (k : ℕ) (h : Head) (hs : List Head) → AreFrom heads k (h ∷ hs) → h ≡ head_at heads k
from_here heads k h hs from = from 0 ∙ ap (head_at heads) (let e : k + 0 ≡ k = omega arith in e)

stand_owned : (cells : List Cell) (heads : List Head) (k : ℕ) (hs : List Head) → IsPool cells heads → AreFrom heads k hs → AllByRecursion (λ i. (k ≤ (cell_at cells i).owner) × (i < length cells)) (cells_in_lists (map (slot cells) hs))
stand_owned cells heads k [] p from = tt
stand_owned cells heads k (h ∷ hs) p from =
    let P : ℕ → Type 0 = λ i. (k ≤ (cell_at cells i).owner) × (i < length cells) in
    let more = all_weaker (λ i. (suc k ≤ (cell_at cells i).owner) × (i < length cells)) P (cells_in_lists (map (slot cells) hs)) (λ i both. let le = both.0 in (omega (le, arith), both.1)) (stand_owned cells heads (suc k) hs p (from_next heads k h hs from)) in
    ⊎_elim
    (λ is.
    let chain : walk cells h.len h.first ≡ chain_of cells heads k = ap (λ (g : Head). walk cells g.len g.first) (from_here heads k h hs from) in
    let here : AllByRecursion P (chain_of cells heads k) = both k (chain_of cells heads k) (owned cells k (chain_of cells heads k) None (p.whole.linked k)) (all_below cells k (chain_of cells heads k) None (p.whole.linked k)) in
    subst (AllByRecursion P) (sym (stands_more cells h (map (slot cells) hs) is)) (all_joined P (walk cells h.len h.first) (cells_in_lists (map (slot cells) hs)) (subst (AllByRecursion P) (sym chain) here) more))
    (λ none. subst (AllByRecursion P) (sym (stands_none cells h (map (slot cells) hs) none)) more)
    (told h.is_list)
  where
    both : (k : ℕ) (is : List ℕ) → AllByRecursion (λ i. (cell_at cells i).owner ≡ k) is → AllByRecursion (λ i. i < length cells) is → AllByRecursion (λ i. (k ≤ (cell_at cells i).owner) × (i < length cells)) is
    both k [] own below = tt
    both k (i ∷ is) own below = let e = own.0 in ((omega (e, arith), below.0), both k is own.1 below.1)

stand_once : (cells : List Cell) (heads : List Head) (k : ℕ) (hs : List Head) → IsPool cells heads → AreFrom heads k hs → AreOnce (cells_in_lists (map (slot cells) hs))
stand_once cells heads k [] p from = tt
stand_once cells heads k (h ∷ hs) p from =
    let later = from_next heads k h hs from in
    let more = stand_once cells heads (suc k) hs p later in
    ⊎_elim
    (λ is.
    let chain : walk cells h.len h.first ≡ chain_of cells heads k = ap (λ (g : Head). walk cells g.len g.first) (from_here heads k h hs from) in
    let there = all_weaker (λ i. (suc k ≤ (cell_at cells i).owner) × (i < length cells)) (λ i. k < (cell_at cells i).owner) (cells_in_lists (map (slot cells) hs)) (λ i both. let le = both.0 in omega (le, arith)) (stand_owned cells heads (suc k) hs p later) in
    subst AreOnce (sym (stands_more cells h (map (slot cells) hs) is ∙ ap (λ is. is ++ cells_in_lists (map (slot cells) hs)) chain))
    (once_both cells k (chain_of cells heads k) (cells_in_lists (map (slot cells) hs)) (owned cells k (chain_of cells heads k) None (p.whole.linked k)) there (p.whole.once k) more))
    (λ none. subst AreOnce (sym (stands_none cells h (map (slot cells) hs) none)) more)
    (told h.is_list)

among_own : (cells : List Cell) (heads : List Head) (i : ℕ) → IsPool cells heads → i < length cells → IsAmong i (chain_of cells heads (cell_at cells i).owner)
among_own cells heads i p lt = ⊎_elim (λ (e : None ≡ Some i). absurd (cc)) (λ a. a) (p.whole.whole i lt)

-- what is no list has no cells
none_among : (cells : List Cell) (heads : List Head) (i m : ℕ) → IsPool cells heads → 1 ≤ m → (head_at heads m).is_list ≡ false → IsAmong i (chain_of cells heads m) → ⊥
none_among cells heads i m p some none among = subst (IsAmong i) (p.gone m (λ e. cc) (λ (e : m ≡ 0). omega (e, some, arith))) among

stand_whole : (cells : List Cell) (heads : List Head) (k : ℕ) (hs : List Head) (i j : ℕ) → IsPool cells heads → 1 ≤ k → AreFrom heads k hs → i < length cells → (cell_at cells i).owner ≡ k + j → IsAmong i (cells_in_lists (map (slot cells) hs))
stand_whole cells heads k [] i j p some from lt own =
    let there = subst (λ o. IsAmong i (chain_of cells heads o)) own (among_own cells heads i p lt) in
    none_among cells heads i (k + j) p (omega (some, arith)) (ap (λ (h : Head). h.is_list) (sym (from j))) there
stand_whole cells heads k (h ∷ hs) i zero p some from lt own =
    let same : (cell_at cells i).owner ≡ k = own ∙ (let e : k + 0 ≡ k = omega arith in e) in
    let there = subst (λ o. IsAmong i (chain_of cells heads o)) same (among_own cells heads i p lt) in
    let here = from_here heads k h hs from in
    ⊎_elim
    (λ is.
    let chain : walk cells h.len h.first ≡ chain_of cells heads k = ap (λ (g : Head). walk cells g.len g.first) here in
    subst (IsAmong i) (sym (stands_more cells h (map (slot cells) hs) is)) (among_front i (walk cells h.len h.first) (cells_in_lists (map (slot cells) hs)) (subst (IsAmong i) (sym chain) there)))
    (λ none. absurd (none_among cells heads i k p some (ap (λ (g : Head). g.is_list) (sym here) ∙ none) there))
    (told h.is_list)
stand_whole cells heads k (h ∷ hs) i (suc j) p some from lt own =
    let more = stand_whole cells heads (suc k) hs i j p (omega arith) (from_next heads k h hs from) lt (own ∙ (let e : k + suc j ≡ suc k + j = omega arith in e)) in
    ⊎_elim
    (λ is. subst (IsAmong i) (sym (stands_more cells h (map (slot cells) hs) is)) (among_back i (walk cells h.len h.first) (cells_in_lists (map (slot cells) hs)) more))
    (λ none. subst (IsAmong i) (sym (stands_none cells h (map (slot cells) hs) none)) more)
    (told h.is_list)

-- ---- all cells

-- the chain of the free cells is no list
lists_from : (cells : List Cell) (heads : List Head) → IsPool cells heads → (hs : List Head) × (AreFrom heads 1 hs × (cells_in_lists (map (slot cells) heads) ≡ cells_in_lists (map (slot cells) hs)))
lists_from cells [] p = ([], ((λ j. refl), refl))
lists_from cells (h ∷ hs) p = (hs, ((λ j. ap (head_at (h ∷ hs)) (let e : suc j ≡ 1 + j = omega arith in e)), stands_none cells h (map (slot cells) hs) (⊎_elim (λ is. absurd (p.free_is_none is)) (λ e. e) (told h.is_list))))

pub partition : (cells : List Cell) (heads : List Head) (capacity : ℕ) → IsPool cells heads → IsPartition (value_of cells heads capacity)
partition cells heads capacity p =
    let split = lists_from cells heads p in
    let hs = split.0 in
    let from = split.1.0 in
    let same = split.1.1 in
    let free = chain_of cells heads 0 in
    let there = stand_owned cells heads 1 hs p from in
    let once : AreOnce (free ++ cells_in_lists (map (slot cells) heads)) = subst (λ is. AreOnce (free ++ is)) (sym same)
    (once_both cells 0 free (cells_in_lists (map (slot cells) hs)) (owned cells 0 free None (p.whole.linked 0))
    (all_weaker (λ i. (1 ≤ (cell_at cells i).owner) × (i < length cells)) (λ i. 0 < (cell_at cells i).owner) (cells_in_lists (map (slot cells) hs)) (λ i both. let le = both.0 in omega (le, arith)) there)
    (p.whole.once 0) (stand_once cells heads 1 hs p from)) in
    let below : AllByRecursion (λ i. i < length cells) (free ++ cells_in_lists (map (slot cells) heads)) = subst (λ is. AllByRecursion (λ i. i < length cells) (free ++ is)) (sym same)
    (all_joined (λ i. i < length cells) free (cells_in_lists (map (slot cells) hs)) (all_below cells 0 free None (p.whole.linked 0))
    (all_weaker (λ i. (1 ≤ (cell_at cells i).owner) × (i < length cells)) (λ i. i < length cells) (cells_in_lists (map (slot cells) hs)) (λ i both. both.1) there)) in
    let whole : (i : ℕ) → i < length cells → IsAmong i (free ++ cells_in_lists (map (slot cells) heads)) = λ i lt. subst (λ is. IsAmong i (free ++ is)) (sym same) (placed i lt hs from (cell_at cells i).owner refl) in
    record {
      once = once;
      below = below;
      whole = whole;
      count =
          let few = once_few (length cells) (free ++ cells_in_lists (map (slot cells) heads)) once below in
          let many = all_many (length cells) (free ++ cells_in_lists (map (slot cells) heads)) whole in
          let sum = length-append free (cells_in_lists (map (slot cells) heads)) in
          omega (few, many, sum, arith);
    }
  where
    placed : (i : ℕ) → i < length cells → (hs : List Head) → AreFrom heads 1 hs → (o : ℕ) → (cell_at cells i).owner ≡ o → IsAmong i (chain_of cells heads 0 ++ cells_in_lists (map (slot cells) hs))
    placed i lt hs from zero own = among_front i (chain_of cells heads 0) (cells_in_lists (map (slot cells) hs)) (subst (λ o. IsAmong i (chain_of cells heads o)) own (among_own cells heads i p lt))
    placed i lt hs from (suc o) own = among_back i (chain_of cells heads 0) (cells_in_lists (map (slot cells) hs)) (stand_whole cells heads 1 hs i o p (omega arith) from lt (own ∙ (let e : suc o ≡ 1 + o = omega arith in e)))

pub all_made : (cells : List Cell) (heads : List Head) (capacity : ℕ) → IsPool cells heads → IsFull (value_of cells heads capacity) → most_cells ≤ length cells
all_made cells heads capacity p full = let count = (partition cells heads capacity p).count in omega (count, full, arith)

pub all_stand : (cells : List Cell) (heads : List Head) (capacity : ℕ) → IsPool cells heads → Spends cells heads capacity → most_cells ≤ length cells → IsFull (value_of cells heads capacity)
all_stand cells heads capacity p spent full =
    let count = (partition cells heads capacity p).count in
    let none = (spent p.whole).free in
    omega (count, none, full, arith)
