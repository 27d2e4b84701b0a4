-- What a walk along a list has passed.
use Rattle.std.proofs.Common.{◌≡◌, ℕ, ◌-◌, ◌<◌, ◌≤◌, List, [], ◌∷◌, ◌++◌, length, map, Option, Some, None, refl, sym, ap, subst, ◌∙◌, ⊎_elim, arith, length-append}
use Rattle.std.specs.List.{AllByRecursion}
use Rattle.interval_pool.specs.declared.cells.Cell.{Cell}
use Rattle.interval_pool.specs.declared.cells.Head.{Head}
use Rattle.interval_pool.specs.Cells.{cell_at, head_at, after}
use Rattle.interval_pool.specs.Chains.{first_or, last_or, IsAmong, AreLinked}
use Rattle.interval_pool.specs.declared.interval.Interval.{Interval}
use Rattle.interval_pool.specs.Intervals.{IsBefore}
use Rattle.interval_pool.specs.Pools.{interval_at, chain_of, AreWhole}
use Rattle.interval_pool.specs.Places.{IsAscending, AreBelow, IsStart, IsPassed, IsPlace}
use Rattle.interval_pool.proofs.Facts.{all_joined}
use Rattle.interval_pool.proofs.Linking.{in_parts}
use Rattle.interval_pool.proofs.Walking.{after_is}

-- ---- lists

pub last_append : (start : Option ℕ) (xs : List ℕ) (i : ℕ) → last_or start (xs ++ i ∷ []) ≡ Some i
last_append start [] i = refl
last_append start (x ∷ xs) i = last_append (Some x) xs i

pub moved_on : (xs ys : List ℕ) (i : ℕ) → xs ++ i ∷ ys ≡ (xs ++ i ∷ []) ++ ys
moved_on [] ys i = refl
moved_on (x ∷ xs) ys i = ap (λ is. x ∷ is) (moved_on xs ys i)

pub split_at : (i : ℕ) (is : List ℕ) → IsAmong i is → (xs : List ℕ) × ((ys : List ℕ) × (is ≡ xs ++ i ∷ ys))
split_at i [] among = absurd among
split_at i (j ∷ js) among = ⊎_elim
    (λ (e : i ≡ j). ([], (js, ap (λ n. n ∷ js) (sym e))))
    (λ more. let parts = split_at i js more in (j ∷ parts.0, (parts.1.0, ap (λ is. j ∷ is) parts.1.1)))
    among

-- cells that begin with one
pub begins : (ys : List ℕ) (i : ℕ) → Some i ≡ first_or None ys → (rest : List ℕ) × (ys ≡ i ∷ rest)
begins [] i e = absurd (cc)
begins (j ∷ js) i e = (js, let same : j ≡ i = cc in ap (λ n. n ∷ js) same)

-- ---- cells that ascend

all_at : (P : Interval → Type 0) (cells : List Cell) (xs ys : List ℕ) (i : ℕ) → AllByRecursion P (map (interval_at cells) (xs ++ i ∷ ys)) → P (interval_at cells i)
all_at P cells [] ys i all = all.0
all_at P cells (x ∷ xs) ys i all = all_at P cells xs ys i all.1

pub filled_at : (cells : List Cell) (xs ys : List ℕ) (i : ℕ) → IsAscending cells (xs ++ i ∷ ys) → (cell_at cells i).lo ≤ (cell_at cells i).hi
filled_at cells [] ys i merged = merged.0
filled_at cells (x ∷ xs) ys i merged = filled_at cells xs ys i merged.2

pub below_at : (cells : List Cell) (n : ℕ) (xs ys : List ℕ) (i : ℕ) → IsAscending cells (xs ++ i ∷ ys) → (cell_at cells i).hi < n → AreBelow cells n (xs ++ i ∷ [])
below_at cells n [] ys i merged lt = (lt, tt)
below_at cells n (x ∷ xs) ys i merged lt =
    let apart = all_at (IsBefore (interval_at cells x)) cells xs ys i merged.1 in
    let filled = filled_at cells xs ys i merged.2 in
    (omega (apart, filled, lt, arith), below_at cells n xs ys i merged.2 lt)

-- ---- the walk

pub start_passed : (cells : List Cell) (heads : List Head) (k n : ℕ) (start : Option ℕ) → AreWhole cells heads → IsAscending cells (chain_of cells heads k) → IsStart cells k n start
    → IsPassed cells heads k n start (after cells heads k start) (head_at heads k).len
start_passed cells heads k n None h merged is = record {
  xs = [];
  ys = chain_of cells heads k;
  parts = refl;
  before_is = refl;
  at_is = h.first k;
  below = tt;
  few = let e = h.count k in omega (e, arith);
}
start_passed cells heads k n (Some i) h merged is =
    let among : IsAmong i (chain_of cells heads k) = subst (λ o. IsAmong i (chain_of cells heads o)) is.1 (⊎_elim (λ e. absurd (cc)) (λ a. a) (h.whole i is.0)) in
    let split = split_at i (chain_of cells heads k) among in
    let xs = split.0 in
    let ys = split.1.0 in
    let parts : chain_of cells heads k ≡ (xs ++ i ∷ []) ++ ys = split.1.1 ∙ moved_on xs ys i in
    let last : Some i ≡ last_or None (xs ++ i ∷ []) = sym (last_append None xs i) in
    record {
      xs = xs ++ i ∷ [];
      ys = ys;
      parts = parts;
      before_is = last;
      at_is = ap (after cells heads k) last ∙ after_is cells heads None (chain_of cells heads) k (xs ++ i ∷ []) ys h parts;
      below = below_at cells n xs ys i (subst (IsAscending cells) split.1.1 merged) is.2;
      few = let e = h.count k in let f = ap length split.1.1 in omega (e, f, arith, length-append xs (i ∷ ys));
    }

pub passes : (cells : List Cell) (heads : List Head) (k n i : ℕ) (before at : Option ℕ) (left : ℕ) → AreWhole cells heads → IsPassed cells heads k n before at left → at ≡ Some i → (cell_at cells i).hi < n
    → IsPassed cells heads k n at (cell_at cells i).next (left - 1)
passes cells heads k n i before at left h passed is lt =
    let rest = begins passed.ys i (sym is ∙ passed.at_is) in
    let parts : chain_of cells heads k ≡ passed.xs ++ i ∷ rest.0 = passed.parts ∙ ap (λ ys. passed.xs ++ ys) rest.1 in
    let linked = in_parts cells k passed.xs (i ∷ rest.0) None (subst (λ is. AreLinked cells k is None) parts (h.linked k)) in
    record {
      xs = passed.xs ++ i ∷ [];
      ys = rest.0;
      parts = parts ∙ moved_on passed.xs rest.0 i;
      before_is = is ∙ sym (last_append None passed.xs i);
      at_is = linked.1.0.next_is;
      below = all_joined (λ j. (cell_at cells j).hi < n) passed.xs (i ∷ []) passed.below (lt, tt);
      few = let few = passed.few in let e = ap length rest.1 in omega (few, e, arith);
    }

pub stops : (cells : List Cell) (heads : List Head) (k n i : ℕ) (before at : Option ℕ) (left : ℕ) → AreWhole cells heads → IsPassed cells heads k n before at left → at ≡ Some i → (i < length cells → n ≤ (cell_at cells i).hi)
    → IsPlace cells heads k n before
stops cells heads k n i before at left h passed is le =
    let rest = begins passed.ys i (sym is ∙ passed.at_is) in
    let parts : chain_of cells heads k ≡ passed.xs ++ i ∷ rest.0 = passed.parts ∙ ap (λ ys. passed.xs ++ ys) rest.1 in
    let linked = in_parts cells k passed.xs (i ∷ rest.0) None (subst (λ is. AreLinked cells k is None) parts (h.linked k)) in
    record {
      xs = passed.xs;
      ys = i ∷ rest.0;
      parts = parts;
      before_is = passed.before_is;
      below = passed.below;
      reaches = le linked.1.0.below;
    }
