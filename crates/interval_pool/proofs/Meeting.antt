-- An interval joined with those that it meets.
use Rattle.std.proofs.Common.{◌≡◌, ℕ, zero, suc, ◌+◌, ◌-◌, ◌<◌, ◌≤◌, ◌⊎◌, Bool, true, false, ◌&&◌, ◌||◌, nat_le, List, [], ◌∷◌, ◌++◌, length, map, Option, Some, refl, sym, ap, subst, ◌∙◌, ⊎_elim, inl, inr, arith}
use Rattle.std.specs.Prelude.{min, max, if◌then◌else◌}
use Rattle.std.specs.List.{AllByRecursion}
use Rattle.std.proofs.lemmas.Bool.Decides.{nat_tests}
use Rattle.interval_pool.specs.declared.cells.Cell.{Cell}
use Rattle.interval_pool.specs.declared.interval.Interval.{Interval}
use Rattle.interval_pool.specs.declared.interval.Joined.{Joined}
use Rattle.interval_pool.specs.Cells.{cell_at}
use Rattle.interval_pool.specs.Intervals.{IsBefore, AreMerged, covers, has, hull, meet}
use Rattle.interval_pool.specs.Pools.{walk, interval_at}
use Rattle.interval_pool.proofs.Facts.{or_false, or_three, all_weaker, all_parts}

-- the next cell of a walk is met too
pub meets_next : (cells : List Cell) (limit : ℕ) (s h : Interval) (k left i : ℕ) (at : Option ℕ) (c : Cell) → at ≡ Some i → 0 < left → c ≡ cell_at cells i → c.lo ≤ limit → h ≡ hull s (record { lo = c.lo; hi = c.hi })
    → meet limit h (k + 1) (map (interval_at cells) (walk cells (left - 1) c.next)) ≡ meet limit s k (map (interval_at cells) (walk cells left at))
meets_next cells limit s h k zero i at c is lt here le hulled = absurd (omega (lt, arith))
meets_next cells limit s h k (suc n) i at c is lt here le hulled =
    let P : Option ℕ → Type 0 = λ o. meet limit h (k + 1) (map (interval_at cells) (walk cells (suc n - 1) c.next)) ≡ meet limit s k (map (interval_at cells) (walk cells (suc n) o)) in
    let less : suc n - 1 ≡ n = omega arith in
    subst P (sym is) (
    ap (λ m. meet limit h (k + 1) (map (interval_at cells) (walk cells m c.next))) less ∙ (
    let rest = map (interval_at cells) (walk cells n (cell_at cells i).next) in
    let there : (cell_at cells i).lo ≤ limit = subst (λ (d : Cell). d.lo ≤ limit) here le in
    let test : nat_le (cell_at cells i).lo limit ≡ true = grind (arith, nat_tests) in
    ap (λ j. meet limit j (k + 1) (map (interval_at cells) (walk cells n c.next))) hulled
    ∙ (ap (λ (d : Cell). meet limit (hull s (record { lo = d.lo; hi = d.hi })) (k + 1) (map (interval_at cells) (walk cells n d.next))) here
    ∙ ap (λ b. if b then meet limit (hull s (interval_at cells i)) (k + 1) rest else record { numbers = s; count = k }) (sym test))))

-- ---- those that it meets, and those beyond

pub record Meets (limit : ℕ) (s : Interval) (k : ℕ) (spans : List Interval) (j : Joined) : Type 0 where
  pub front : List Interval
  pub rest : List Interval
  pub parts : spans ≡ front ++ rest
  pub count : j.count ≡ k + length front
  pub lo : j.numbers.lo ≤ s.lo
  pub hi : s.hi ≤ j.numbers.hi
  pub lower : (u : Interval) → AllByRecursion (IsBefore u) front → (j.numbers.lo ≡ s.lo) ⊎ IsBefore u j.numbers
  pub beyond : AllByRecursion (λ t. limit < t.lo) rest
  pub later : (j.numbers.hi ≡ s.hi) ⊎ AllByRecursion (IsBefore j.numbers) rest
  pub merged : AreMerged rest
  pub has : (n : ℕ) → covers j.numbers n ≡ (covers s n || has front n)

-- two intervals that touch
pub hull_covers : (a b c d n : ℕ) → a ≤ b → c ≤ d → a ≤ d + 1 → c ≤ b + 1 → (nat_le (min a c) n && nat_le n (max b d)) ≡ ((nat_le a n && nat_le n b) || (nat_le c n && nat_le n d))
hull_covers a b c d n le le' touch touch' = grind (arith, nat_tests)

least : (a b : ℕ) → (min a b ≡ a) ⊎ ((min a b ≡ b) × (b < a))
least a b = grind arith

greatest : (a b : ℕ) → (max a b ≡ a) ⊎ ((max a b ≡ b) × (a < b))
greatest a b = grind arith

pub meets : (limit : ℕ) (s : Interval) (k : ℕ) (spans : List Interval) → s.lo ≤ s.hi → limit ≤ s.hi + 1 → AreMerged spans → AllByRecursion (λ t. s.lo ≤ t.hi + 1) spans → Meets limit s k spans (meet limit s k spans)
meets limit s k [] filled near merged touch = record {
  front = [];
  rest = [];
  parts = refl;
  count = omega arith;
  lo = omega arith;
  hi = omega arith;
  lower = λ u all. inl refl;
  beyond = tt;
  later = inl refl;
  merged = tt;
  has = λ n. or_false (covers s n);
}
meets limit s k (t ∷ ts) filled near merged touch = chosen (nat_le t.lo limit) refl
    (meets limit (hull s t) (k + 1) ts (let le = merged.0 in omega (filled, le, arith)) (omega (near, arith)) merged.2
    (all_weaker (λ u. s.lo ≤ u.hi + 1) (λ u. (hull s t).lo ≤ u.hi + 1) ts (λ u le. omega (le, arith)) touch.1))
  where
    chosen : (b : Bool) → nat_le t.lo limit ≡ b → Meets limit (hull s t) (k + 1) ts (meet limit (hull s t) (k + 1) ts)
        → Meets limit s k (t ∷ ts) (if b then meet limit (hull s t) (k + 1) ts else record { numbers = s; count = k })
    chosen true e m =
        let begins : t.lo ≤ limit = grind (arith, nat_tests) in
        let first = touch.0 in
        let le = merged.0 in
        let j : Joined = meet limit (hull s t) (k + 1) ts in
        let before : AllByRecursion (IsBefore t) m.rest = (all_parts (IsBefore t) m.front m.rest (subst (AllByRecursion (IsBefore t)) m.parts merged.1)).1 in
        let small = m.lo in
        let great = m.hi in
        record {
          front = t ∷ m.front;
          rest = m.rest;
          parts = ap (λ us. t ∷ us) m.parts;
          count = let c = m.count in omega (c, arith);
          lo = omega (small, arith);
          hi = omega (great, arith);
          lower = λ u all. ⊎_elim
              (λ (same : j.numbers.lo ≡ min s.lo t.lo). let b : u.hi + 1 < t.lo = all.0 in ⊎_elim (λ l. inl (same ∙ l)) (λ (l : (min s.lo t.lo ≡ t.lo) × (t.lo < s.lo)). let l0 = l.0 in inr (omega (same, l0, b, arith))) (least s.lo t.lo))
              inr (m.lower u all.1);
          beyond = m.beyond;
          later = ⊎_elim
              (λ (same : j.numbers.hi ≡ max s.hi t.hi). ⊎_elim (λ g. inl (same ∙ g))
              (λ (g : (max s.hi t.hi ≡ t.hi) × (s.hi < t.hi)). let g0 = g.0 in inr (all_weaker (IsBefore t) (IsBefore j.numbers) m.rest (λ u b. omega (same, g0, b, arith)) before))
              (greatest s.hi t.hi))
              inr m.later;
          merged = m.merged;
          has = λ n. m.has n ∙ (ap (λ a. a || has m.front n) (hull_covers s.lo s.hi t.lo t.hi n filled le first (omega (begins, near, arith))) ∙ or_three (covers s n) (covers t n) (has m.front n));
        }
    chosen false e m =
        let far : limit < t.lo = grind (arith, nat_tests) in
        let le = merged.0 in
        record {
          front = [];
          rest = t ∷ ts;
          parts = refl;
          count = omega arith;
          lo = omega arith;
          hi = omega arith;
          lower = λ u all. inl refl;
          beyond = (far, all_weaker (IsBefore t) (λ u. limit < u.lo) ts (λ u before. omega (before, far, le, arith)) merged.1);
          later = inl refl;
          merged = merged;
          has = λ n. or_false (covers s n);
        }
