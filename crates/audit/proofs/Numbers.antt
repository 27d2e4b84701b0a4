-- Ranges of numbers, and lists of changes.
use Rattle.std.proofs.Common.{◌≡◌, ◌≢◌, ℕ, zero, suc, ◌+◌, ◌-◌, ◌<◌, ◌≤◌, Bool, true, false, cond, ◌&&◌, List, [], ◌∷◌, length, Some, None, refl, ap, ◌∙◌, arith}
use Rattle.std.specs.Prelude.{find}
use Rattle.std.specs.List.{range_with_len}
use Rattle.rows.specs.declared.change.Change.{Change}
use Rattle.world.specs.Equal.{change_eq, changes_eq}

-- a search over the numbers from one to another looks at the first
pub find_next : (p : ℕ → Bool) (n b : ℕ) → n < b → find p (range_with_len n (b - n)) ≡ cond (p n) (Some n) (find p (range_with_len (n + 1) (b - (n + 1))))
find_next p n b l =
    let e : b - n ≡ suc (b - (n + 1)) = omega arith in
    ap (λ k. find p (range_with_len n k)) e

pub find_here : (p : ℕ → Bool) (n b : ℕ) → n < b → p n ≡ true → find p (range_with_len n (b - n)) ≡ Some n
find_here p n b l t = find_next p n b l ∙ ap (λ q. cond q (Some n) (find p (range_with_len (n + 1) (b - (n + 1))))) t

pub find_later : (p : ℕ → Bool) (n b : ℕ) → n < b → p n ≡ false → find p (range_with_len n (b - n)) ≡ find p (range_with_len (n + 1) (b - (n + 1)))
find_later p n b l t = find_next p n b l ∙ ap (λ q. cond q (Some n) (find p (range_with_len (n + 1) (b - (n + 1))))) t

-- a search passes over numbers that are none
pub find_past : (p : ℕ → Bool) (k n b : ℕ) → n + k ≤ b → ((m : ℕ) → n ≤ m → m < n + k → p m ≡ false)
    → find p (range_with_len n (b - n)) ≡ find p (range_with_len (n + k) (b - (n + k)))
find_past p zero n b l h = ap (λ m. find p (range_with_len m (b - m))) (omega arith)
find_past p (suc k) n b l h =
    find_later p n b (omega (arith, l)) (h n (omega arith) (omega arith))
    ∙ find_past p k (n + 1) b (omega (arith, l)) (λ m a c. h m (omega (arith, a)) (omega (arith, c)))
    ∙ ap (λ m. find p (range_with_len m (b - m))) (omega arith)

-- where the numbers of a run are none, the search goes on after it
pub find_behind : (p : ℕ → Bool) (n last b : ℕ) → n ≤ last → last < b → ((m : ℕ) → n ≤ m → m ≤ last → p m ≡ false)
    → find p (range_with_len n (b - n)) ≡ find p (range_with_len (last + 1) (b - (last + 1)))
find_behind p n last b r l h =
    find_past p (last + 1 - n) n b (omega (arith, r, l)) (λ m a c. h m a (omega (arith, r, c)))
    ∙ ap (λ m. find p (range_with_len m (b - m))) (omega (arith, r))

-- where a run reaches the end, nothing is found
pub find_nothing : (p : ℕ → Bool) (n last b : ℕ) → n ≤ b → b ≤ last + 1 → ((m : ℕ) → n ≤ m → m ≤ last → p m ≡ false)
    → find p (range_with_len n (b - n)) ≡ None
find_nothing p n last b r l h =
    let none : b - (n + (b - n)) ≡ 0 = omega (arith, r) in
    find_past p (b - n) n b (omega (arith, r)) (λ m a c. h m a (omega (arith, r, l, c)))
    ∙ ap (λ k. find p (range_with_len (n + (b - n)) k)) none

-- lists of two lengths differ
pub lengths_differ : (a b : List Change) → length a ≢ length b → changes_eq a b ≡ false
lengths_differ [] [] h = absurd (h refl)
lengths_differ [] (d ∷ ds) h = refl
lengths_differ (c ∷ cs) [] h = refl
lengths_differ (c ∷ cs) (d ∷ ds) h = by (change_eq c d) (lengths_differ cs ds (λ e. h (ap suc e)))
  where
    by : (t : Bool) → changes_eq cs ds ≡ false → (t && changes_eq cs ds) ≡ false
    by true e = e
    by false e = refl
