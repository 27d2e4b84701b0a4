-- A list before a partition point, and after it.
use Rattle.std.proofs.Common.{[], zero, take, drop, length, suc, ◌≡◌, ◌≤◌, ℕ, Bool, true, false, not, List, ◌∷◌, refl, ap, arith}
use Rattle.std.specs.List.{list_all, AllWithin}
use Rattle.std.proofs.lemmas.Bool.{and_from}

-- the prefix of a list before a partition point passes, and the back fails
pub all_take : {X : Type 0} (p : X → Bool) (xs : List X) (i : ℕ) → i ≤ length xs → AllWithin (λ y. p y ≡ true) xs 0 i → list_all p (take i xs) ≡ true
all_take p xs zero le h = refl
all_take p [] (suc i) le h = refl
all_take p (x ∷ xs) (suc i) le h = and_from (p x) (list_all p (take i xs)) (h 0 x (omega arith) (omega arith)) (all_take p xs i (omega arith) (λ k d a b. h (suc k) d (omega arith) (omega arith)))

pub all_drop : {X : Type 0} (p : X → Bool) (xs : List X) (i : ℕ) → AllWithin (λ y. p y ≡ false) xs i (length xs) → list_all (λ y. not (p y)) (drop i xs) ≡ true
all_drop p [] zero h = refl
all_drop p [] (suc i) h = refl
all_drop p (x ∷ xs) zero h = and_from (not (p x)) (list_all (λ y. not (p y)) xs) (ap not (h 0 x (omega arith) (omega arith))) (all_drop p xs zero (λ k d a b. h (suc k) d (omega arith) (omega arith)))
all_drop p (x ∷ xs) (suc i) h = all_drop p xs i (λ k d a b. h (suc k) d (omega arith) (omega arith))
