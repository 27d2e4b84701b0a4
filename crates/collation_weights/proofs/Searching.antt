-- The row of a character by the number of rows that begin at it or before it.
use Rattle.std.proofs.Common.{◌≡◌, ap, ◌∙◌, ℕ, ◌-◌, ◌<◌, ◌≤◌, Bool, true, false, not, List, length, get_or, arith, Some, None}
use Rattle.std.specs.Prelude.{reverse, slice_get}
use Rattle.std.specs.List.{find}
use Rattle.std.specs.List.Sorted.{IsPartitionPoint}
use Rattle.std.proofs.lemmas.List.{get_or-reverse, length-reverse}
use Rattle.std.proofs.lemmas.List.Folds.{find_at}
use Rattle.std.proofs.lemmas.List.Sums.{suffix_len_is}
use Rattle.std.proofs.lemmas.Option.{slice_get-get_or, slice_get_past}

-- the last element that passes, by where those that pass end
last_passing : {X : Type 0} (p : X → Bool) (xs : List X) (i : ℕ) (d : X)
    → i ≤ length xs → IsPartitionPoint (λ x. p x ≡ true) (λ x. p x ≡ false) xs i
    → find p (reverse xs) ≡ slice_get (reverse xs) (length xs - i)
last_passing p xs i d le parts =
    find_at p (reverse xs)
    ∙ ap (slice_get (reverse xs)) (suffix_len_is (λ x. not (p x)) xs i d le (λ k low high. ap not (parts.1 k d low high)) (λ pos. ap not (parts.0 (i - 1) d (omega arith) (omega arith))))

pub none_passes : {X : Type 0} (p : X → Bool) (xs : List X) (d : X)
    → IsPartitionPoint (λ x. p x ≡ true) (λ x. p x ≡ false) xs 0 → find p (reverse xs) ≡ None
none_passes p xs d parts =
    last_passing p xs 0 d (omega arith) parts ∙ slice_get_past (reverse xs) (length xs - 0) (omega (arith, length-reverse xs))

pub one_passes : {X : Type 0} (p : X → Bool) (xs : List X) (i : ℕ) (d : X)
    → i ≤ length xs → 0 < i → IsPartitionPoint (λ x. p x ≡ true) (λ x. p x ≡ false) xs i
    → find p (reverse xs) ≡ Some (get_or xs (i - 1) d)
one_passes p xs i d le pos parts =
    last_passing p xs i d le parts
    ∙ slice_get-get_or (reverse xs) (length xs - i) d (omega (arith, length-reverse xs))
    ∙ ap Some (get_or-reverse xs (length xs - i) d (omega arith) ∙ ap (λ k. get_or xs k d) (omega arith))
