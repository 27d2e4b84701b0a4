-- What the seats own, seat by seat.
use Rattle.std.proofs.Common.{◌≡◌, ℕ, ◌+◌, ◌-◌, ◌<◌, suc, List, [], ◌∷◌, ◌++◌, refl, sym, ap, ◌∙◌, arith, append_assoc}
use Rattle.std.specs.Prelude.{Option, Some, None, option_map}
use Rattle.std.specs.List.{range_with_len, filter_map, cons_option}
use Rattle.gtid_text.specs.declared.Gtid.{Gtid}
use Rattle.replica_core.specs.State.{State, owned_by, owned, with_gtid, seat_numbers}

unfoldable pub owned_from : State → ℕ → ℕ → List (ℕ × Gtid)
owned_from s seat n = filter_map (with_gtid s) (range_with_len seat n)

pub owned_first : (s : State) → owned s ≡ owned_from s 1 64
unfolding owned_from seat_numbers
owned_first s = refl

pub owned_last : (s : State) (seat : ℕ) → owned_from s seat 0 ≡ []
unfolding owned_from
owned_last s seat = refl

pub owned_taken : (s : State) (seat n m : ℕ) (g : Gtid) → suc n ≡ m → owned_by s seat ≡ Some g → owned_from s seat m ≡ (seat, g) ∷ owned_from s (seat + 1) n
unfolding owned_from
owned_taken s seat n m g e at =
    ap (λ k. filter_map (with_gtid s) (range_with_len seat k)) (sym e)
    ∙ ap (λ (o : Option Gtid). cons_option (option_map (λ (h : Gtid). let p : ℕ × Gtid = (seat, h) in p) o) (filter_map (with_gtid s) (range_with_len (seat + 1) n))) at

pub owned_idle : (s : State) (seat n m : ℕ) → suc n ≡ m → owned_by s seat ≡ None → owned_from s seat m ≡ owned_from s (seat + 1) n
unfolding owned_from
owned_idle s seat n m e at =
    ap (λ k. filter_map (with_gtid s) (range_with_len seat k)) (sym e)
    ∙ ap (λ (o : Option Gtid). cons_option (option_map (λ (h : Gtid). let p : ℕ × Gtid = (seat, h) in p) o) (filter_map (with_gtid s) (range_with_len (seat + 1) n))) at

-- the seats so far, and those that are left
pub owned_step : (s : State) (n : ℕ) (so_far more : List (ℕ × Gtid)) (g : Gtid) → n < 65 → owned_by s n ≡ Some g → more ≡ so_far ++ (n, g) ∷ [] → owned s ≡ so_far ++ owned_from s n (65 - n) → owned s ≡ more ++ owned_from s (n + 1) (65 - (n + 1))
owned_step s n so_far more g h at is all =
    let left : suc (64 - n) ≡ 65 - n = omega arith in
    let count : 64 - n ≡ 65 - (n + 1) = omega arith in
    all ∙ ap (λ (xs : List (ℕ × Gtid)). so_far ++ xs) (owned_taken s n (64 - n) (65 - n) g left at)
    ∙ sym (append_assoc so_far ((n, g) ∷ []) (owned_from s (n + 1) (64 - n)))
    ∙ ap (λ (xs : List (ℕ × Gtid)). xs ++ owned_from s (n + 1) (64 - n)) (sym is)
    ∙ ap (λ k. more ++ owned_from s (n + 1) k) count

pub owned_pass : (s : State) (n : ℕ) (so_far : List (ℕ × Gtid)) → n < 65 → owned_by s n ≡ None → owned s ≡ so_far ++ owned_from s n (65 - n) → owned s ≡ so_far ++ owned_from s (n + 1) (65 - (n + 1))
owned_pass s n so_far h at all =
    let left : suc (64 - n) ≡ 65 - n = omega arith in
    let count : 64 - n ≡ 65 - (n + 1) = omega arith in
    all ∙ ap (λ (xs : List (ℕ × Gtid)). so_far ++ xs) (owned_idle s n (64 - n) (65 - n) left at)
    ∙ ap (λ k. so_far ++ owned_from s (n + 1) k) count
