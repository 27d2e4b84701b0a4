-- Tests of numbers.
use Rattle.std.proofs.Common.{arith, eqb, false, inl, inr, nat_le, nat_lt, refl, sym, true, ℕ, ◌+◌, ◌<◌, ◌≡◌, ◌≢◌, ◌≤◌, ◌⊎◌}
use Rattle.lemmas.proofs.Tests.{not_both}
use Rattle.std.proofs.lemmas.Bool.{cases_Bool, eq-eqb, eqb-true, ltb-false, true_from_ne_false}
use Rattle.std.proofs.lemmas.Bool.Decides.{nat_tests}
use Rattle.std.specs.Ordering.{is_eq}
use Rattle.std.specs.Prelude.{◌==◌}
use Rattle.std.specs.declared.cmp.Ordering.{Ordering}
use Rattle.std.specs.declared.cmp.Ordering.TheVariants.{Equal, Greater, Less}

pub lt_cases : (a b : ℕ) → a < b + 1 → (a < b) ⊎ (a ≡ b)
lt_cases a b l = grind arith

pub not_less : (n : ℕ) → nat_lt n n ≡ false
not_less n = grind (arith, nat_tests)

pub below_test : (a b : ℕ) → a < b → nat_lt a b ≡ true
below_test a b h = true_from_ne_false (nat_lt a b) (λ e. let l = ltb-false a b e in omega arith)

pub lt_of_test : (a b : ℕ) → nat_lt a b ≡ true → a < b
lt_of_test a b e = grind arith

pub ge_of_test : (a b : ℕ) → nat_lt a b ≡ false → b ≤ a
ge_of_test a b e = grind arith

pub lt_false : (a b : ℕ) → b ≤ a → nat_lt a b ≡ false
lt_false a b h = grind (arith, nat_tests)

pub le_of_test : (a b : ℕ) → nat_le a b ≡ true → a ≤ b
le_of_test a b e = grind arith

pub le_false : (a n : ℕ) → n < a → nat_le a n ≡ false
le_false a n lt = grind (arith, nat_tests)

pub eqb_swap : (a b : ℕ) → eqb a b ≡ false → eqb b a ≡ false
eqb_swap a b e = elim (cases_Bool (eqb b a)) [
  | inl same ↦ not_both (eqb a b) (eq-eqb a b (sym (eqb-true b a same))) e
  | inr other ↦ other
]

pub eqb_other : (i j : ℕ) → i ≢ j → eqb i j ≡ false
eqb_other i j n = elim (cases_Bool (eqb i j)) [ inl same ↦ absurd (n (eqb-true i j same)) | inr other ↦ other ]

pub eqb_below : (q n : ℕ) → q < n → (q == n) ≡ false
eqb_below q n h = grind (arith, nat_tests)

pub same_number : (a : ℕ) → (a == a) ≡ true
same_number a = grind (arith, nat_tests)

pub equal_numbers : (a b : ℕ) → (a == b) ≡ true → a ≡ b
equal_numbers a b e = grind (arith, nat_tests)

pub lt_eq_gt : (a b : ℕ) → (a < b) ⊎ ((a ≡ b) ⊎ (b < a))
lt_eq_gt a b = grind arith

pub self_le : (a : ℕ) → a ≤ a
self_le a = omega arith

pub less_le : (a b : ℕ) → a < b → a ≤ b
less_le a b l = omega arith

pub lt_unless : (a b : ℕ) → (a ≡ b → ⊥) → (b < a → ⊥) → a < b
lt_unless a b same more = elim (lt_eq_gt a b) [
  | inl l ↦ l
  | inr m ↦ elim m [ inl e ↦ absurd (same e) | inr l ↦ absurd (more l) ]
]

pub equal_of : (r : Ordering) → is_eq r ≡ true → r ≡ Equal
equal_of Less e = cc
equal_of Equal e = refl
equal_of Greater e = cc
