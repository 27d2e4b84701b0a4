-- One step of the search for the digits of a double.
use Rattle.std.proofs.Common.{◌≡◌, ℕ, suc, ◌+◌, ◌*◌, ◌^◌, ◌<◌, ◌≤◌, ◌%◌, Bool, true, false, cond, nat_lt, List, Option, Some, None, sym, ap, subst, ◌∙◌, arith}
use Rattle.std.proofs.Math.Nat.{pow-le-pow_right, pow-suc}
use Rattle.std.proofs.lemmas.Nat.{one_shl}
use Rattle.std.proofs.lemmas.Bool.Decides.{nat_tests}
use Rattle.binlog_rows.specs.Doubles.{nearest, distance, point_text, shortest_text}

pub power_small : (places : ℕ) → places ≤ 100 → 1 * 2 ^ places % 2 ^ 128 ≤ 2 ^ 100
power_small places le =
    let is : 1 * 2 ^ places % 2 ^ 128 ≡ 2 ^ places = one_shl places 128 (omega arith) in
    let most : 2 ^ places ≤ 2 ^ 100 = pow-le-pow_right {n = 2} (omega arith) le in
    subst (λ n. n ≤ 2 ^ 100) (sym is) most

pub unit_some : (i unit : ℕ) → unit ≡ 10 ^ (i + 1) → 0 < unit
unit_some i unit is =
    let some : 10 ^ 0 ≤ 10 ^ (i + 1) = pow-le-pow_right {n = 10} (omega arith) {i = 0} {j = i + 1} (omega arith) in
    subst (λ n. 0 < n) (sym is) (omega (arith, some))

pub unit_small : (i unit : ℕ) → i < 22 → unit ≡ 10 ^ (i + 1) → unit ≤ 10 ^ 22
unit_small i unit lt is =
    let most : 10 ^ (i + 1) ≤ 10 ^ 22 = pow-le-pow_right {n = 10} (omega arith) {i = i + 1} {j = 22} (omega arith) in
    subst (λ n. n ≤ 10 ^ 22) (sym is) most

pub unit_more : (i unit : ℕ) → unit ≡ 10 ^ (i + 1) → unit * 10 ≡ 10 ^ (i + 1 + 1)
unit_more i unit is =
    let next : suc (i + 1) ≡ i + 1 + 1 = omega arith in
    ap (λ n. n * 10) is ∙ sym (pow-suc 10 (i + 1)) ∙ ap (λ (n : ℕ). 10 ^ n) next

-- the search with so many steps left
abbrev tried : Bool → ℕ → ℕ → ℕ → ℕ → Option (List ℕ)
tried near left unit m d = cond near (Some (point_text unit (nearest (m * unit) d))) (shortest_text left (unit * 10) m d)

steps : (n left unit m d : ℕ) (near : Bool) → suc left ≡ n → near ≡ nat_lt (2 * distance (m * unit) d) unit
    → tried near left unit m d ≡ shortest_text n unit m d
unfolding shortest_text
steps n left unit m d near is e = ap (λ (b : Bool). tried b left unit m d) e ∙ ap (λ (count : ℕ). shortest_text count unit m d) is

pub found : (n left unit m d : ℕ) → suc left ≡ n → 2 * distance (m * unit) d < unit
    → Some (point_text unit (nearest (m * unit) d)) ≡ shortest_text n unit m d
found n left unit m d is lt =
    let near : true ≡ nat_lt (2 * distance (m * unit) d) unit = grind (arith, nat_tests) in
    steps n left unit m d true is near

pub more : (n left unit m d : ℕ) → suc left ≡ n → unit ≤ 2 * distance (m * unit) d
    → shortest_text left (unit * 10) m d ≡ shortest_text n unit m d
more n left unit m d is le =
    let far : false ≡ nat_lt (2 * distance (m * unit) d) unit = grind (arith, nat_tests) in
    steps n left unit m d false is far

pub none : (n unit m d : ℕ) → 0 ≡ n → None ≡ shortest_text n unit m d
unfolding shortest_text
none n unit m d is = ap (λ (count : ℕ). shortest_text count unit m d) is
