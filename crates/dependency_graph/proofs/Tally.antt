-- How many numbers of a block pass.
use Rattle.std.proofs.Common.{◌≡◌, ℕ, zero, suc, ◌+◌, ◌-◌, ◌*◌, ◌/◌, ◌%◌, ◌<◌, ◌≤◌, Bool, true, false, true≢false, cond, refl, sym, ap, ◌∙◌, arith}
use Rattle.std.proofs.Math.Dec.{ltb}
use Rattle.std.proofs.Math.Nat.{div-mul-le_self, lt-div-mul-add, mul-le-mul_right, mod-eq-sub-div-mul}
use Rattle.std.proofs.lemmas.Bool.{ltb-true, ltb-false}
use Rattle.dependency_graph.specs.Ready.{tally, Turns}

pub tally_same : (p q : ℕ → Bool) (a k : ℕ) → ((m : ℕ) → a ≤ m → m < a + k → p m ≡ q m) → tally p a k ≡ tally q a k
tally_same p q a zero h = refl
tally_same p q a (suc k) h =
    ap (λ b. cond b 1 0 + tally p (suc a) k) (h a (omega arith) (omega arith))
    ∙ ap (λ n. cond (q a) 1 0 + n) (tally_same p q (suc a) k (λ m lo hi. h m (omega (lo, arith)) (omega (hi, arith))))

bit_small : (b : Bool) → cond b 1 0 ≤ 1
bit_small true = omega arith
bit_small false = omega arith

pub tally_small : (p : ℕ → Bool) (a k : ℕ) → tally p a k ≤ k
tally_small p a zero = omega arith
tally_small p a (suc k) =
    let one = bit_small (p a) in
    let more = tally_small p (suc a) k in
    omega (one, more, arith)

pub tally_nothing : (p : ℕ → Bool) (a k : ℕ) → ((m : ℕ) → a ≤ m → m < a + k → p m ≡ false) → tally p a k ≡ 0
tally_nothing p a zero h = refl
tally_nothing p a (suc k) h =
    ap (λ b. cond b 1 0 + tally p (suc a) k) (h a (omega arith) (omega arith))
    ∙ (let rest = tally_nothing p (suc a) k (λ m lo hi. h m (omega (lo, arith)) (omega (hi, arith))) in omega (rest, arith))

-- the numbers before one, that one, and those after it
pub tally_at : (p : ℕ → Bool) (a j k n : ℕ) → n ≡ j + suc k → tally p a n ≡ tally p a j + (cond (p (a + j)) 1 0 + tally p (suc (a + j)) k)
tally_at p a zero k n e =
    let whole : tally p a n ≡ cond (p a) 1 0 + tally p (suc a) k = ap (tally p a) (next e) in
    let tail : cond (p a) 1 0 + tally p (suc a) k ≡ cond (p (a + 0)) 1 0 + tally p (suc (a + 0)) k = ap (λ x. cond (p x) 1 0 + tally p (suc x) k) here in
    omega (whole, tail, arith)
  where
    next : n ≡ 0 + suc k → n ≡ suc k
    next h = omega (h, arith)

    here : a ≡ a + 0
    here = omega arith
tally_at p a (suc j) k n e =
    let step : tally p a n ≡ cond (p a) 1 0 + tally p (suc a) (j + suc k) = ap (tally p a) (next e) in
    let rest = tally_at p (suc a) j k (j + suc k) refl in
    let tail : cond (p (suc a + j)) 1 0 + tally p (suc (suc a + j)) k ≡ cond (p (a + suc j)) 1 0 + tally p (suc (a + suc j)) k = ap (λ x. cond (p x) 1 0 + tally p (suc x) k) here in
    omega (step, rest, tail, arith)
  where
    next : n ≡ suc j + suc k → n ≡ suc (j + suc k)
    next h = omega (h, arith)

    here : suc a + j ≡ a + suc j
    here = omega arith

bit_off : (b : Bool) → b ≡ false → cond b 1 0 ≤ 0
bit_off true e = absurd (true≢false e)
bit_off false e = omega arith

bit_on : (b : Bool) → b ≡ true → (1 ≤ cond b 1 0) × (cond b 1 0 ≤ 1)
bit_on true e = (omega arith, omega arith)
bit_on false e = absurd (true≢false (sym e))

bit_none : (b : Bool) (x y : ℕ) → x + (cond b 1 0 + y) ≡ 0 → b ≡ false
bit_none true x y h = absurd (omega (h, arith))
bit_none false x y h = refl

-- where none passes
pub tally_none : (p : ℕ → Bool) (a k m : ℕ) → tally p a k ≡ 0 → a ≤ m → m < a + k → p m ≡ false
tally_none p a k m none lo hi =
    let parts = tally_at p a (m - a) (a + k - m - 1) k (omega (lo, hi, arith)) in
    let same : a + (m - a) ≡ m = omega (lo, arith) in
    ap p (sym same) ∙ bit_none (p (a + (m - a))) (tally p a (m - a)) (tally p (suc (a + (m - a))) (a + k - m - 1)) (sym parts ∙ none)

-- one number more that passes
pub tally_more : (p q : ℕ → Bool) (a k n : ℕ) → Turns p q n true → a ≤ n → n < a + k → tally q a k ≡ tally p a k + 1
tally_more p q a k n t lo hi =
    let j = n - a in
    let rest = a + k - n - 1 in
    let old = tally_at p a j rest k (omega (lo, hi, arith)) in
    let new = tally_at q a j rest k (omega (lo, hi, arith)) in
    let here : a + j ≡ n = omega (lo, arith) in
    let front : tally q a j ≡ tally p a j = tally_same q p a j (λ m b c. t.others m (λ e. absurd (omega (c, e, here, arith)))) in
    let back : tally q (suc (a + j)) rest ≡ tally p (suc (a + j)) rest = tally_same q p (suc (a + j)) rest (λ m b c. t.others m (λ e. absurd (omega (b, e, here, arith)))) in
    let was = bit_off (p (a + j)) (ap p here ∙ t.before) in
    let is = bit_on (q (a + j)) (ap q here ∙ t.after) in
    let low = is.0 in
    let high = is.1 in
    omega (old, new, front, back, was, low, high, arith)

-- a number is in its block
pub in_block : (w n : ℕ) → 0 < w → (n / w * w ≤ n) × (n < n / w * w + w)
in_block w n pos = (div-mul-le_self n w, lt-div-mul-add pos)

next_block : (a b w : ℕ) → a < b → a * w + w ≤ b * w
next_block a b w lt =
    let le : (a + 1) * w ≤ b * w = mul-le-mul_right w (omega (lt, arith)) in
    omega (le, arith)

by_side : (side : Bool) (a b w n : ℕ) → ltb a b ≡ side → (a ≡ b → ⊥) → a * w ≤ n → n < a * w + w → b * w ≤ n → n < b * w + w → ⊥
by_side true a b w n e ne alo ahi blo bhi = let far = next_block a b w (ltb-true a b e) in absurd (omega (far, ahi, blo, arith))
by_side false a b w n e ne alo ahi blo bhi =
    let le = ltb-false a b e in
    let far = next_block b a w (grind arith) in
    absurd (omega (far, bhi, alo, arith))

-- and in no other
pub other_block : (w b n m : ℕ) → 0 < w → (b ≡ n / w → ⊥) → b * w ≤ m → m < b * w + w → m ≡ n → ⊥
other_block w b n m pos ne lo hi e =
    let here = in_block w n pos in
    by_side (ltb b (n / w)) b (n / w) w n refl ne (omega (lo, e, arith)) (omega (hi, e, arith)) here.0 here.1

by_below : (side : Bool) (first w n : ℕ) → 0 < w → ltb (n / w) first ≡ side → first * w ≤ n → first ≤ n / w
by_below true first w n pos e lo =
    let far = next_block (n / w) first w (ltb-true (n / w) first e) in
    let here = in_block w n pos in
    let hi = here.1 in
    absurd (omega (far, hi, lo, arith))
by_below false first w n pos e lo = ltb-false (n / w) first e

-- a block that starts by a number is not after the number's
pub from_block : (first w n : ℕ) → 0 < w → first * w ≤ n → first ≤ n / w
from_block first w n pos lo = by_below (ltb (n / w) first) first w n pos refl lo

by_above : (side : Bool) (end w n : ℕ) → 0 < w → ltb (n / w) end ≡ side → n < end * w → n / w < end
by_above true end w n pos e hi = ltb-true (n / w) end e
by_above false end w n pos e hi =
    let le : end * w ≤ n / w * w = mul-le-mul_right w (ltb-false (n / w) end e) in
    let here = in_block w n pos in
    let lo = here.0 in
    absurd (omega (le, lo, hi, arith))

-- a number before a block is in an earlier one
pub below_block : (end w n : ℕ) → 0 < w → n < end * w → n / w < end
below_block end w n pos hi = by_above (ltb (n / w) end) end w n pos refl hi

-- the numbers to the end of a block
pub to_block_end : (w n k : ℕ) → 0 < w → k ≡ w - n % w → n + k ≡ n / w * w + w
to_block_end w n k pos e =
    let here = in_block w n pos in
    let lo = here.0 in
    let hi = here.1 in
    let left = mod-eq-sub-div-mul n w in
    omega (e, left, lo, hi, arith)
