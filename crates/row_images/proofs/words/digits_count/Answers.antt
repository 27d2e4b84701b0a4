use Rattle.std.proofs.Common.{ℕ, ◌+◌, ◌-◌, slice_index_or, ◌*◌, ◌^◌, ◌<◌, ◌≤◌, suc, arith}
use Rattle.std.proofs.Math.Nat.{pow-le-pow_right}
use Rattle.std.proofs.lemmas.Bool.{OnTrue_at}
use Rattle.std.proofs.lemmas.Str.Parse.{digit_from_value}
use Rattle.row_images.proofs.words.digits_count.Goals as goal

-- a number of fewer than 19 digits takes one more
one_more : (i value digit : ℕ) → i < 19 → value < 10 ^ i → digit < 10 → 10 * value + digit < 2 ^ 64
one_more i value digit few small d =
    let most : 10 ^ suc i ≤ 10 ^ 19 = pow-le-pow_right {n = 10} (omega arith) few in
    omega arith

pub overflow_mul-value : goal.overflow_mul-value
overflow_mul-value c =
    let below : c.loop-digit.value < 10 ^ c.loop-digit.digit-index = c.loop-digit.invariant.2 in
    let more = one_more c.loop-digit.digit-index c.loop-digit.value 0 (omega arith) below (omega arith) in
    omega arith

pub overflow_add-value : goal.overflow_add-value
overflow_add-value c =
    let below : c.loop-digit.value < 10 ^ c.loop-digit.digit-index = c.loop-digit.invariant.2 in
    let byte = slice_index_or c.args.word.now c.loop-digit.digit-index 0 in
    let range = digit_from_value byte (OnTrue_at c.if-not-is_ascii_digit.false c.is_ascii_digit.ensures.bound) in
    let more = one_more c.loop-digit.digit-index c.loop-digit.value (byte - 48) (omega arith) below (omega arith) in
    omega arith
