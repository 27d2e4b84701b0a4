use Rattle.std.proofs.Common.{true, false, refl, sym, ◌∙◌}
use Rattle.row_images.specs.Values.{pairs_of}
use Rattle.row_images.proofs.LowerDigits.{pairs_told}
use Rattle.row_images.proofs.value_words.digits_into.Goals as goal

pub returns-then-not-are_lower_digits : goal.returns-then-not-are_lower_digits
returns-then-not-are_lower_digits c =
    pairs_told c.args.digits.now (pairs_of c.args.digits.now) false c.if-digits-eq1.false (sym c.if-not-are_lower_digits.true ∙ c.are_lower_digits.ensures) refl

pub returns : goal.returns
returns c =
    pairs_told c.args.digits.now c.pairs_into.new.room true c.if-digits-eq1.false (sym c.if-not-are_lower_digits.false ∙ c.are_lower_digits.ensures) c.pairs_into.ensures
