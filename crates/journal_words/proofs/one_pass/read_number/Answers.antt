use Rattle.std.proofs.Common.{rules, ◌≡◌, ◌+◌, ◌*◌, ◌≤◌, ◌∷◌, sym, subst}
use Rattle.journal_words.specs.WordPrefix.{IsNumberAt}
use Rattle.journal_words.proofs.OnePassLemmas.{first_digit, next_digit}
use Rattle.journal_words.proofs.one_pass.read_number.Goals as goal

pub loop-digit-init : goal.loop-digit-init
loop-digit-init c =
    let front : c.args.text.now ≡ c.in-Some.first.now ∷ c.in-Some.more.now = search rules in
    subst (λ n. IsNumberAt c.args.text.now n c.in-Some.more.now) (sym c.from-number.ensures)
    (first_digit c.in-Some.first.now c.args.text.now c.in-Some.more.now c.if-first-lt49.false c.if-first-gt57.false front)

pub loop-digit-preserved : goal.loop-digit-preserved
loop-digit-preserved c =
    let d = c.in-Some-split_first.digit.now in
    let low : 48 ≤ d = search rules in
    let high : d ≤ 57 = search rules in
    let front : c.loop-digit.rest.now ≡ d ∷ c.in-Some-split_first.after.now = search rules in
    subst (λ n. IsNumberAt c.args.text.now (c.loop-digit.number * 10 + n) c.in-Some-split_first.after.now) (sym c.from.ensures)
    (next_digit c.loop-digit.number d c.args.text.now c.loop-digit.rest.now c.in-Some-split_first.after.now c.loop-digit.invariant c.if-number-gt-MOST_BEFORE_DIGIT.false low high front)
