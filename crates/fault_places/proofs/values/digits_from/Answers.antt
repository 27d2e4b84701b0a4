use Rattle.std.proofs.Common.{◌*◌, ◌≤◌, ◌∙◌, sym, drop, length, length-drop, take_all, arith}
use Rattle.std.proofs.lemmas.List.{take_rest}
use Rattle.fault_places.proofs.values.digits_from.Goals as goal

pub returns-then-left-lt-SHOWN_DIGITS : goal.returns-then-left-lt-SHOWN_DIGITS
returns-then-left-lt-SHOWN_DIGITS c =
    let few : length (drop (2 * c.args.from) c.args.digits.now) ≤ 128 = simp length-drop (omega (arith, c.if-left-lt-SHOWN_DIGITS.true)) in
    take_rest c.args.digits.now (2 * c.args.from) ∙ sym (take_all 128 (drop (2 * c.args.from) c.args.digits.now) few)
