use Rattle.std.proofs.Common.{◌≡◌, ◌<◌, Some, drop, length, length-drop, ap, ◌∙◌, arith}
use Rattle.std.specs.Str.{bytes_eq}
use Rattle.fault_places.proofs.FirstDifference.{only_first, only_second, pointed, length-pointed}
use Rattle.fault_places.proofs.differences.word_difference.Goals as goal

pub returns-then-i-second : goal.returns-then-i-second
returns-then-i-second c =
    let i = c.loop-i.i in
    let some : 0 < length (pointed (drop i c.args.first.now)) = simp (length-pointed, length-drop) (omega (arith, c.loop-i-test.true)) in
    let none : length (pointed (drop i c.args.second.now)) ≡ 0 = simp (length-pointed, length-drop) (omega (arith, c.if-i-second.true)) in
    only_first bytes_eq i (pointed (drop i c.args.first.now)) (pointed (drop i c.args.second.now)) some none ∙ c.loop-i.invariant

pub returns-then-first-second : goal.returns-then-first-second
returns-then-first-second c =
    let i = c.loop-i.i in
    let at : length c.args.first.now ≡ i = omega (arith, c.loop-i-test.false, c.loop-i.auto.i-end) in
    let none : length (pointed (drop i c.args.first.now)) ≡ 0 = simp (length-pointed, length-drop) (omega arith) in
    let some : 0 < length (pointed (drop i c.args.second.now)) = simp (length-pointed, length-drop) (omega (arith, c.if-first-second.true)) in
    ap Some at ∙ only_second bytes_eq i (pointed (drop i c.args.first.now)) (pointed (drop i c.args.second.now)) none some ∙ c.loop-i.invariant
