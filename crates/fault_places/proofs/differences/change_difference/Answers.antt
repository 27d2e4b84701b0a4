use Rattle.std.proofs.Common.{◌≡◌, ◌<◌, Some, drop, length, length-drop, ap, ◌∙◌, arith}
use Rattle.world.specs.Equal.{change_eq}
use Rattle.fault_places.proofs.FirstDifference.{only_second}
use Rattle.fault_places.proofs.differences.change_difference.Goals as goal

pub returns-then-first-second : goal.returns-then-first-second
returns-then-first-second c =
    let i = c.loop-i.i in
    let at : length c.args.first.now ≡ i = omega (arith, c.loop-i-test.false, c.loop-i.auto.i-end) in
    let none : length (drop i c.args.first.now) ≡ 0 = simp length-drop (omega arith) in
    let some : 0 < length (drop i c.args.second.now) = simp length-drop (omega (arith, c.if-first-second.true)) in
    ap Some at ∙ only_second change_eq i (drop i c.args.first.now) (drop i c.args.second.now) none some ∙ c.loop-i.invariant
