use Rattle.std.proofs.Common.{ℕ, ◌≡◌, ◌+◌, ◌-◌, ◌*◌, ◌<◌, ◌≤◌, ◌∙◌, Some, ap, subst, arith}
use Rattle.std.proofs.lemmas.Result.{IfOk-weaker}
use Rattle.binlog_rows.specs.Doubles.{distance, nearest, point_text, shortest_text}
use Rattle.binlog_rows.proofs.JsonWalks.{putting}
use Rattle.binlog_rows.proofs.DoubleWalks.{unit_some, unit_small, unit_more, found, more, none}
use Rattle.binlog_rows.proofs.doubles.put_shortest.Goals as goal

pub scaled-scaled-requires : goal.scaled-scaled-requires
scaled-scaled-requires c = (c.requires.0, unit_small c.loop-i.i c.loop-i.unit (omega arith) c.loop-i.invariant.0)

pub put_point-requires : goal.put_point-requires
put_point-requires c =
    let l = c.loop-i in
    (unit_some l.i l.unit l.invariant.0, unit_small l.i l.unit (omega arith) l.invariant.0)

pub returns-then-distance-unit : goal.returns-then-distance-unit
returns-then-distance-unit c =
    let l = c.loop-i in
    let m = c.args.number in
    let d = c.args.parts in
    let far : c.distance.result ≡ distance (m * l.unit) d = c.distance.ensures.is ∙ ap (λ n. distance n d) c.scaled-scaled.ensures.is in
    let digits : c.nearest.result ≡ nearest (m * l.unit) d = c.nearest.ensures ∙ ap (λ n. nearest n d) c.scaled-scaled.ensures.is in
    let near : 2 * c.distance.result < l.unit = omega (arith, c.if-distance-unit.true) in
    IfOk-weaker c.put_point.result _ _ (λ done e. e
    ∙ ap (λ (n : ℕ). putting c.args.most l.out.items (Some (point_text l.unit n))) digits
    ∙ ap (λ text. putting c.args.most l.out.items text)
    (found (22 - l.i) (22 - (l.i + 1)) l.unit m d (omega arith) (subst (λ n. 2 * n < l.unit) far near) ∙ l.invariant.2)
    ∙ ap (λ old. putting c.args.most old (shortest_text 22 10 m d)) l.invariant.1)
    c.put_point.ensures

pub loop-i-preserved : goal.loop-i-preserved
loop-i-preserved c =
    let l = c.loop-i in
    let m = c.args.number in
    let d = c.args.parts in
    let far : c.distance.result ≡ distance (m * l.unit) d = c.distance.ensures.is ∙ ap (λ n. distance n d) c.scaled-scaled.ensures.is in
    let away : l.unit ≤ 2 * c.distance.result = omega (arith, c.if-distance-unit.false) in (
      unit_more l.i l.unit l.invariant.0,
      l.invariant.1,
      more (22 - l.i) (22 - (l.i + 1)) l.unit m d (omega arith) (subst (λ n. l.unit ≤ 2 * n) far away) ∙ l.invariant.2,
    )

pub returns : goal.returns
returns c =
    let l = c.loop-i in
    ap (λ text. putting c.args.most c.args.out.now.items text) (none (22 - l.i) l.unit c.args.number c.args.parts (omega arith) ∙ l.invariant.2)
