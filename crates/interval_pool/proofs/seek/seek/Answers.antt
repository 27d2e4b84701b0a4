use Rattle.std.proofs.Common.{◌<◌, ◌≤◌, subst, arith, ◌-◌}
use Rattle.std.proofs.lemmas.List.{get_or_default}
use Rattle.interval_pool.specs.declared.cells.Cell.{Cell}
use Rattle.interval_pool.specs.Cells.{no_cell}
use Rattle.interval_pool.specs.Places.{IsPassed}
use Rattle.interval_pool.proofs.seek.seek.Goals as goal
use Rattle.interval_pool.proofs.seek.seek.Goals.{then-i-cells-via-then-i-cells, then-i-cells-via-else-i-cells+then-cells-i}
use Rattle.interval_pool.proofs.Seeking.{start_passed, passes, stops}

pub walk-init : goal.walk-init
walk-init c =
    let passed = start_passed c.args.cells.now c.args.heads.now c.args.list c.args.number c.start-before.result c.requires.whole c.requires.ascending c.start-before.ensures in
    rw (c.after-at.ensures, c.count-left.ensures) passed

pub returns-then-i-cells : goal.returns-then-i-cells
returns-then-i-cells c =
    stops c.args.cells.now c.args.heads.now c.args.list c.args.number c.in-Some.i c.walk.before c.walk.at c.walk.left c.requires.whole c.walk.invariant (cc)
    (λ lt. elim c.then-i-cells.branch [
      | then-i-cells-via-then-i-cells w ↦ let le = w.if-i-cells.true in absurd (omega (lt, le, arith))
      | then-i-cells-via-else-i-cells+then-cells-i w ↦
          let P : Cell → Type 0 = λ d. c.args.number ≤ d.hi in
          subst P (get_or_default c.args.cells.now c.in-Some.i w.index-cells-i.result no_cell lt) w.if-cells-i.true
    ])

pub walk-preserved : goal.walk-preserved
walk-preserved c =
    let P : Cell → Type 0 = λ d. d.hi < c.args.number in
    let below = subst P (get_or_default c.args.cells.now c.in-Some.i c.index-cells-i.result no_cell c.if-i-cells.false) c.if-cells-i.false in
    let passed = passes c.args.cells.now c.args.heads.now c.args.list c.args.number c.in-Some.i c.walk.before c.walk.at c.walk.left c.requires.whole c.walk.invariant (cc) below in
    let Q : Cell → Type 0 = λ d. IsPassed c.args.cells.now c.args.heads.now c.args.list c.args.number c.walk.at d.next (c.walk.left - 1) in
    subst Q (get_or_default c.args.cells.now c.in-Some.i no_cell c.index-cells-i-in-walk.result c.if-i-cells.false) passed
