use Rattle.std.proofs.Common.{rules, List, length, ap, sym, subst, arith, ◌≡◌, ◌∙◌}
use Rattle.interval_pool.specs.declared.cells.Cell.{Cell}
use Rattle.interval_pool.specs.declared.cells.Head.{Head}
use Rattle.interval_pool.specs.Cells.{with_end}
use Rattle.interval_pool.specs.Intervals.{IsApart}
use Rattle.interval_pool.specs.Places.{IsBehind, TouchesEnd}
use Rattle.interval_pool.specs.Changes.{spans_of, Added}
use Rattle.interval_pool.proofs.add.add.Goals as goal
use Rattle.interval_pool.proofs.Valued.{seamed}
use Rattle.interval_pool.proofs.Growing.{apart_behind, behind_all, grown_end, length_end}

pub returns-then-touches_end-clause-ok : goal.returns-then-touches_end-clause-ok
returns-then-touches_end-clause-ok c =
    let cells : List Cell = c.args.cells.now.items in
    let heads : List Head = c.args.heads.now in
    let end = c.last_known-end.result in
    let s = c.args.numbers in
    let P : List Cell → Type 0 = λ cs. TouchesEnd cs heads c.args.list s end in
    let touches = subst P c.deref-2.ensures.value (c.touches_end.ensures c.if-touches_end.true heads) in
    let same : c.grow_end.new.cells ≡ with_end cells end s.hi = c.grow_end.ensures ∙ ap (λ cs. with_end cs end s.hi) c.deref_mut.ensures.value in
    let size : length c.grow_end.new.cells ≡ c.args.cells.now.len = (let a = ap length same in let b = length_end cells end s.hi in let d = ap length c.deref_mut.ensures.value in let e = c.deref_mut.ensures.len in omega (a, b, d, e, arith)) in
    let Q : List Cell → Type 0 = λ cs. Added cells heads c.args.list s cs heads in
    subst Q (sym (seamed c.grow_end.new.cells cells c.args.cells.now.len size ∙ same)) (grown_end cells heads c.args.list s end c.requires.whole c.requires.small c.requires.merged c.requires.filled touches)

pub append-requires-clause-behind : goal.append-requires-clause-behind
append-requires-clause-behind c =
    let cells : List Cell = c.args.cells.now.items in
    let P : List Cell → Type 0 = λ cs. IsBehind cs c.args.heads.now c.args.list c.args.numbers c.last_known-end.result in
    behind_all cells c.args.heads.now c.args.list c.args.numbers c.last_known-end.result c.requires.whole c.requires.merged (subst P c.deref-3.ensures.value (c.is_behind.ensures c.if-is_behind.true))

pub returns-in_err-place-clause-needed : goal.returns-in_err-place-clause-needed
returns-in_err-place-clause-needed c =
    let cells : List Cell = c.args.cells.now.items in
    let heads : List Head = c.args.heads.now in
    let P : List Cell → Type 0 = λ cs. IsBehind cs heads c.args.list c.args.numbers c.last_known-end.result in
    let behind = behind_all cells heads c.args.list c.args.numbers c.last_known-end.result c.requires.whole c.requires.merged (subst P c.deref-3.ensures.value (c.is_behind.ensures c.if-is_behind.true)) in
    let apart : IsApart (spans_of cells heads c.args.list) c.args.numbers = apart_behind (spans_of cells heads c.args.list) c.args.numbers behind in
    search rules
