use Rattle.std.proofs.Common.{rules, ◌≡◌, ℕ, ◌+◌, ◌≤◌, List, subst, map, arith}
use Rattle.interval_pool.specs.declared.cells.Cell.{Cell}
use Rattle.interval_pool.specs.Intervals.{meet}
use Rattle.interval_pool.specs.Pools.{interval_at, rest_of}
use Rattle.interval_pool.specs.Places.{IsPlace}
use Rattle.interval_pool.proofs.cut.cut.Goals as goal
use Rattle.interval_pool.proofs.Altering.{stands, cut_out, is_split}

pub returns-in_err-replace-clause-needed : goal.returns-in_err-replace-clause-needed
returns-in_err-replace-clause-needed c =
    let cells : List Cell = c.args.cells.now.items in
    let heads = c.args.heads.now in
    let n : ℕ = c.args.numbers.lo in
    let none_more : c.args.numbers.hi + 0 ≡ c.args.numbers.hi = omega arith in
    let P : List Cell → Type 0 = λ cs. IsPlace cs heads c.args.list n c.seek-before.result in
    let Q : List Cell → Type 0 = λ cs. c.meet-joined.result ≡ meet (c.args.numbers.hi + 0) c.args.numbers 0 (map (interval_at cs) (rest_of cs heads c.args.list c.seek-before.result)) in
    let from : c.args.numbers.lo ≤ n + 1 = omega arith in
    let t = stands cells heads c.args.list n (c.args.numbers.hi) c.seek-before.result c.args.numbers c.meet-joined.result c.requires.whole c.requires.merged c.requires.filled from (omega arith)
    (subst P c.deref.ensures.value c.seek-before.ensures) (subst (λ (m : ℕ). c.meet-joined.result ≡ meet m c.args.numbers 0 (map (interval_at cells) (rest_of cells heads c.args.list c.seek-before.result))) none_more (subst Q c.deref-2.ensures.value c.meet-joined.ensures)) in
    let split = is_split cells heads c.args.list c.seek-before.result c.args.numbers c.meet-joined.result c.parts_outside-pieces.result t c.requires.filled c.parts_outside-pieces.ensures.first c.parts_outside-pieces.ensures.second
    c.in_err-replace.ensures.needed in
    search rules

pub returns-clause-ok : goal.returns-clause-ok
returns-clause-ok c =
    let cells : List Cell = c.args.cells.now.items in
    let heads = c.args.heads.now in
    let n : ℕ = c.args.numbers.lo in
    let none_more : c.args.numbers.hi + 0 ≡ c.args.numbers.hi = omega arith in
    let P : List Cell → Type 0 = λ cs. IsPlace cs heads c.args.list n c.seek-before.result in
    let Q : List Cell → Type 0 = λ cs. c.meet-joined.result ≡ meet (c.args.numbers.hi + 0) c.args.numbers 0 (map (interval_at cs) (rest_of cs heads c.args.list c.seek-before.result)) in
    let from : c.args.numbers.lo ≤ n + 1 = omega arith in
    let t = stands cells heads c.args.list n (c.args.numbers.hi) c.seek-before.result c.args.numbers c.meet-joined.result c.requires.whole c.requires.merged c.requires.filled from (omega arith)
    (subst P c.deref.ensures.value c.seek-before.ensures) (subst (λ (m : ℕ). c.meet-joined.result ≡ meet m c.args.numbers 0 (map (interval_at cells) (rest_of cells heads c.args.list c.seek-before.result))) none_more (subst Q c.deref-2.ensures.value c.meet-joined.ensures)) in
    cut_out cells c.replace.new.cells.items heads c.replace.new.heads c.args.list c.seek-before.result c.args.numbers c.meet-joined.result c.parts_outside-pieces.result t c.requires.whole c.requires.small c.requires.is_list c.requires.there
    c.requires.filled c.parts_outside-pieces.ensures.first c.parts_outside-pieces.ensures.second c.in_ok-replace.ensures.ok
