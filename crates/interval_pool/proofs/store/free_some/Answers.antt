use Rattle.std.proofs.Common.{arith, ◌<◌, ◌≤◌, length}
use Rattle.interval_pool.proofs.store.free_some.Goals as goal
use Rattle.interval_pool.proofs.Lists.{none_freed, next_freed, all_freed}

pub loop-done-init : goal.loop-done-init
loop-done-init c = λ xs zs ys h small not_free lt parts is_before le. none_freed c.args.cells.now c.args.heads.now c.args.list xs _ h parts

pub loop-done-preserved : goal.loop-done-preserved
loop-done-preserved c = λ xs zs ys h small not_free lt parts is_before le.
    let less : c.loop-done._done < length zs = omega (le, arith) in
    let le' : c.loop-done._done ≤ length zs = omega (le, arith) in
    next_freed c.args.cells.now c.loop-done.cells c.free.new.cells c.args.heads.now c.loop-done.heads c.free.new.heads c.args.list c.loop-done._done xs zs ys c.args.before small not_free lt is_before less
    (c.loop-done.invariant xs zs ys h small not_free lt parts is_before le') c.free.ensures

pub returns : goal.returns
returns c = λ xs zs ys h small not_free lt parts is_before e.
    let stop = c.loop-done-test.false in
    let end : c.loop-done._done ≤ c.args.count = c.loop-done.auto._done-end in
    all_freed c.args.cells.now c.loop-done.cells c.args.heads.now c.loop-done.heads c.args.list c.loop-done._done xs zs ys (omega (e, stop, arith))
    (c.loop-done.invariant xs zs ys h small not_free lt parts is_before (omega (e, end, arith)))
