use Rattle.interval_pool.proofs.store.put.Goals as goal
use Rattle.interval_pool.proofs.Putting.{put_done}

pub returns : goal.returns
returns c = put_done c.args.cells.now c.free_some.new.cells c.set.new.cells c.set-2.new.cells c.args.heads.now c.free_some.new.heads c.set.new.heads c.set-2.new.heads c.args.list c.args.count c.args.before c.args.pieces
    c.free_some.ensures c.set.ensures c.set-2.ensures
