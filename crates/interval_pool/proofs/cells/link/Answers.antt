use Rattle.std.proofs.Common.{arith}
use Rattle.interval_pool.specs.Pools.{chain_of}
use Rattle.interval_pool.proofs.cells.link.Goals as goal
use Rattle.interval_pool.proofs.Walking.{chain_fewer}
use Rattle.interval_pool.proofs.Changing.{linked}

pub returns : goal.returns
returns c = λ xs ys h small lt below parts is_before.
    let fewer = chain_fewer c.args.cells.now c.args.heads.now c.args.at (chain_of c.args.cells.now c.args.heads.now) c.args.chain h below in
    let count = h.count c.args.chain in
    rw (c.put_next.ensures, c.put_head.ensures, c.put_owner.ensures, c.to.ensures (omega (small, below, arith)), c.to-2.ensures (omega (small, below, arith)))
    (linked c.args.cells.now c.args.heads.now c.args.chain c.args.at xs ys c.args.before c.after-next.result c.saturating_add-len.result h lt below parts is_before
    c.after-next.ensures (let sum = c.saturating_add-len.ensures in let n = c.count.ensures in omega (sum, n, count, fewer, small, arith)))
