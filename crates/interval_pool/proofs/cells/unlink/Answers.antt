use Rattle.interval_pool.proofs.cells.unlink.Goals as goal
use Rattle.interval_pool.proofs.Changing.{unlinked}

pub returns : goal.returns
returns c = λ xs i ys h lt parts is_before.
    rw (c.put_next.ensures, c.put_head.ensures)
    (unlinked c.args.cells.now c.args.heads.now c.args.chain i xs ys c.args.before c.after-at.result c.after-next.result c.saturating_sub-len.result h lt parts is_before
    c.after-at.ensures c.after-next.ensures (cc))
