use Rattle.std.proofs.Common.{◌≡◌, ℕ, subst, Option}
use Rattle.interval_pool.specs.Pools.{Links}
use Rattle.interval_pool.proofs.store.free.Goals as goal
use Rattle.interval_pool.proofs.Lists.{freed}

pub returns-in-Some : goal.returns-in-Some
returns-in-Some c = λ xs i ys h small not_free lt parts is_before.
    let left = c.unlink-at.ensures xs i ys h lt parts is_before in
    let found = left.found in
    let same : c.in-Some.i ≡ i = cc in
    let P : Option ℕ → Type 0 = λ b. Links c.unlink-at.new.cells c.unlink-at.new.heads 0 b i c.link.new.cells c.link.new.heads in
    let Q : ℕ → Type 0 = λ n. Links c.unlink-at.new.cells c.unlink-at.new.heads 0 c.none.result n c.link.new.cells c.link.new.heads in
    freed c.args.cells.now c.unlink-at.new.cells c.link.new.cells c.args.heads.now c.unlink-at.new.heads c.link.new.heads c.args.list i xs ys c.args.before c.unlink-at.result
    h small not_free lt parts is_before c.unlink-at.ensures (subst P c.none.ensures (subst Q same c.link.ensures))
