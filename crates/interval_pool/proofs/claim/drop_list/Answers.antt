use Rattle.std.proofs.Common.{subst, sym, List}
use Rattle.interval_pool.specs.declared.cells.Head.{Head}
use Rattle.interval_pool.specs.Changes.{Drops}
use Rattle.interval_pool.proofs.claim.drop_list.Goals as goal
use Rattle.interval_pool.proofs.Listing.{dropped}

pub returns : goal.returns
returns c =
    let P : List Head → Type 0 = λ hs. Drops c.args.cells.now c.args.heads.now c.args.list c.free_some.new.cells hs in
    subst P (sym c.put_list.ensures) (dropped c.args.cells.now c.free_some.new.cells c.args.heads.now c.free_some.new.heads c.args.list c.count-len.result c.none.result c.none.ensures c.count-len.ensures c.free_some.ensures)
