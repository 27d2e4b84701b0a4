use Rattle.std.proofs.Common.{◌≡◌, ◌<◌, ℕ, ap, sym, subst, List, [], ◌∷◌, length, arith}
use Rattle.interval_pool.specs.declared.cells.Cell.{Cell}
use Rattle.interval_pool.specs.declared.interval.Interval.{Interval}
use Rattle.interval_pool.specs.Pools.{Places, chain_of}
use Rattle.interval_pool.specs.Changes.{Replaced}
use Rattle.interval_pool.specs.Cells.{head_at}
use Rattle.interval_pool.proofs.store.put_last.Goals as goal
use Rattle.interval_pool.proofs.Valued.{seamed}
use Rattle.interval_pool.proofs.Appending.{put_free, as_many_free}

pub returns-then-count-gt0-clause-ok : goal.returns-then-count-gt0-clause-ok
returns-then-count-gt0-clause-ok c = λ h small not_free lt is_last.
    let items : List Cell = c.args.cells.now.items in
    let heads = c.args.heads.now in
    let s : Interval = c.args.numbers in
    let P : List Cell → Type 0 = λ cs. Places cs heads c.args.list c.args.last s c.place.new.cells c.place.new.heads in
    let places = subst P c.deref_mut.ensures.value c.place.ensures in
    let Q : ℕ → Type 0 = λ n. 0 < n in
    let some : 0 < (head_at heads 0).len = subst Q c.count.ensures c.if-count-gt0.true in
    let done = put_free items c.place.new.cells heads c.place.new.heads c.args.list c.args.last s some places h small not_free lt is_last in
    let many = as_many_free items c.place.new.cells heads c.place.new.heads c.args.list c.args.last s some places h small not_free lt is_last in
    let size : length c.place.new.cells ≡ c.args.cells.now.len = (let a = ap length c.deref_mut.ensures.value in let b = c.deref_mut.ensures.len in omega (many, a, b, arith)) in
    let R : List Cell → Type 0 = λ cs. Replaced items heads c.args.list (chain_of items heads c.args.list) [] 0 (s ∷ []) cs c.place.new.heads in
    subst R (sym (seamed c.place.new.cells items c.args.cells.now.len size)) done
