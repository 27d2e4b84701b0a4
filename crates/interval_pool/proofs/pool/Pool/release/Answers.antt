use Rattle.std.proofs.Common.{◌≡◌, ℕ, true, List, ◌++◌, length, take, drop, ap, sym, subst, arith}
use Rattle.std.specs.Prelude.{vec_capacity}
use Rattle.interval_pool.specs.declared.cells.Cell.{Cell}
use Rattle.interval_pool.specs.declared.cells.Head.{Head}
use Rattle.interval_pool.specs.Cells.{head_at}
use Rattle.interval_pool.specs.Changes.{Drops}
use Rattle.interval_pool.specs.Values.{PoolValue, IsList, IsPool, Released, value_of}
use Rattle.interval_pool.proofs.pool.Pool.release.Goals as goal
use Rattle.interval_pool.proofs.Valued.{seamed, head_is, is_head, is_not_free}
use Rattle.interval_pool.proofs.Standing.{pool_dropped, released}

pub invariant_of-self : goal.invariant_of-self
invariant_of-self c =
    let cells : List Cell = c.self.inside.cells.items in
    let heads : List Head = c.self.inside.heads.items in
    let l : ℕ = c.args.list in
    let is : (head_at heads l).is_list ≡ true = head_is cells heads (vec_capacity c.self.inside.cells) l (subst (λ p. IsList p l) (sym c.self.view_is) c.requires.list) in
    let P : List Cell → Type 0 = λ cs. Drops cs c.deref_mut-2.result.now c.number.result c.drop_list.new.cells c.drop_list.new.heads in
    let Q : List Head → Type 0 = λ hs. Drops cells hs c.number.result c.drop_list.new.cells c.drop_list.new.heads in
    let R : ℕ → Type 0 = λ k. Drops cells heads k c.drop_list.new.cells c.drop_list.new.heads in
    let drops = subst R c.number.ensures (subst Q c.deref_mut-2.ensures.value (subst P c.deref_mut.ensures.value c.drop_list.ensures)) in
    let d = drops c.self.invariant.whole c.self.invariant.small (is_not_free cells heads l c.self.invariant is) (is_head heads l is) in
    let size : length c.drop_list.new.cells ≡ c.self.inside.cells.len = (let n = d.as_many in let a = ap length c.deref_mut.ensures.value in let b = c.deref_mut.ensures.len in omega (n, a, b, arith)) in
    let size' : length c.drop_list.new.heads ≡ c.self.inside.heads.len = (let n = d.as_many_chains in let a = ap length c.deref_mut-2.ensures.value in let b = c.deref_mut-2.ensures.len in omega (n, a, b, arith)) in
    let S : List Cell → Type 0 = λ cs. IsPool cs (take c.self.inside.heads.len (c.drop_list.new.heads ++ drop (length c.drop_list.new.heads) heads)) in
    let T : List Head → Type 0 = λ hs. IsPool c.drop_list.new.cells hs in
    subst S (sym (seamed c.drop_list.new.cells cells c.self.inside.cells.len size)) (subst T (sym (seamed c.drop_list.new.heads heads c.self.inside.heads.len size'))
    (pool_dropped cells c.drop_list.new.cells heads c.drop_list.new.heads l c.self.invariant is d))

pub returns : goal.returns
returns c =
    let cells : List Cell = c.self.inside.cells.items in
    let heads : List Head = c.self.inside.heads.items in
    let capacity : ℕ = vec_capacity c.self.inside.cells in
    let l : ℕ = c.args.list in
    let is : (head_at heads l).is_list ≡ true = head_is cells heads capacity l (subst (λ p. IsList p l) (sym c.self.view_is) c.requires.list) in
    let P : List Cell → Type 0 = λ cs. Drops cs c.deref_mut-2.result.now c.number.result c.drop_list.new.cells c.drop_list.new.heads in
    let Q : List Head → Type 0 = λ hs. Drops cells hs c.number.result c.drop_list.new.cells c.drop_list.new.heads in
    let R : ℕ → Type 0 = λ k. Drops cells heads k c.drop_list.new.cells c.drop_list.new.heads in
    let drops = subst R c.number.ensures (subst Q c.deref_mut-2.ensures.value (subst P c.deref_mut.ensures.value c.drop_list.ensures)) in
    let d = drops c.self.invariant.whole c.self.invariant.small (is_not_free cells heads l c.self.invariant is) (is_head heads l is) in
    let size : length c.drop_list.new.cells ≡ c.self.inside.cells.len = (let n = d.as_many in let a = ap length c.deref_mut.ensures.value in let b = c.deref_mut.ensures.len in omega (n, a, b, arith)) in
    let size' : length c.drop_list.new.heads ≡ c.self.inside.heads.len = (let n = d.as_many_chains in let a = ap length c.deref_mut-2.ensures.value in let b = c.deref_mut-2.ensures.len in omega (n, a, b, arith)) in
    let heads' : List Head = take c.self.inside.heads.len (c.drop_list.new.heads ++ drop (length c.drop_list.new.heads) heads) in
    let cells' : List Cell = take c.self.inside.cells.len (c.drop_list.new.cells ++ drop (length c.drop_list.new.cells) cells) in
    let S : List Cell → Type 0 = λ cs. Released (value_of cells heads capacity) l (value_of cs heads' capacity) in
    let T : List Head → Type 0 = λ hs. Released (value_of cells heads capacity) l (value_of c.drop_list.new.cells hs capacity) in
    let U : PoolValue → Type 0 = λ p. Released p l (value_of cells' heads' capacity) in
    subst U c.self.view_is (subst S (sym (seamed c.drop_list.new.cells cells c.self.inside.cells.len size)) (subst T (sym (seamed c.drop_list.new.heads heads c.self.inside.heads.len size'))
    (released cells c.drop_list.new.cells heads c.drop_list.new.heads capacity l c.self.invariant is d)))
