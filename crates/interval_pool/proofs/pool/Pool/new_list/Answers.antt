use Rattle.std.proofs.Common.{rules, ◌≡◌, ◌↔◌, ℕ, List, sym, subst}
use Rattle.std.specs.Prelude.{vec_capacity}
use Rattle.interval_pool.specs.declared.cells.Cell.{Cell}
use Rattle.interval_pool.specs.declared.cells.Head.{Head}
use Rattle.interval_pool.specs.declared.fault.PoolFault.{PoolFault}
use Rattle.interval_pool.specs.declared.fault.PoolFault.TheVariants.{Full}
use Rattle.interval_pool.specs.Values.{PoolValue, Opened, AreAllLists, value_of}
use Rattle.interval_pool.proofs.pool.Pool.new_list.Goals as goal
use Rattle.interval_pool.proofs.Standing.{opened, all_lists, all_claimed}

pub returns-in_err-number-clause-full : goal.returns-in_err-number-clause-full
returns-in_err-number-clause-full c =
    let fault : PoolFault = c.in_err-number.field-0.0 in
    let cells : List Cell = c.self.inside.cells.items in
    let heads : List Head = c.self.inside.heads.items in
    let capacity : ℕ = vec_capacity c.self.inside.cells in
    let all : fault ≡ Full ↔ AreAllLists c.args.self.now = (
      λ e. subst AreAllLists c.self.view_is (all_lists cells heads capacity (c.in_err-number.ensures.full.0 e)),
      λ lists. c.in_err-number.ensures.full.1 (all_claimed cells heads capacity (subst AreAllLists (sym c.self.view_is) lists)),
    ) in
    search rules

pub returns-clause-ok : goal.returns-clause-ok
returns-clause-ok c =
    let capacity : ℕ = vec_capacity c.self.inside.cells in
    let P : PoolValue → Type 0 = λ p. Opened p c.in_ok-number.number (value_of c.self.inside.cells.items c.claim.new.heads.items capacity) in
    subst P c.self.view_is (opened c.self.inside.cells.items c.self.inside.heads.items c.claim.new.heads.items capacity c.in_ok-number.number c.self.invariant c.in_ok-number.ensures.ok)
