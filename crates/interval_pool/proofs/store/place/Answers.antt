use Rattle.std.proofs.Common.{◌≡◌, ℕ, refl, subst, Option, List, [], arith}
use Rattle.interval_pool.specs.declared.cells.Cell.{Cell}
use Rattle.interval_pool.specs.Cells.{with_numbers}
use Rattle.interval_pool.specs.Pools.{Links, Unlinks}
use Rattle.interval_pool.proofs.store.place.Goals as goal
use Rattle.interval_pool.proofs.Lists.{placed}

pub returns-in-Some : goal.returns-in-Some
returns-in-Some c = λ xs ys i rest h small not_free lt free parts is_before.
    let P : Option ℕ → Type 0 = λ b. Unlinks c.args.cells.now c.args.heads.now 0 b c.unlink-at.result c.unlink-at.new.cells c.unlink-at.new.heads in
    let out = subst P c.none.ensures c.unlink-at.ensures in
    let found = (out [] i rest h (omega (lt, arith)) free refl).found in
    let same : c.in-Some.i ≡ i = cc in
    let Q : ℕ → Type 0 = λ n. Links (with_numbers c.unlink-at.new.cells n c.args.lo c.args.hi) c.unlink-at.new.heads c.args.list c.args.before n c.link.new.cells c.link.new.heads in
    let R : List Cell → Type 0 = λ cs. Links cs c.unlink-at.new.heads c.args.list c.args.before c.in-Some.i c.link.new.cells c.link.new.heads in
    let into = subst Q same (subst R c.put_numbers.ensures c.link.ensures) in
    placed c.args.cells.now c.unlink-at.new.cells c.link.new.cells c.args.heads.now c.unlink-at.new.heads c.link.new.heads c.args.list i xs ys rest c.args.before c.unlink-at.result
    (record { lo = c.args.lo; hi = c.args.hi }) h small not_free lt free parts is_before out into

pub returns-in_default : goal.returns-in_default
returns-in_default c = λ xs ys i rest h small not_free lt free parts is_before.
    let P : Option ℕ → Type 0 = λ b. Unlinks c.args.cells.now c.args.heads.now 0 b c.unlink-at.result c.unlink-at.new.cells c.unlink-at.new.heads in
    let out = subst P c.none.ensures c.unlink-at.ensures in
    let found = (out [] i rest h (omega (lt, arith)) free refl).found in
    let no : ⊥ = cc in absurd no
