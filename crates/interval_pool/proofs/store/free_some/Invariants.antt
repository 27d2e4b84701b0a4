use Rattle.std.proofs.Common.{◌≡◌, ◌≢◌, ℕ, ◌≤◌, ◌<◌, ◌++◌, List, length, take, drop, None}
use Rattle.interval_pool.specs.Links.{most_cells}
use Rattle.interval_pool.specs.Chains.{last_or}
use Rattle.interval_pool.specs.Pools.{chain_of, AreWhole, FreedSome}
use Rattle.interval_pool.proofs.store.free_some.Given as goal

abbrev pub invariant-loop-done : goal.invariant-loop-done
invariant-loop-done l =
    (xs zs ys : List ℕ) → AreWhole l.initial.cells l.initial.heads → length l.initial.cells ≤ most_cells → l.list ≢ 0 → l.list < length l.initial.heads
    → chain_of l.initial.cells l.initial.heads l.list ≡ xs ++ (zs ++ ys) → l.before ≡ last_or None xs → l._done ≤ length zs
    → FreedSome l.initial.cells l.initial.heads l.list xs (take l._done zs) (drop l._done zs ++ ys) l.cells l.heads
