use Rattle.std.proofs.Common.{◌≡◌, ◌<◌, ◌≤◌, ℕ, None}
use Rattle.std.specs.FinMap as finmap
use Rattle.applier.specs.Draining.{Drains}
use Rattle.applier.proofs.draining.free_all.Given as goal

abbrev pub invariant-loop-seat : goal.invariant-loop-seat
invariant-loop-seat l = Drains l.fn.book l.book × ((seat : ℕ) → 1 ≤ seat → seat < l.seat → finmap.get l.book.now.state.seats seat ≡ None)
