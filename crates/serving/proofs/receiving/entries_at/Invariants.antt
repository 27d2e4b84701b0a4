use Rattle.std.proofs.Common.{◌≡◌, ◌++◌, drop}
use Rattle.serving.specs.Serving.{pick_entries}
use Rattle.serving.proofs.receiving.entries_at.Given as goal

abbrev pub invariant-loop-place : goal.invariant-loop-place
invariant-loop-place l = l.found.items ++ pick_entries l.entries (drop l.place-index l.places) ≡ pick_entries l.entries l.places
