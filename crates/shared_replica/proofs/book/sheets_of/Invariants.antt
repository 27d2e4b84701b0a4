use Rattle.std.proofs.Common.{◌≡◌, ◌≤◌, length, map, vec_len}
use Rattle.std.specs.List.{sum_by}
use Rattle.std.specs.Vec.{vec_capacity}
use Rattle.shared_replica.specs.Closing.{sheet}
use Rattle.shared_replica.proofs.book.sheets_of.Given as goal

-- the sheets and the share are those of the passes so far
abbrev pub invariant-loop-pass : goal.invariant-loop-pass
invariant-loop-pass g l =
    (l.sheets.items ≡ map sheet l.yielded) × (vec_len l.sheets ≡ length l.yielded) × (vec_len l.fn.passes ≤ vec_capacity l.sheets)
    × (l.all.seats ≡ length l.yielded) × (l.all.steps ≡ sum_by (λ p. p.steps) l.yielded) × (l.all.commits ≡ sum_by (λ p. p.commits) l.yielded)
