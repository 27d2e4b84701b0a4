use Rattle.std.proofs.Common.{◌≡◌, ◌≤◌, ℕ, List, length}
use Rattle.std.specs.Io.KnownBytes.{Consumes}
use Rattle.commands.proofs.reading.read_text.Given as goal

abbrev pub invariant-loop-turn : goal.invariant-loop-turn
invariant-loop-turn g l =
    (bytes : List ℕ)
    × (Consumes (g.S.Source.left l.fn.reader) (g.S.Source.left l.reader) bytes)
    × (g.T.Text.has_come l.text bytes)
    × (l._turn ≤ length bytes)
    × (g.S.Source.failed l.reader ≡ g.S.Source.failed l.fn.reader)
