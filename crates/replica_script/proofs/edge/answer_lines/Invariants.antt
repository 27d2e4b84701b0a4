use Rattle.std.proofs.Common.{◌≡◌, ℕ, List, Some, IfSome}
use Rattle.replica_script.specs.Answering.{HasAnswered}
use Rattle.replica_script.proofs.edge.answer_lines.Given as goal

abbrev pub invariant-loop-before : goal.invariant-loop-before
invariant-loop-before g l = IfSome (g.R.Read.remaining l.fn.reader) (λ input.
    (behind : List ℕ)
    × (g.R.Read.remaining l.reader ≡ Some behind)
    × HasAnswered g.A.Answerer.answers l.fn.script input l.before l.script behind (g.W.Write.contents l.fn.writer) (g.W.Write.contents l.writer))
