use Rattle.std.proofs.Common.{◌≡◌}
use Rattle.fault_places.specs.Lines.{word_at}
use Rattle.fault_places.proofs.lines.word_at.Given as goal

abbrev pub invariant-loop-left : goal.invariant-loop-left
invariant-loop-left l = word_at l.left l.rest ≡ word_at l.place l.line

abbrev pub decreases-loop-left : goal.decreases-loop-left
decreases-loop-left l = l.left
