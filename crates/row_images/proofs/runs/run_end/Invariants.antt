use Rattle.std.proofs.Common.{◌-◌, ◌≤◌, length}
use Rattle.row_images.specs.Runs.{AreBetween}
use Rattle.row_images.proofs.runs.run_end.Given as goal

abbrev pub invariant-blocks-2 : goal.invariant-blocks-2
invariant-blocks-2 g l = (l.at ≤ l.end) × (l.end ≤ length l.text) × AreBetween g.C.ByteClass.holds l.text l.at l.end

abbrev pub decreases-blocks-2 : goal.decreases-blocks-2
decreases-blocks-2 g l = length l.text - l.end

abbrev pub invariant-loop-end : goal.invariant-loop-end
invariant-loop-end g l = (l.at ≤ l.end) × (l.end ≤ length l.text) × AreBetween g.C.ByteClass.holds l.text l.at l.end

abbrev pub decreases-loop-end : goal.decreases-loop-end
decreases-loop-end g l = length l.text - l.end
