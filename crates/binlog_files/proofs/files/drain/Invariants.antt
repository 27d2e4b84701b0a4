use Rattle.std.proofs.Common.{ℕ, List, length}
use Rattle.binlog_files.specs.Given.{sets}
use Rattle.binlog_files.specs.Files.{HasTaken}
use Rattle.binlog_files.specs.Moved.{files_state}
use Rattle.binlog_files.specs.Taking.{FilesState}
use Rattle.binlog_files.proofs.files.drain.Given as goal

abbrev pub invariant-events : goal.invariant-events
invariant-events l = (from : FilesState) (bytes : List ℕ) → HasTaken (sets l.given) from bytes l.fn.frames (files_state l.fn.taken) → HasTaken (sets l.given) from bytes l.frames (files_state l.taken)

abbrev pub decreases-events : goal.decreases-events
decreases-events l = length l.frames.left
