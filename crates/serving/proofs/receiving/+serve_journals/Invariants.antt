use Rattle.std.proofs.Common.{length}
use Rattle.serving.proofs.receiving.+serve_journals.Given as goal

abbrev pub decreases-serve_journals : goal.decreases-serve_journals
decreases-serve_journals l = length l.journals.now
