use Rattle.server_states.proofs.Missing.{gap_only, gap_all}
use Rattle.server_states.proofs.laws.gaps_lie_below.Goals as goal

pub returns-clause-only : goal.returns-clause-only
returns-clause-only c = gap_only

pub returns-clause-all : goal.returns-clause-all
returns-clause-all c = gap_all
