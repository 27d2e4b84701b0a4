use Rattle.history.proofs.SourceClosing.{closed_by_source_are_a_lattice}
use Rattle.history.proofs.sources.closed_by_source_are_a_lattice.Goals as goal

pub returns : goal.returns
returns c = closed_by_source_are_a_lattice
