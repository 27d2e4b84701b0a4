use Rattle.gtid_text.proofs.Shown.{source_shown}
use Rattle.gtid_text.proofs.laws.source_reads_back.Goals as goal

pub returns : goal.returns
returns c = source_shown
