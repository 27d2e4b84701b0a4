use Rattle.gtid_text.proofs.Shown.{gtid_shown, joined_gtid}
use Rattle.gtid_text.proofs.laws.gtid_reads_back.Goals as goal

pub returns : goal.returns
returns c = record { parses = gtid_shown; joins = joined_gtid }
