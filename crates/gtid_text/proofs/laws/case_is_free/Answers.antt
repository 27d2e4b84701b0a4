use Rattle.gtid_text.proofs.Letters.{source_same}
use Rattle.gtid_text.proofs.laws.case_is_free.Goals as goal

pub returns : goal.returns
returns c = source_same
