use Rattle.gtid_text.proofs.Shown.{spans_shown, joined_spans}
use Rattle.gtid_text.proofs.laws.spans_read_back.Goals as goal

pub returns : goal.returns
returns c = record { parses = spans_shown; joins = joined_spans }
