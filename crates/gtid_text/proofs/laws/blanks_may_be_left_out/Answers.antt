use Rattle.gtid_text.proofs.Shown.{spaced_joined}
use Rattle.gtid_text.proofs.laws.blanks_may_be_left_out.Goals as goal

pub returns : goal.returns
returns c = spaced_joined
