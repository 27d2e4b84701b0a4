use Rattle.logical_timestamps.proofs.Timestamps.{last_committed_earlier, each_last_committed_more, each_last_committed_length}
use Rattle.logical_timestamps.proofs.laws.last_committed_laws.Goals as goal

pub returns : goal.returns
returns c = record { earlier = last_committed_earlier; more = each_last_committed_more; each = each_last_committed_length }
