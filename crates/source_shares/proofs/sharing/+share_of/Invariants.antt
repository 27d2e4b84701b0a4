use Rattle.std.proofs.Common.{length}
use Rattle.source_shares.proofs.sharing.+share_of.Given as goal

abbrev pub decreases-share_of : goal.decreases-share_of
decreases-share_of l = length l.shares.now
