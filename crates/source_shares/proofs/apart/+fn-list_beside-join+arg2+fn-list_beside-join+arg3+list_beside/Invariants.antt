use Rattle.std.proofs.Common.{◌+◌, ◌*◌}
use Rattle.source_shares.proofs.apart.+fn-list_beside-join+arg2+fn-list_beside-join+arg3+list_beside.Given as goal

abbrev pub decreases-join+arg2 : goal.decreases-join+arg2
decreases-join+arg2 g l = 2 * l.left + 2

abbrev pub decreases-join+arg3 : goal.decreases-join+arg3
decreases-join+arg3 g l = 2 * l.left + 2

abbrev pub decreases-list_beside : goal.decreases-list_beside
decreases-list_beside g l = 2 * l.halvings + 1
