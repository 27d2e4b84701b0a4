use Rattle.std.proofs.Common.{◌+◌, ◌*◌}
use Rattle.commands.proofs.printing.+fn-render_beside-join+arg2+fn-render_beside-join+arg3+render_beside.Given as goal

abbrev pub decreases-join+arg2 : goal.decreases-join+arg2
decreases-join+arg2 g l = 2 * l.left + 2

abbrev pub decreases-join+arg3 : goal.decreases-join+arg3
decreases-join+arg3 g l = 2 * l.left + 2

abbrev pub decreases-render_beside : goal.decreases-render_beside
decreases-render_beside g l = 2 * l.halvings + 1
