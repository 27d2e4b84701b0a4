use Rattle.std.proofs.Common.{refl}
use Rattle.server_states.specs.States.{union_line}
use Rattle.server_states.proofs.lines.check_lines.Goals as goal

pub loop-server-init : goal.loop-server-init
loop-server-init c = (union_line c.args.together.now, refl)
