use Rattle.std.proofs.Common.{drop}
use Rattle.commands.proofs.WrittenLines.{Sofar}
use Rattle.commands.proofs.states_command.write_compared.Given as goal

abbrev pub invariant-loop-server : goal.invariant-loop-server
invariant-loop-server g l = Sofar l.compared l.fn.streams l.streams (drop l.server-index l.server-items)
