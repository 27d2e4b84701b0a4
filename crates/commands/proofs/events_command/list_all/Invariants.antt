use Rattle.commands.proofs.EventLines.{Sofar}
use Rattle.commands.proofs.events_command.list_all.Given as goal

abbrev pub invariant-loop-turn : goal.invariant-loop-turn
invariant-loop-turn g l = Sofar l.fn.detail l.fn.streams l.streams l.lister l._turn
