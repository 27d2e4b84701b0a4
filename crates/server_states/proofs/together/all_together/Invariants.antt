use Rattle.std.proofs.Common.{◌≡◌, drop}
use Rattle.server_states.specs.States.{none, with_servers}
use Rattle.server_states.proofs.together.all_together.Given as goal

abbrev pub invariant-loop-server : goal.invariant-loop-server
invariant-loop-server l = with_servers l.together (drop l.server-index l.servers) ≡ with_servers none l.servers
