use Rattle.std.proofs.Common.{◌≡◌, [], map, drop}
use Rattle.server_states.specs.Servers.{servers_behind}
use Rattle.server_states.proofs.server.servers_of.Given as goal

abbrev pub invariant-loop-line : goal.invariant-loop-line
invariant-loop-line l = servers_behind l.servers.items (map (λ x. x.now) (drop l.line-index l.lines)) ≡ servers_behind [] (map (λ x. x.now) l.lines)
