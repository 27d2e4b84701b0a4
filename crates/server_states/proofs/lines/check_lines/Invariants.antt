use Rattle.std.proofs.Common.{◌≡◌, List, ℕ, drop}
use Rattle.server_states.specs.States.{lines_behind, union_line}
use Rattle.server_states.proofs.lines.check_lines.Given as goal

abbrev pub invariant-loop-server : goal.invariant-loop-server
invariant-loop-server l = (text : List ℕ) × (lines_behind text l.together (drop l.server-index l.servers) ≡ lines_behind (union_line l.together) l.together l.servers)
