use Rattle.std.proofs.Common.{arith}
use Rattle.dependency_graph.proofs.Levels.{level_restart}
use Rattle.dependency_graph.proofs.ready.Ready.restart.Goals as goal

pub returns : goal.returns
returns c = λ p none. record {
  small = level_restart 64 (omega arith) c.restart.new.self c.args.number p c.in_ok-restart.ensures none;
  middle = level_restart 4096 (omega arith) c.restart-2.new.self c.args.number p c.in_ok-restart-2.ensures none;
  large = level_restart 262144 (omega arith) c.restart-3.new.self c.args.number p c.in_ok-restart-3.ensures none;
}
