use Rattle.std.proofs.Common.{arith}
use Rattle.dependency_graph.proofs.Levels.{level_pass}
use Rattle.dependency_graph.proofs.ready.Ready.pass.Goals as goal

pub returns : goal.returns
returns c = λ was end p le to gone h. record {
  small = level_pass 64 (omega arith) c.args.self.now.small c.pass.new.self was c.args.base end p le gone c.pass.ensures h.small;
  middle = level_pass 4096 (omega arith) c.args.self.now.middle c.pass-2.new.self was c.args.base end p le gone c.pass-2.ensures h.middle;
  large = level_pass 262144 (omega arith) c.args.self.now.large c.pass-3.new.self was c.args.base end p le gone c.pass-3.ensures h.large;
}
