use Rattle.dependency_graph.proofs.Levels.{level_new}
use Rattle.dependency_graph.proofs.ready.Ready.new.Goals as goal

pub returns : goal.returns
returns c = λ p none. record {
  small = level_new 64 c.new.result p c.new.ensures.first c.new.ensures.counts none;
  middle = level_new 4096 c.new-2.result p c.new-2.ensures.first c.new-2.ensures.counts none;
  large = level_new 262144 c.new-3.result p c.new-3.ensures.first c.new-3.ensures.counts none;
}
