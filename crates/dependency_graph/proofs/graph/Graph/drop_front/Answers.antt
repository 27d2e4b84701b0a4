use Rattle.std.proofs.Common.{sym, ap, ◌∙◌}
use Rattle.dependency_graph.specs.Graphs.{drop_finished}
use Rattle.dependency_graph.proofs.Marking.{drop_goes, drop_kept, nothing_goes}
use Rattle.dependency_graph.proofs.Listing.{listed_dropped}
use Rattle.dependency_graph.proofs.graph.Graph.drop_front.Goals as goal

pub loop-self-preserved : goal.loop-self-preserved
loop-self-preserved c =
    let d = c.loop-self.self-inside.dropped in
    let nodes = c.loop-self.self-inside.nodes.items in
    let first = sym c.starts_finished.ensures ∙ c.loop-self-test.true in
    record {
      goes = drop_goes d nodes c.pop_front.new.self.items first c.pop_front.ensures.rest ∙ c.loop-self.invariant.goes;
      held = record {
        kept = drop_kept d nodes c.pop_front.new.self.items c.loop-self.self-inside.chains first c.pop_front.ensures.rest c.loop-self.invariant.held.kept;
        listed = listed_dropped d nodes c.pop_front.new.self.items c.loop-self.self-inside.ready c.pass.new.self first c.pop_front.ensures.rest c.pass.ensures c.loop-self.invariant.held.listed;
      };
    }

pub returns : goal.returns
returns c =
    nothing_goes c.loop-self.self-inside.dropped c.loop-self.self-inside.nodes.items (sym c.starts_finished.ensures ∙ c.loop-self-test.false)
    ∙ c.loop-self.invariant.goes ∙ ap drop_finished c.self.view_is
