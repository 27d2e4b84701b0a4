use Rattle.std.proofs.Common.{rules, ◌≡◌, true, ◌+◌, ◌<◌, List, [], ◌∷◌, ◌++◌, length, sym, ap, subst, ◌∙◌, arith}
use Rattle.dependency_graph.specs.Graphs.{Point, are_finished, gone, drop_finished}
use Rattle.dependency_graph.specs.Kept.{points}
use Rattle.dependency_graph.specs.Held.{IsHeld}
use Rattle.dependency_graph.proofs.Kept.{length_points}
use Rattle.dependency_graph.proofs.Passing.{kept_passed, passed_is}
use Rattle.dependency_graph.proofs.graph.Graph.add_finished.Goals as goal

pub invariant_of-self : goal.invariant_of-self
invariant_of-self c =
    let d = c.self.inside.dropped in
    let nodes = c.self.inside.nodes.items in
    let at : c.len.result ≡ length nodes = search rules in
    let size = length_points d nodes in
    let same = ap length c.self.view_is in
    let few : d + length nodes < 4294967294 = omega (size, same, c.requires.room, arith) in
    let done : are_finished (points d nodes) ≡ true = ap are_finished c.self.view_is ∙ c.requires.finished in
    subst (λ ns. IsHeld (d + (c.len.result + 1)) ns c.self.inside.chains c.self.inside.ready) (sym c.clear.ensures.items) (record {
      kept = kept_passed d nodes c.self.inside.chains c.len.result at few done c.self.invariant.kept;
      listed = λ some. absurd (omega (some, arith));
    })

pub returns : goal.returns
returns c =
    let d = c.self.inside.dropped in
    let nodes = c.self.inside.nodes.items in
    let at : c.len.result ≡ length nodes = search rules in
    ap (points (d + (c.len.result + 1))) c.clear.ensures.items
    ∙ passed_is d nodes c.len.result at (ap are_finished c.self.view_is ∙ c.requires.finished)
    ∙ ap (λ (ps : List Point). drop_finished (ps ++ gone ∷ [])) c.self.view_is
