use Rattle.std.proofs.Common.{rules, [], sym, subst, arith}
use Rattle.dependency_graph.specs.Held.{IsHeld}
use Rattle.dependency_graph.specs.Kept.{IsKept}
use Rattle.dependency_graph.proofs.graph.Graph.start.Goals as goal

pub invariant_of-result : goal.invariant_of-result
invariant_of-result c =
    let kept : IsKept 0 [] c.new-2.result [] = search rules in
    subst (λ ns. IsHeld 0 ns c.new-2.result c.new-3.result) (sym c.new.ensures.items) (record { kept = kept; listed = λ some. absurd (omega (some, arith)) })
