use Rattle.std.proofs.Common.{sym, ap, ◌∙◌, cond, Some}
use Rattle.std.specs.Option.{option_and_then}
use Rattle.rows.specs.Total.{key_eq_self}
use Rattle.dependency_graph.specs.Chains.{ends_at, node_at}
use Rattle.dependency_graph.specs.declared.chains.Ends.{Ends}
use Rattle.dependency_graph.proofs.chains.Chains.pop.Goals as goal

pub returns-clause-next : goal.returns-clause-next
returns-clause-next c =
    let key = c.args.key.now in
    let new = c.put_ends.new.self in
    let ends : Ends = record { first = c.in-Some.first; last = c.in_ok-ends.ends.last } in
    let now = c.put_ends.ensures.ends key ∙ ap (λ b. cond b (Some ends) (ends_at c.args.self.now key)) (key_eq_self key) in
    c.node_at.ensures ∙ sym (ap (option_and_then (λ (e : Ends). node_at new e.first)) now)
