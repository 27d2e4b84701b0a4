use Rattle.std.proofs.Common.{◌≡◌, None, Some, cond, refl, sym, ap, ◌∙◌}
use Rattle.std.specs.Option.{unwrap_or}
use Rattle.rows.specs.Order.{key_eq}
use Rattle.dependency_graph.specs.Chains.{ends_at, extend_ends}
use Rattle.dependency_graph.specs.declared.chains.Ends.{Ends}
use Rattle.dependency_graph.proofs.Entries.{ends_updated, entry_stays}
use Rattle.dependency_graph.proofs.chains.Chains.put_last.Goals as goal

pub returns-clause-ends : goal.returns-clause-ends
returns-clause-ends c = λ k.
    let before : c.value_at-before.result.now ≡ ends_at c.args.self.now c.args.key.now = ap (λ o. unwrap_or o None) (sym c.value_at-before.ensures ∙ c.in-Some.ensures.value) in
    ends_updated c.args.self.now.table.entries c.replace_at.new.self.entries c.args.key.now (Some (Some c.extend_ends-ends.result)) (c.replace_at.ensures.updates c.args.key.now (sym c.in-Some.ensures.index)).0 k
    ∙ ap (λ (e : Ends). cond (key_eq k c.args.key.now) (Some e) (ends_at c.args.self.now k)) (c.extend_ends-ends.ensures ∙ ap (extend_ends c.args.at) before)

pub returns-clause-stays : goal.returns-clause-stays
returns-clause-stays c = entry_stays c.args.self.now.table.entries c.replace_at.new.self.entries c.args.key.now (Some (Some c.extend_ends-ends.result)) (c.replace_at.ensures.updates c.args.key.now (sym c.in-Some.ensures.index)).0 refl
