use Rattle.std.proofs.Common.{rules, ◌≡◌, [], ◌∷◌, List, sym, ap, subst, ◌∙◌}
use Rattle.std.specs.Prelude.{All}
use Rattle.std.proofs.lemmas.List.Elements.{All-append, All-cons, All-nil}
use Rattle.apply_channel.specs.Channels.{Keyed}
use Rattle.replica_core.proofs.channels.Channels.push.Goals as goal

pub invariant_of-self-2 : goal.invariant_of-self-2
invariant_of-self-2 c =
    let s = c.self.inside in
    let copied : c.in_ok-schema.schema ≡ s.schema = search rules in
    let new : c.open.result.schema ≡ s.schema = ap (λ (k : Keyed). k.schema) c.open.ensures ∙ copied in
    subst (λ (xs : List Keyed). All (λ (k : Keyed). k.schema ≡ s.schema) xs) (sym c.in_ok-push.ensures.items)
    (All-append (λ (k : Keyed). k.schema ≡ s.schema) s.list.items (c.open.result ∷ []) c.self.invariant
    (All-cons (λ (k : Keyed). k.schema ≡ s.schema) c.open.result [] new (All-nil (λ (k : Keyed). k.schema ≡ s.schema))))

pub invariant_of-self : goal.invariant_of-self
invariant_of-self c =
    let s = c.self.inside in
    subst (λ (xs : List Keyed). All (λ (k : Keyed). k.schema ≡ s.schema) xs) (sym c.in_err-push.ensures.items) c.self.invariant
