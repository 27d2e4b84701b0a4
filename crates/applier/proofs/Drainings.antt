-- Steps that drain.
use Rattle.std.proofs.Common.{◌≡◌, List, [], ◌∷◌, ◌++◌, refl, ap, sym, ◌∙◌, subst, append_assoc, Result, Ok, Err, IfOk, OnErr}
use Rattle.std.proofs.lemmas.List.{append-nil}
use Rattle.gtid_set.specs.declared.fault.SetFault.{SetFault}
use Rattle.replica_core.specs.declared.event.Event.{Event}
use Rattle.replica_core.specs.declared.event.Reply.{Reply}
use Rattle.shared_replica.specs.declared.step.Step.{Step}
use Rattle.shared_replica.specs.History.{line}
use Rattle.shared_replica.specs.Closing.{ClosedValue}
use Rattle.applier.specs.Applies.{IsApply}
use Rattle.applier.specs.Draining.{Drains, AllApply}

pub drains_self : (b : ClosedValue) → Drains b b
drains_self b = record { opening = refl; more = []; steps = sym (append-nil b.steps); apply = tt; sheets = refl; counts = refl }

all_both : (xs ys : List Step) → AllApply xs → AllApply ys → AllApply (xs ++ ys)
all_both [] ys p q = q
all_both (x ∷ xs) ys p q = (p.0, all_both xs ys p.1 q)

pub drains_further : (a b c : ClosedValue) → Drains a b → Drains b c → Drains a c
drains_further a b c p q = record {
  opening = q.opening ∙ p.opening;
  more = p.more ++ q.more;
  steps = q.steps ∙ (ap (λ (l : List Step). l ++ q.more) p.steps ∙ append_assoc a.steps p.more q.more);
  apply = all_both p.more q.more p.apply q.apply;
  sheets = q.sheets ∙ p.sheets;
  counts = q.counts ∙ p.counts;
}

-- what a step of the book leaves, whatever its result
pub drains_call : (a b : ClosedValue) (e : Event) (o : Result Reply SetFault) → IsApply e
    → IfOk o (λ r. b ≡ record a { steps = a.steps ++ line e r ∷ []; now = b.now }) → OnErr o (b ≡ a) → Drains a b
drains_call a b e (Ok r) ok is same = record {
  opening = ap (λ (x : ClosedValue). x.opening) is;
  more = line e r ∷ [];
  steps = ap (λ (x : ClosedValue). x.steps) is;
  apply = (ok, tt);
  sheets = ap (λ (x : ClosedValue). x.sheets) is;
  counts = ap (λ (x : ClosedValue). x.counts) is;
}
drains_call a b e (Err f) ok is same = subst (λ (x : ClosedValue). Drains a x) (sym same) (drains_self a)
