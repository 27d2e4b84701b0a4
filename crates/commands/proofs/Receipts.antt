-- Each step has a receipt, and each receipt is of a take, a commit or a rollback.
use Rattle.std.proofs.Common.{◌≡◌, ℕ, ◌+◌, ◌<◌, List, [], ◌∷◌, ◌++◌, Some, length, slice_get, slice_index_or, zero, suc, refl, sym, ap, ◌∙◌, subst, arith}
use Rattle.std.proofs.lemmas.Option.{same_Some, slice_get_within, get_or_from_slice_get}
use Rattle.shared_replica.specs.declared.step.Step.{Step}
use Rattle.shared_replica.specs.declared.step.Receipt.{Receipt}
use Rattle.shared_replica.specs.Passes.{PassValue, fresh}
use Rattle.shared_replica.specs.Closing.{IsMerge}
use Rattle.applier.specs.Applies.{IsApply, AreApply, GoesOn}
use Rattle.applier.specs.Draining.{AllApply}

-- what holds of the step at each place holds of all
all_apply : (steps : List Step) → ((place : ℕ) (s : Step) → slice_get steps place ≡ Some s → IsApply s.event) → AllApply steps
all_apply [] each = tt
all_apply (s ∷ steps) each = (each 0 s refl, all_apply steps (λ place. each (suc place)))

apply_at : (more : List Receipt) (k : ℕ) (r : Receipt) → AreApply more → slice_get more k ≡ Some r → IsApply r.step.event
apply_at [] k r all at = absurd (cc)
apply_at (m ∷ more) zero r all at = subst (λ (x : Receipt). IsApply x.step.event) (same_Some m r at) all.0
apply_at (m ∷ more) (suc k) r all at = apply_at more k r all.1 at

-- a pass that began without a receipt and went on
own_apply : (old new p : PassValue) (seat k : ℕ) (r : Receipt) → old ≡ fresh seat → new ≡ p → GoesOn old new → slice_get p.receipts k ≡ Some r → IsApply r.step.event
own_apply old new p seat k r began is goes at =
    let more : p.receipts ≡ goes.more = ap (λ (x : PassValue). x.receipts) (sym is) ∙ goes.receipts ∙ ap (λ (x : PassValue). x.receipts ++ goes.more) began in
    apply_at goes.more k r goes.apply (ap (λ (l : List Receipt). slice_get l k) (sym more) ∙ at)

-- passes that began without a receipt and went on, and whose receipts are the steps
pub merged_apply : (old new : List PassValue) (steps : List Step) (seats : ℕ) → length old ≡ seats → length new ≡ length old
    → ((i : ℕ) (d : PassValue) → i < seats → slice_index_or old i d ≡ fresh (i + 1))
    → ((i : ℕ) (d : PassValue) → i < length old → GoesOn (slice_index_or old i d) (slice_index_or new i d)) → IsMerge new steps → AllApply steps
merged_apply old new steps seats count same began goes merge = all_apply steps (λ place s at.
    let covered = merge.covers place (slice_get_within steps place s at) in
    let i = covered.0 in
    let k = covered.1 in
    let r = covered.2 in
    let here = covered.3 in
    let p = here.0 in
    let is : r.step ≡ s = same_Some r.step s (sym (merge.stands i k r here) ∙ ap (λ (n : ℕ). slice_get steps n) covered.4 ∙ at) in
    let inside : i < length new = slice_get_within new i p here.1 in
    subst (λ (x : Step). IsApply x.event) is
    (own_apply (slice_index_or old i p) (slice_index_or new i p) p (i + 1) k r (began i p (omega (arith, count, same))) (get_or_from_slice_get new i p p here.1)
    (goes i p (omega (arith, same))) here.2))
