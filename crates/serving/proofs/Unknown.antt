-- Where the keys are sound, only the application of transactions is left to be found.
use Rattle.std.proofs.Common.{◌≡◌, ℕ, zero, suc, List, [], ◌∷◌, Option, Some, None, refl, sym, subst}
use Rattle.std.specs.Option.{option_map, unwrap_or}
use Rattle.std.specs.FinMap as finmap
use Rattle.gtid_text.specs.declared.Gtid.{Gtid}
use Rattle.rows.specs.declared.change.RowFault.{RowFault}
use Rattle.rows.specs.Apply.{Rows}
use Rattle.history.specs.Sources.{of_source, entries_in}
use Rattle.history.specs.Sources as history
use Rattle.world.specs.declared.verdict.Verdict.{Verdict}
use Rattle.world.specs.declared.verdict.Verdict.TheVariants.{DoesNotApply, Sound}
use Rattle.world.specs.Search.{or_next, first_at}
use Rattle.world.specs.Audit.{first_fault, found_in_keys, does_not_apply}
use Rattle.world.specs.AuditInOrder as in_order
use Rattle.txn_journal.specs.BundleStates.{BundleValue}
use Rattle.serving.specs.declared.order.Order.TheVariants.{BySource, ByConflict}
use Rattle.serving.specs.Verdicts.{world_over}
use Rattle.serving.specs.Unknown.{over_rows, IsSoundOrUnapplied, KeysSettle}

either : {B : Type 0} (P : B → Type 0) (o p : Option B) → ((v : B) → o ≡ Some v → P v) → ((v : B) → p ≡ Some v → P v) → (v : B) → or_next o p ≡ Some v → P v
either P (Some w) p a b v e = a v e
either P None p a b v e = b v e

found_at : {A B : Type 0} (P : B → Type 0) (f : ℕ → A → Option B) (xs : List A) → ((i : ℕ) (x : A) (v : B) → f i x ≡ Some v → P v) → (v : B) → first_at f xs ≡ Some v → P v
found_at P f [] each v e = absurd cc
found_at P f (x ∷ xs) each v e = either P (f zero x) (first_at (λ i. f (suc i)) xs) (each zero x) (found_at P (λ i. f (suc i)) xs (λ i. each (suc i))) v e

fails : (o : Option (Gtid × RowFault)) (v : Verdict) → option_map (λ fault. DoesNotApply fault.0 fault.1) o ≡ Some v → IsSoundOrUnapplied v
fails None v e = absurd cc
fails (Some x) v e = let k : DoesNotApply x.0 x.1 ≡ v = cc in subst IsSoundOrUnapplied k tt

settled : (o p : Option Verdict) → ((v : Verdict) → p ≡ Some v → IsSoundOrUnapplied v) → unwrap_or o Sound ≡ Sound → IsSoundOrUnapplied (unwrap_or (or_next o p) Sound)
settled None None h e = tt
settled None (Some v) h e = h v refl
settled (Some v) p h e = subst IsSoundOrUnapplied (sym e) tt

pub keys_settle : KeysSettle
keys_settle BySource b rows sound =
    let w = world_over (over_rows b rows) in
    settled (found_in_keys w b.journals) (does_not_apply w)
    (found_at IsSoundOrUnapplied _ (finmap.entries w.contents) (λ i (e : history.Entry) v. fails (first_fault w.schema (entries_in w (of_source e.0.source)) w.opening_rows) v))
    sound
keys_settle ByConflict b rows sound =
    let w = world_over (over_rows b rows) in
    settled (in_order.found_in_keys_in_order w b.journals) (in_order.fails_in_order w b.journals) (λ v. fails _ v) sound
