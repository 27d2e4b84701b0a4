-- What is answered where the verdict is not Sound.
use Rattle.std.proofs.Common.{◌≡◌, ℕ, refl, sym, ap, subst, ◌∙◌}
use Rattle.std.specs.Prelude.{List, Result}
use Rattle.rows.specs.declared.change.RowFault.{RowFault}
use Rattle.rows.specs.declared.schema.Table.{Table}
use Rattle.rows.specs.Apply.{Rows}
use Rattle.gtid_set.specs.Sets.{Gtids}
use Rattle.world.specs.declared.verdict.Verdict.{Verdict}
use Rattle.world.specs.declared.verdict.Verdict.TheVariants.{Unequal, Purged, Missing, Shared, Reordered, Concurrent, NotClosed, DoesNotApply, Sound}
use Rattle.txn_journal.specs.BundleStates.{BundleValue}
use Rattle.txn_journal.specs.declared.assumptions.Assumption.{Assumption}
use Rattle.gtid_report.specs.Assumed.{assumed}
use Rattle.serving.specs.declared.order.Order.{Order}
use Rattle.serving.specs.Verdicts.{IsUnsound, keys_over}
use Rattle.commands.specs.Printed.{Holds}
use Rattle.commands.specs.Verdicts.{printed_verdict}
use Rattle.commands.specs.Unapplied.{verdict_or_no_rows, unapplied}
use Rattle.commands.specs.Bundles.{state_or_verdict, applied_answer, union_of_journals, rows_of_union}
use Rattle.commands.specs.declared.answer.Answer.{Answer}

-- any other verdict is reported as it is
verdict_is_said : (said : List Assumption) (schema : List Table) (v : Verdict) (executed : Gtids) (rows : Result Rows RowFault) → (v ≡ Sound → ⊥) → state_or_verdict said schema v executed rows ≡ printed_verdict said v
verdict_is_said said schema Sound executed rows isnt = absurd (isnt refl)
verdict_is_said said schema (Unequal g) executed rows isnt = refl
verdict_is_said said schema (Purged i gtids) executed rows isnt = refl
verdict_is_said said schema (Missing g) executed rows isnt = refl
verdict_is_said said schema (Shared g h key) executed rows isnt = refl
verdict_is_said said schema (Reordered g h key) executed rows isnt = refl
verdict_is_said said schema (Concurrent g h key) executed rows isnt = refl
verdict_is_said said schema (NotClosed g h) executed rows isnt = refl
verdict_is_said said schema (DoesNotApply g fault) executed rows isnt = refl

-- the line of a verdict that is not Sound is what applying is answered with
pub verdict_applied : (order : Order) (b : BundleValue) (v : Verdict) (answer : Answer) → IsUnsound order b v → Holds answer (printed_verdict (assumed b) v) → Holds answer (applied_answer order b)
verdict_applied order b v answer unsound holds =
    subst (λ (w : Verdict). Holds answer (state_or_verdict (assumed b) b.start.schema w (union_of_journals b) (rows_of_union order b))) unsound.0
    (subst (Holds answer) (sym (verdict_is_said (assumed b) b.start.schema v (union_of_journals b) (rows_of_union order b) unsound.1)) holds)

keys_are_said : (said : List Assumption) (v : Verdict) (line : ℕ) → (v ≡ Sound → ⊥) → verdict_or_no_rows said v line ≡ printed_verdict said v
keys_are_said said Sound line isnt = absurd (isnt refl)
keys_are_said said (Unequal g) line isnt = refl
keys_are_said said (Purged i gtids) line isnt = refl
keys_are_said said (Missing g) line isnt = refl
keys_are_said said (Shared g h key) line isnt = refl
keys_are_said said (Reordered g h key) line isnt = refl
keys_are_said said (Concurrent g h key) line isnt = refl
keys_are_said said (NotClosed g h) line isnt = refl
keys_are_said said (DoesNotApply g fault) line isnt = refl

-- so is the line of a verdict on keys, where the opening rows aren't known
pub keys_answered : (order : Order) (b : BundleValue) (v : Verdict) (line : ℕ) (answer : Answer) → (v ≡ Sound → ⊥) → v ≡ keys_over order b → Holds answer (printed_verdict (assumed b) v) → Holds answer (unapplied order line b)
keys_answered order b v line answer isnt is holds =
    let e : printed_verdict (assumed b) v ≡ unapplied order line b = sym (keys_are_said (assumed b) v line isnt) ∙ ap (λ (w : Verdict). verdict_or_no_rows (assumed b) w line) is in
    subst (Holds answer) e holds
