-- The first of an order that does not apply.
use Rattle.std.proofs.Common.{◌≡◌, ℕ, suc, ◌+◌, List, ◌∷◌, drop, Option, Some, Result, Ok, Err, sym, ap, ◌∙◌, arith}
use Rattle.std.specs.Prelude.{slice_get}
use Rattle.std.specs.Option.{option_map}
use Rattle.std.proofs.Math.Seq.{drop-cons}
use Rattle.std.proofs.lemmas.Option.{get_or_from_slice_get, slice_get_within}
use Rattle.gtid_text.specs.declared.Gtid.{Gtid}
use Rattle.rows.specs.declared.change.RowFault.{RowFault}
use Rattle.rows.specs.declared.change.Transaction.{Transaction}
use Rattle.rows.specs.declared.schema.Table.{Table}
use Rattle.rows.specs.Apply.{Rows, apply}
use Rattle.world.specs.declared.verdict.Verdict.{Verdict}
use Rattle.world.specs.declared.verdict.Verdict.TheVariants.{DoesNotApply}
use Rattle.world.specs.Audit.{fault_after, first_fault}
use Rattle.history.specs.World.{Entry}
use Rattle.audit.specs.Applying.{refusal}

drop_at : (es : List Entry) (i : ℕ) (e : Entry) → slice_get es i ≡ Some e → drop i es ≡ e ∷ drop (i + 1) es
drop_at es i e at =
    let next : suc i ≡ i + 1 = omega arith in
    drop-cons es i e (slice_get_within es i e at) ∙ (λ j. get_or_from_slice_get es i e e at j ∷ drop (next j) es)

abbrev said : Option (Gtid × RowFault) → Option Verdict
said o = option_map (λ fault. DoesNotApply fault.0 fault.1) o

module _ (schema : List Table) (es : List Entry) (place : ℕ) (g : Gtid) (t : Transaction) (rows : Rows) (at : slice_get es place ≡ Some (g, t)) where
  first_at_place : first_fault schema (drop place es) rows ≡ fault_after (g, t) (apply schema t rows) (first_fault schema (drop (place + 1) es))
  first_at_place = ap (λ (xs : List Entry). first_fault schema xs rows) (drop_at es place (g, t) at)

  refused_by : (r : Result Rows RowFault) (more : Rows → Option (Gtid × RowFault)) (v : Verdict) → Some v ≡ refusal g r → Some v ≡ said (fault_after (g, t) r more)
  refused_by (Ok new) more v e = cc
  refused_by (Err fault) more v e = e

  -- it is refused
  pub refused : (v : Verdict) → Some v ≡ refusal g (apply schema t rows) → Some v ≡ said (first_fault schema (drop place es) rows)
  refused v e = refused_by (apply schema t rows) (first_fault schema (drop (place + 1) es)) v e ∙ ap said (sym first_at_place)

  -- it applies
  pub applied : (new : Rows) → apply schema t rows ≡ Ok new → first_fault schema (drop (place + 1) es) new ≡ first_fault schema (drop place es) rows
  applied new e = sym (first_at_place ∙ ap (λ r. fault_after (g, t) r (first_fault schema (drop (place + 1) es))) e)
