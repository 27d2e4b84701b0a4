use Rattle.std.proofs.Common.{refl, sym, subst, ap, ◌∙◌}
use Rattle.rows.specs.Database.{Database}
use Rattle.rows.specs.declared.change.TableRow.{TableRow}
use Rattle.txn_journal.specs.Stream.{TakesPart}
use Rattle.txn_journal.specs.BundleStates.{BundleValue, with_opening}
use Rattle.txn_journal.proofs.TableSteps.{row_put, row_misfits, row_refused, put_fails}
use Rattle.txn_journal.proofs.open_bundle.OpenBundle.put.Goals.{in-Ok, in-Err-Memory, in-Err-NotInSchema, in-Err-Row}
use Rattle.txn_journal.proofs.open_bundle.OpenBundle.put.Goals as goal

pub returns-clause-rows : goal.returns-clause-rows
returns-clause-rows c =
    let d : Database = c.self.inside.rows in
    let r : TableRow = record { table = c.args.table.now; row = c.args.row.now } in
    subst (λ (x : Database). TakesPart c.match-put.result (with_opening x r) c.put.new.self.rows) (ap (λ (b : BundleValue). b.start) c.self.view_is) (elim c.match-put.branch [
      | in-Ok w ↦ subst (λ x. TakesPart x (with_opening d r) c.put.new.self.rows) (sym w.result-is) (row_put d r c.put.new.self.rows w.in-Ok.ensures.fits w.in-Ok.ensures.ok)
      | in-Err-Memory w ↦ subst (λ x. TakesPart x (with_opening d r) c.put.new.self.rows) (sym w.result-is) refl
      | in-Err-NotInSchema w ↦ subst (λ x. TakesPart x (with_opening d r) c.put.new.self.rows) (sym w.result-is) (row_misfits d r _ (c.put.ensures.not_in_schema _ (w.in-Err-NotInSchema.is ∙ ap put_fails w.in-Err-NotInSchema.field-0-is)))
      | in-Err-Row w ↦ subst (λ x. TakesPart x (with_opening d r) c.put.new.self.rows) (sym w.result-is) (row_refused d r _ (c.put.ensures.refused _ (w.in-Err-Row.is ∙ ap put_fails w.in-Err-Row.field-0-is)))
    ])
