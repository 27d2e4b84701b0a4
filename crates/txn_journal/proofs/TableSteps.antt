-- The words of a table's line, step by step.
use Rattle.std.proofs.Common.{◌≡◌, ℕ, ◌<◌, inl, inr, true, false, cond, eqb, List, [], ◌∷◌, ◌++◌, length, arith, Option, Some, None, Result, Ok, Err, refl, sym, ap, ◌∙◌, append_assoc}
use Rattle.std.specs.Prelude.{is_some}
use Rattle.std.proofs.lemmas.Option.{same_Some}
use Rattle.gtid_text.proofs.Turns.{chosen}
use Rattle.rows.specs.Apply.{Rows, apply}
use Rattle.rows.specs.Fits.{misfit}
use Rattle.rows.specs.Database.{Database, opening}
use Rattle.rows.specs.declared.change.TableRow.{TableRow}
use Rattle.rows.specs.declared.change.NotInSchema.{NotInSchema}
use Rattle.rows.specs.declared.change.ApplyFault.{ApplyFault}
use Rattle.rows.specs.declared.change.RowFault.{RowFault}
use Rattle.row_images.specs.Parts.{before, behind, parts_of}
use Rattle.txn_journal.specs.BundleStates.{with_opening, ok_rows}
use Rattle.txn_journal.specs.declared.fault.Cause.TheVariants as causes
use Rattle.row_images.proofs.PartLaws.{parts_cut, more_parts}

-- ---- parts

-- what follows a separator is shorter than the text
pub behind-shorter : (separator : ℕ) (text rest : List ℕ) → behind separator text ≡ Some rest → length rest < length text
behind-shorter separator [] rest e = absurd cc
behind-shorter separator (b ∷ bs) rest e = elim (chosen (eqb b separator) (Some bs) (behind separator bs) (Some rest) e) [
  | inl p ↦ let k = ap (λ (x : List ℕ). length x) (same_Some bs rest p.1) in omega arith
  | inr p ↦ let k = behind-shorter separator bs rest p.1 in omega arith
]

pub last_part : (all done : List (List ℕ)) (c : ℕ) (left w : List ℕ) (m : Option (List ℕ)) → all ≡ done ++ parts_of c left → w ≡ before c left → m ≡ behind c left → m ≡ None → done ++ w ∷ [] ≡ all
last_part all done c left w m so_far word rest none =
    sym (so_far ∙ ap (λ (t : List (List ℕ)). done ++ t) (parts_cut c left ∙ (λ i. sym word i ∷ more_parts c ((sym rest ∙ none) i))))

pub next_part : (all done : List (List ℕ)) (c : ℕ) (left w r : List ℕ) (m : Option (List ℕ)) → all ≡ done ++ parts_of c left → w ≡ before c left → m ≡ behind c left → m ≡ Some r → all ≡ (done ++ w ∷ []) ++ parts_of c r
next_part all done c left w r m so_far word rest some =
    so_far ∙ ap (λ (t : List (List ℕ)). done ++ t) (parts_cut c left ∙ (λ i. sym word i ∷ more_parts c ((sym rest ∙ some) i))) ∙ sym (append_assoc done (w ∷ []) (parts_of c r))

-- ---- opening rows

pub row_put : (d : Database) (r : TableRow) (rows : Rows) → misfit d.schema (opening r.table r.row) ≡ None → apply d.schema (opening r.table r.row) d.rows ≡ Ok rows → with_opening d r ≡ Ok rows
unfolding with_opening
row_put d r rows fits e = rw (fits, e) refl

pub row_misfits : (d : Database) (r : TableRow) (cause : NotInSchema) → misfit d.schema (opening r.table r.row) ≡ Some cause → with_opening d r ≡ Err causes.Schema
unfolding with_opening
row_misfits d r cause e = rw e refl

pub row_refused : (d : Database) (r : TableRow) (fault : RowFault) → apply d.schema (opening r.table r.row) d.rows ≡ Err fault → with_opening d r ≡ Err causes.Schema
unfolding with_opening
row_refused d r fault e = rw e (elim (is_some (misfit d.schema (opening r.table r.row))) as (λ b. cond b (Err causes.Schema) (ok_rows (Err fault)) ≡ Err causes.Schema) [ true ↦ refl | false ↦ refl ])

-- what a row that is not put answers
abbrev pub put_fails : ApplyFault → Result (Unit {0}) ApplyFault
put_fails fault = Err fault
