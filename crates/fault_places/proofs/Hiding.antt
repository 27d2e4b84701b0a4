-- Lines of tables that hide no column.
use Rattle.std.proofs.Common.{◌≡◌, ℕ, ◌-◌, Bool, true, false, cond, List, [], ◌∷◌, Option, Some, None, refl, sym, ap, arith}
use Rattle.std.specs.Prelude.{◌==◌, nat_lt}
use Rattle.std.specs.Ordering.{nat_cmp, eq_by_cmp}
use Rattle.std.specs.Cmp.Lexicographic.{slice_cmp}
use Rattle.std.proofs.lemmas.Bool.{or_parts}
use Rattle.std.proofs.lemmas.Bool.Decides.{nat_tests}
use Rattle.rows.specs.declared.schema.Table.{Table}
use Rattle.rows.specs.Keys.{find_table}
use Rattle.gtid_report.specs.State.{hides_columns}
use Rattle.fault_places.specs.Lines.{second_word}
use Rattle.fault_places.specs.HiddenValues.{shown_columns, shown_line, without_hidden}

-- where no table hides a column, all columns of each are shown
all_shown : (name : List ℕ) (tables : List Table) → hides_columns tables ≡ false → shown_columns (find_table name tables) ≡ None
all_shown name [] none = refl
all_shown name (t ∷ tables) none =
    let parts = or_parts (nat_lt 0 t.hidden) (hides_columns tables) none in
    elim (eq_by_cmp (slice_cmp nat_cmp) name t.name) as (λ b. shown_columns (cond b (Some t) (find_table name tables)) ≡ None) [
      | true ↦ ap (λ (b : Bool). cond b None (Some (t.columns - t.hidden))) (let e : (t.hidden == 0) ≡ true = grind (arith, nat_tests, parts.0) in e)
      | false ↦ all_shown name tables parts.1
    ]

pub as_it_stands : (tables : List Table) (line : List ℕ) → hides_columns tables ≡ false → line ≡ without_hidden tables line
as_it_stands tables line none = ap (λ (o : Option ℕ). shown_line o line) (sym (all_shown (second_word line) tables none))
