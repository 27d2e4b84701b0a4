-- Changes of tables without hidden columns are derived as they are.
use Rattle.std.proofs.Common.{◌≡◌, ℕ, Bool, true, false, ◌||◌, is_some, List, [], ◌∷◌, Option, Some, None, Ok, refl, sym, ap, ◌∙◌}
use Rattle.std.proofs.lemmas.List.{append-nil}
use Rattle.std.specs.Global.{Vec}
use Rattle.std.specs.List.{list_any}
use Rattle.row_images.specs.declared.value.Value.{Value}
use Rattle.rows.specs.Fits.{table_of}
use Rattle.rows.specs.declared.change.Change.{Change}
use Rattle.rows.specs.declared.change.Change.TheVariants.{Insert, Delete, Update}
use Rattle.derived_columns.specs.declared.column.DerivedColumn.{DerivedColumn}
use Rattle.derived_columns.specs.Columns.{table_columns}
use Rattle.derived_columns.specs.Each.{with_it, with_both}
use Rattle.derived_columns.specs.Images.{hidden_values, with_behind, derived_image}
use Rattle.derived_columns.specs.Entries.{derived_change, derived_changes}
use Rattle.derived_columns.specs.Tables.{Tables, lists_of, AreByTable}
use Rattle.derived_columns.proofs.Filed.{items_of}

neither : (p q : Bool) → (p || q) ≡ false → (p ≡ false) × (q ≡ false)
neither true q e = absurd cc
neither false q e = (refl, e)

nothing_there : (o : Option (Vec DerivedColumn)) → is_some o ≡ false → items_of o ≡ []
nothing_there None e = refl
nothing_there (Some v) e = absurd cc

image_alone : (columns : List DerivedColumn) (table : List ℕ) (image : List Value) → table_columns columns table ≡ [] → derived_image columns table image ≡ Ok image
image_alone columns table image e =
    ap (λ (cs : List DerivedColumn). with_behind image (hidden_values cs image)) e ∙ ap Ok (append-nil image)

change_alone : (columns : List DerivedColumn) (change : Change) → table_columns columns (table_of change) ≡ [] → derived_change columns change ≡ Ok change
change_alone columns (Insert table after) e = ap (with_it (Insert table)) (image_alone columns table after e)
change_alone columns (Delete table before) e = ap (with_it (Delete table)) (image_alone columns table before e)
change_alone columns (Update table before after) e =
    λ i. with_both (Update table) (image_alone columns table before e i) (image_alone columns table after e i)

pub untouched : (columns : List DerivedColumn) (tables : Tables) (changes : List Change) → AreByTable columns tables
    → list_any (λ change. is_some (lists_of tables (table_of change))) changes ≡ false → derived_changes columns changes ≡ Ok changes
untouched columns tables [] filed e = refl
untouched columns tables (change ∷ changes) filed e =
    let p = neither (is_some (lists_of tables (table_of change))) _ e in
    let here = sym (filed (table_of change)) ∙ nothing_there (lists_of tables (table_of change)) p.0 in
    λ i. with_both (λ y ys. y ∷ ys) (change_alone columns change here i) (untouched columns tables changes filed p.1 i)
