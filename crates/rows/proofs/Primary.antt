-- The rows under primary keys.
use Rattle.std.proofs.Common.{◌≡◌, true, false, ◌==◌, if◌then◌else◌, cond, List, [], ◌∷◌, None, refl, ap, sym, ◌∙◌}
use Rattle.std.specs.FinMap.{entries, entries_sorted, get-entries, retain_keys, get-retain_keys}
use Rattle.std.specs.FinMap.Entries.{where_key, same_entries, is_sorted-where_key, find-where_key}
use Rattle.std.specs.declared.cmp.Ordering.TheVariants.{Equal}
use Rattle.row_images.specs.declared.value.Value.{Value}
use Rattle.rows.specs.declared.change.Key.{Key}
use Rattle.rows.specs.Apply.{Rows}
use Rattle.rows.specs.Listing.{is_primary, row_listed, rows_of, primary_rows}
use Rattle.rows.specs.Order.{key_cmp}
use Rattle.rows.specs.Total.{key_total, key_exact}

pub alike : (q x : Key) → key_cmp q x ≡ Equal → is_primary x ≡ is_primary q
alike q x e = ap is_primary (sym (key_exact q x e))

entries-retained : (rows : Rows) → entries (retain_keys rows is_primary) ≡ where_key key_cmp is_primary (entries rows)
entries-retained rows =
    same_entries key_cmp key_total key_exact (entries (retain_keys rows is_primary)) (where_key key_cmp is_primary (entries rows))
    (entries_sorted (retain_keys rows is_primary)) (is_sorted-where_key key_cmp is_primary (entries rows) (entries_sorted rows))
    (λ q. sym (get-entries (retain_keys rows is_primary) q) ∙ get-retain_keys rows is_primary q (alike q)
    ∙ ap (λ o. cond (is_primary q) o None) (get-entries rows q) ∙ sym (find-where_key key_cmp is_primary q (alike q) (entries rows)))

listed-where : (es : List (Key × List Value)) → rows_of (where_key key_cmp is_primary es) ≡ primary_rows es
listed-where [] = refl
listed-where (e ∷ es) = elim (e.0.index == 0) as (λ b. rows_of (cond b (e ∷ where_key key_cmp is_primary es) (where_key key_cmp is_primary es)) ≡ (if b then row_listed e ∷ primary_rows es else primary_rows es)) [
  | true ↦ ap (λ l. row_listed e ∷ l) (listed-where es)
  | false ↦ listed-where es
]

pub rows-retained : (rows : Rows) → rows_of (entries (retain_keys rows is_primary)) ≡ primary_rows (entries rows)
rows-retained rows = ap rows_of (entries-retained rows) ∙ listed-where (entries rows)
