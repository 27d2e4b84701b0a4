-- The lines of rows that are printed part by part.
use Rattle.std.proofs.Common.{◌≡◌, ◌++◌, ◌∷◌, [], List, ℕ, Bor, refl, sym, ap, ◌∙◌, append_assoc}
use Rattle.std.proofs.lemmas.Grind.{flat_map-append}
use Rattle.row_images.specs.declared.value.Value.{Value}
use Rattle.rows.specs.declared.change.Key.{Key}
use Rattle.rows.specs.declared.change.TableRow.{TableRow}
use Rattle.rows.specs.declared.schema.Table.{Table}
use Rattle.rows.specs.Listing.{all_shown, row_listed, rows_of}
use Rattle.gtid_report.specs.State.{row_line, rows_text}

abbrev Lent : Type 0
Lent = Bor Key × Bor (List Value)

rows_of-append : (front back : List (Key × List Value)) → rows_of (front ++ back) ≡ rows_of front ++ rows_of back
rows_of-append [] back = refl
rows_of-append (e ∷ front) back = ap (λ (rows : List TableRow). row_listed e ∷ rows) (rows_of-append front back)

shown-append : (front back : List Lent) → all_shown (front ++ back) ≡ all_shown front ++ all_shown back
shown-append [] back = refl
shown-append (r ∷ front) back = ap (λ (es : List (Key × List Value)). (r.0.now, r.1.now) ∷ es) (shown-append front back)

lines-append : (schema : List Table) (front back : List Lent) → rows_text schema (rows_of (all_shown (front ++ back))) ≡ rows_text schema (rows_of (all_shown front)) ++ rows_text schema (rows_of (all_shown back))
lines-append schema front back =
    ap (λ (es : List (Key × List Value)). rows_text schema (rows_of es)) (shown-append front back)
    ∙ ap (rows_text schema) (rows_of-append (all_shown front) (all_shown back))
    ∙ flat_map-append (row_line schema) (rows_of (all_shown front)) (rows_of (all_shown back))

-- the lines of two parts, one after the other
pub both_printed : (schema : List Table) (list front back : List Lent) (text all rest out : List ℕ) → list ≡ front ++ back → all ≡ text ++ rows_text schema (rows_of (all_shown front)) → rest ≡ rows_text schema (rows_of (all_shown back))
    → out ≡ all ++ rest → out ≡ text ++ rows_text schema (rows_of (all_shown list))
both_printed schema list front back text all rest out parts first second is =
    is
    ∙ (λ i. first i ++ second i)
    ∙ append_assoc text (rows_text schema (rows_of (all_shown front))) (rows_text schema (rows_of (all_shown back)))
    ∙ ap (λ (t : List ℕ). text ++ t) (sym (ap (λ (l : List Lent). rows_text schema (rows_of (all_shown l))) parts ∙ lines-append schema front back))
