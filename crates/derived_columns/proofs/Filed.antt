-- Columns under the names of their tables.
use Rattle.std.proofs.Common.{◌≡◌, ℕ, Bool, true, false, cond, List, [], ◌∷◌, ◌++◌, Option, Some, None, refl, sym, ap, ◌∙◌}
use Rattle.std.proofs.lemmas.List.{append-nil}
use Rattle.std.specs.Global.{Vec}
use Rattle.std.specs.Option.{option_map_or}
use Rattle.std.specs.Ordering.{nat_cmp, eq_by_cmp}
use Rattle.std.specs.Cmp.Lexicographic.{slice_cmp}
use Rattle.std.specs.Str.{bytes_eq}
use Rattle.std.proofs.lemmas.Slice.Eq.{bytes_eq-Decides}
use Rattle.std.proofs.lemmas.Map.Text.{is_eq-slice_cmp}
use Rattle.derived_columns.specs.declared.column.DerivedColumn.{DerivedColumn}
use Rattle.derived_columns.specs.Columns.{table_with}

abbrev pub items_of : Option (Vec DerivedColumn) → List DerivedColumn
items_of o = option_map_or (λ columns. columns.items) o []

abbrev pub same_name : List ℕ → List ℕ → Bool
same_name a b = eq_by_cmp (slice_cmp nat_cmp) a b

left_where : (b : Bool) (o : Option (Vec DerivedColumn)) → items_of (cond b None o) ≡ cond b [] (items_of o)
left_where true o = refl
left_where false o = refl

-- a table that is taken out has no columns there
pub left_out : (a t : List ℕ) (before after : Option (Vec DerivedColumn)) → after ≡ cond (same_name a t) None before → items_of after ≡ cond (bytes_eq a t) [] (items_of before)
left_out a t before after e = ap items_of e ∙ left_where (same_name a t) before ∙ ap (λ b. cond b [] (items_of before)) (is_eq-slice_cmp a t)

put_where : (b : Bool) (columns : Vec DerivedColumn) (c : DerivedColumn) (here old : List DerivedColumn) (mid : Option (Vec DerivedColumn)) → (b ≡ true → here ≡ old)
    → items_of mid ≡ cond b [] old → columns.items ≡ here ++ c ∷ [] → items_of (cond b (Some columns) mid) ≡ old ++ cond b (c ∷ []) []
put_where true columns c here old mid same left is = is ∙ ap (λ l. l ++ c ∷ []) (same refl)
put_where false columns c here old mid same left is = left ∙ sym (append-nil old)

-- one whose columns come back with one more behind has it
pub put_back : (before : List ℕ → List DerivedColumn) (key : List ℕ) (columns : Vec DerivedColumn) (c : DerivedColumn) (t : List ℕ) (mid after : Option (Vec DerivedColumn))
    → key ≡ table_with c → items_of mid ≡ cond (bytes_eq key t) [] (before t) → columns.items ≡ before key ++ c ∷ [] → after ≡ cond (same_name key t) (Some columns) mid
    → items_of after ≡ before t ++ cond (bytes_eq (table_with c) t) (c ∷ []) []
put_back before key columns c t mid after named left is e =
    ap items_of e
    ∙ ap (λ b. items_of (cond b (Some columns) mid)) (is_eq-slice_cmp key t)
    ∙ put_where (bytes_eq key t) columns c (before key) (before t) mid (λ same. ap before ((bytes_eq-Decides key t).0 same)) left is
    ∙ ap (λ k. before t ++ cond (bytes_eq k t) (c ∷ []) []) named
