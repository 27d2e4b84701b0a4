-- The reference of a line: it names what is there, or no such reference may be.
use Rattle.std.proofs.Common.{◌≡◌, ℕ, zero, suc, ◌<◌, ◌≤◌, true, false, cond, eqb, List, [], ◌∷◌, ◌++◌, length, Option, Some, None, Ok, Err, refl, sym, ap, subst, ◌∙◌, arith}
use Rattle.std.specs.Prelude.{MatchResult, slice_get}
use Rattle.std.specs.Ordering.{nat_cmp, eq_by_cmp}
use Rattle.std.specs.Cmp.Lexicographic.{slice_cmp}
use Rattle.std.proofs.lemmas.Bool.{eqb-true, eq-eqb}
use Rattle.std.proofs.lemmas.Option.{same_Some}
use Rattle.std.proofs.lemmas.Result.{MatchResult-weaker}
use Rattle.rows.specs.declared.limits.Limits.{Limits}
use Rattle.rows.specs.declared.schema.Table.{Table}
use Rattle.rows.specs.Keys.{find_table}
use Rattle.row_images.specs.Words.{count_of}
use Rattle.txn_journal.specs.Versions.{IsWide}
use Rattle.txn_journal.specs.Shapes.{columns_in}
use Rattle.txn_journal.specs.References.{ReferenceShape, FitsReference, some_or_schema, table_named, keys_of_table, with_width, key_numbered, reference_to, reference_shape, IsReference}
use Rattle.txn_journal.specs.BundleText.{AreAdded}
use Rattle.txn_journal.specs.BundleCauses.{RefersWrongly}
use Rattle.txn_journal.specs.declared.references.Reference.{Reference}
use Rattle.txn_journal.specs.declared.fault.Cause.{Cause}
use Rattle.txn_journal.proofs.Judged.{then_both, if_both, known_both, IsSchema}
use Rattle.txn_journal.proofs.ShapeLaws.{ColumnsFound, columns_both, columns_again, columns_fit, allowed, bounds_of, uniques_of, number_again, number_found}

-- ---- the reference is found

named_both : (o : Option Table) → MatchResult (some_or_schema o) (λ t. o ≡ Some t) IsSchema
named_both None = tt
named_both (Some t) = refl

record KeyFound (keys : List (List ℕ)) (o : Option ℕ) (k : ℕ × ℕ) : Type 0 where
  key : List ℕ
  written : o ≡ Some k.0
  has : slice_get keys k.0 ≡ Some key
  width : k.1 ≡ length key

key_both : (keys : List (List ℕ)) (o : Option ℕ) → MatchResult (key_numbered keys o) (KeyFound keys o) IsSchema
key_both keys None = tt
key_both keys (Some n) = of (slice_get keys n) refl
  where
    of : (o : Option (List ℕ)) → slice_get keys n ≡ o → MatchResult (with_width n o) (KeyFound keys (Some n)) IsSchema
    of None e = tt
    of (Some key) e = record { key = key; written = refl; has = e; width = refl }

pub record ReferenceMade (limits : Limits) (tables : List Table) (s : ReferenceShape) (r : Reference) : Type 0 where
  pub shape : s ≡ reference_shape r
  pub is : IsReference limits tables r

made : (limits : Limits) (tables : List Table) (s : ReferenceShape) (child parent : Table) (columns : List ℕ) (k : ℕ × ℕ) → IsWide limits → FitsReference limits s → find_table s.child tables ≡ Some child → find_table s.parent tables ≡ Some parent
    → ColumnsFound child.columns s.columns columns → KeyFound (keys_of_table parent) (count_of s.key) k → length columns ≡ k.1 → ReferenceMade limits tables s (record { child = s.child; columns = columns; parent = s.parent; key = k.0; cascade = s.cascade })
made limits tables s child parent columns k wide f has_child has_parent c found same = record {
  shape = (λ i. record { child = s.child; columns = c.spelt i; parent = s.parent; key = number_found s.key k.0 found.written i; cascade = s.cascade });
  is = record {
    wide = wide;
    child_name = f.child;
    parent_name = f.parent;
    child = child;
    parent = parent;
    key = found.key;
    has_child = has_child;
    has_parent = has_parent;
    columns = c.list;
    below = c.below;
    has_key = found.has;
    as_many = same ∙ found.width;
  };
}

to_both : (limits : Limits) (tables : List Table) (s : ReferenceShape) → IsWide limits → FitsReference limits s → MatchResult (reference_to tables s) (ReferenceMade limits tables s) IsSchema
unfolding reference_to
to_both limits tables s wide f =
    then_both _ _ (table_named tables s.child) _ (named_both (find_table s.child tables)) (λ child has_child.
    then_both _ _ (table_named tables s.parent) _ (named_both (find_table s.parent tables)) (λ parent has_parent.
    then_both _ _ (columns_in child.columns s.columns) _ (columns_both child.columns s.columns f.columns) (λ columns c.
    then_both _ _ (key_numbered (keys_of_table parent) (count_of s.key)) _ (key_both (keys_of_table parent) (count_of s.key)) (λ k found.
    if_both _ _ (eqb (length columns) k.1) _ _ (λ same. made limits tables s child parent columns k wide f has_child has_parent c found (eqb-true (length columns) k.1 same)) (λ no. tt)))))

-- ---- it is found again

-- a table that is found is within the limits
found_few : (limits : Limits) (before tables : List Table) (name : List ℕ) (t : Table) → AreAdded limits before tables → find_table name tables ≡ Some t → (t.columns ≤ 4096) × (length t.uniques ≤ 64)
found_few limits before [] name t h e = absurd cc
found_few limits before (u ∷ us) name t h e = elim (eq_by_cmp (slice_cmp nat_cmp) name u.name) as (λ b. cond b (Some u) (find_table name us) ≡ Some t → (t.columns ≤ 4096) × (length t.uniques ≤ 64)) [
  | true ↦ λ is. subst (λ (x : Table). (x.columns ≤ 4096) × (length x.uniques ≤ 64)) (same_Some u t is) (bounds_of limits before u h.0 (allowed before u h.1), uniques_of limits before u h.0 (allowed before u h.1))
  | false ↦ λ is. found_few limits (before ++ u ∷ []) us name t h.2 is
] e

key_within : (keys : List (List ℕ)) (k : ℕ) (key : List ℕ) → slice_get keys k ≡ Some key → k < length keys
key_within [] k key e = absurd cc
key_within (x ∷ xs) zero key e = omega arith
key_within (x ∷ xs) (suc k) key e = let h = key_within xs k key e in omega (arith, h)

-- the words of its line are in the grammar
pub shape_fits_reference : (limits : Limits) (tables : List Table) (r : Reference) → AreAdded limits [] tables → IsReference limits tables r → FitsReference limits (reference_shape r)
shape_fits_reference limits tables r added h =
    let child = found_few limits [] tables r.child h.child added h.has_child in
    let parent = found_few limits [] tables r.parent h.parent added h.has_parent in
    let within = key_within (keys_of_table h.parent) r.key h.key h.has_key in
    record { child = h.child_name; columns = columns_fit h.child.columns r.columns child.0 h.below h.columns; parent = h.parent_name; key = (number_again r.key (omega (arith, within, parent.1))).0 }

pub to_again : (limits : Limits) (tables : List Table) (r : Reference) → AreAdded limits [] tables → IsReference limits tables r → reference_to tables (reference_shape r) ≡ Ok r
unfolding reference_to
to_again limits tables r added h =
    let child = found_few limits [] tables r.child h.child added h.has_child in
    let parent = found_few limits [] tables r.parent h.parent added h.has_parent in
    let within = key_within (keys_of_table h.parent) r.key h.key h.has_key in
    rw (h.has_child, h.has_parent, columns_again h.child.columns r.columns child.0 h.below h.columns, (number_again r.key (omega (arith, within, parent.1))).1, h.has_key, eq-eqb (length r.columns) (length h.key) h.as_many) refl

-- ---- the reference of a line, or none may be there

wrongly : (limits : Limits) (tables : List Table) (s : ReferenceShape) (c : Cause) → AreAdded limits [] tables → reference_to tables s ≡ Err c → RefersWrongly limits tables s
wrongly limits tables s c added e = λ r is same. absurd (let k = sym (ap (reference_to tables) same ∙ to_again limits tables r added is) ∙ e in cc)

pub refers_both : (limits : Limits) (tables : List Table) (s : ReferenceShape) → IsWide limits → AreAdded limits [] tables → FitsReference limits s → MatchResult (reference_to tables s) (ReferenceMade limits tables s) (λ c. IsSchema c × RefersWrongly limits tables s)
refers_both limits tables s wide added f = MatchResult-weaker (reference_to tables s) (known_both (reference_to tables s) (ReferenceMade limits tables s) IsSchema (to_both limits tables s wide f)) (λ r k. k.1) (λ c k. (k.1, wrongly limits tables s c added k.0))
