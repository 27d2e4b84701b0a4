-- Which images can be written.
use Rattle.std.proofs.Common.{◌≡◌, ℕ, Bool, true, false, not, ◌&&◌, leb, ltb, List, [], ◌∷◌, length, refl, ◌∙◌, arith}
use Rattle.std.specs.Prelude.{◌||◌}
use Rattle.std.specs.List.{list_all, list_any}
use Rattle.std.proofs.lemmas.Bool.{and_parts, and_from}
use Rattle.std.proofs.lemmas.Bool.Decides.{nat_tests}
use Rattle.row_images.specs.declared.value.Value.{Value}
use Rattle.row_images.specs.declared.value.Value.TheVariants.{Null, Int, Bytes}
use Rattle.row_images.specs.Values.{is_longer}
use Rattle.rows.specs.declared.change.Change.{Change}
use Rattle.rows.specs.declared.change.Change.TheVariants.{Insert, Delete, Update}
use Rattle.rows.specs.declared.limits.Limits.{Limits}
use Rattle.rows.specs.declared.limits.Limits.TheVariants.{Narrow, Wide}
use Rattle.rows.specs.Limits.{most_bytes}
use Rattle.journal.specs.declared.Entry.{Entry}
use Rattle.journal.specs.Writing.{is_number, is_value_writable, is_image_writable, is_change_writable, is_txn_writable, is_writable}

not_more : (most n : ℕ) → not (ltb most n) ≡ leb n most
not_more most n = grind (arith, nat_tests)

value_writable : (limits : Limits) (v : Value) → not (is_longer (most_bytes limits) v) ≡ is_value_writable limits v
value_writable limits Null = refl
value_writable limits (Int n) = refl
value_writable limits (Bytes bytes) = not_more (most_bytes limits) (length bytes)

neither : (a b : Bool) → not (a || b) ≡ (not a && not b)
neither true b = refl
neither false b = refl

pub values_writable : (limits : Limits) (values : List Value) → not (list_any (is_longer (most_bytes limits)) values) ≡ list_all (is_value_writable limits) values
values_writable limits [] = refl
values_writable limits (v ∷ vs) = neither (is_longer (most_bytes limits) v) (list_any (is_longer (most_bytes limits)) vs) ∙ (λ i. value_writable limits v i && values_writable limits vs i)

-- ---- what is within the narrow limits is within the wide ones

few_bytes : (n : ℕ) → leb n 65535 ≡ true → leb n 4294967295 ≡ true
few_bytes n h = grind (arith, nat_tests, h)

few_columns : (n : ℕ) → leb n 64 ≡ true → leb n 4096 ≡ true
few_columns n h = grind (arith, nat_tests, h)

few_changes : (n : ℕ) → leb n 65536 ≡ true → leb n 4294967294 ≡ true
few_changes n h = grind (arith, nat_tests, h)

wide_value : (v : Value) → is_value_writable Narrow v ≡ true → is_value_writable Wide v ≡ true
wide_value Null h = refl
wide_value (Int n) h = refl
wide_value (Bytes bytes) h = few_bytes (length bytes) h

wide_values : (vs : List Value) → list_all (is_value_writable Narrow) vs ≡ true → list_all (is_value_writable Wide) vs ≡ true
wide_values [] h = refl
wide_values (v ∷ vs) h =
    let p = and_parts (is_value_writable Narrow v) (list_all (is_value_writable Narrow) vs) h in
    and_from (is_value_writable Wide v) (list_all (is_value_writable Wide) vs) (wide_value v p.0) (wide_values vs p.1)

pub wide_image : (image : List Value) → is_image_writable Narrow image ≡ true → is_image_writable Wide image ≡ true
wide_image image h =
    let p = and_parts (leb 1 (length image)) (leb (length image) 64 && list_all (is_value_writable Narrow) image) h in
    let q = and_parts (leb (length image) 64) (list_all (is_value_writable Narrow) image) p.1 in
    and_from (leb 1 (length image)) (leb (length image) 4096 && list_all (is_value_writable Wide) image) p.0
    (and_from (leb (length image) 4096) (list_all (is_value_writable Wide) image) (few_columns (length image) q.0) (wide_values image q.1))

wide_change : (c : Change) → is_change_writable Narrow c ≡ true → is_change_writable Wide c ≡ true
wide_change (Insert table after) h = wide_image after h
wide_change (Delete table before) h = wide_image before h
wide_change (Update table before after) h =
    let p = and_parts (is_image_writable Narrow before) (is_image_writable Narrow after) h in
    and_from (is_image_writable Wide before) (is_image_writable Wide after) (wide_image before p.0) (wide_image after p.1)

wide_changes : (cs : List Change) → list_all (is_change_writable Narrow) cs ≡ true → list_all (is_change_writable Wide) cs ≡ true
wide_changes [] h = refl
wide_changes (c ∷ cs) h =
    let p = and_parts (is_change_writable Narrow c) (list_all (is_change_writable Narrow) cs) h in
    and_from (is_change_writable Wide c) (list_all (is_change_writable Wide) cs) (wide_change c p.0) (wide_changes cs p.1)

pub widened : (e : Entry) → is_writable Narrow e ≡ true → is_writable Wide e ≡ true
widened e h =
    let p = and_parts (is_number e.gtid.number) (is_txn_writable Narrow e.txn) h in
    let q = and_parts (leb (length e.txn.changes) 65536) (list_all (is_change_writable Narrow) e.txn.changes) p.1 in
    and_from (is_number e.gtid.number) (is_txn_writable Wide e.txn) p.0
    (and_from (leb (length e.txn.changes) 4294967294) (list_all (is_change_writable Wide) e.txn.changes) (few_changes (length e.txn.changes) q.0) (wide_changes e.txn.changes q.1))

pub all_widened : (es : List Entry) → list_all (is_writable Narrow) es ≡ true → list_all (is_writable Wide) es ≡ true
all_widened [] h = refl
all_widened (e ∷ es) h =
    let p = and_parts (is_writable Narrow e) (list_all (is_writable Narrow) es) h in
    and_from (is_writable Wide e) (list_all (is_writable Wide) es) (widened e p.0) (all_widened es p.1)
