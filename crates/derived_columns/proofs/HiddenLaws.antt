-- Hidden columns are behind, and GTIDs stay.
use Rattle.std.proofs.Common.{◌≡◌, ℕ, ◌+◌, zero, suc, List, [], ◌∷◌, ◌++◌, length, map, Option, Some, None, Result, Ok, Err, refl, sym, ap, subst, ◌∙◌, arith, length-append}
use Rattle.std.specs.Prelude.{slice_get, ok_or}
use Rattle.std.proofs.Math.Seq.{take-append_seam}
use Rattle.std.proofs.lemmas.List.{append-nil}
use Rattle.rows.specs.declared.change.Change.TheVariants.{Insert, Delete, Update}
use Rattle.gtid_text.specs.declared.Gtid.{Gtid}
use Rattle.row_images.specs.declared.value.Value.{Value}
use Rattle.rows.specs.declared.change.Change.{Change}
use Rattle.journal.specs.declared.Entry.{Entry}
use Rattle.lemmas.proofs.Options.{none_some}
use Rattle.derived_columns.specs.declared.column.DerivedColumn.{DerivedColumn}
use Rattle.derived_columns.specs.declared.column.DerivedColumn.TheVariants.{Part, Row}
use Rattle.derived_columns.specs.declared.column.KeyPart.{KeyPart}
use Rattle.derived_columns.specs.Columns.{table_columns}
use Rattle.derived_columns.specs.Each.{with_it, with_both, each}
use Rattle.derived_columns.specs.Images.{hidden_at, part_at, hidden_or_part, hidden_values, derived_image}
use Rattle.derived_columns.specs.Entries.{as_entry, derived_change, derived_changes, derived_entry, derived_entries}
use Rattle.derived_columns.specs.Laws.{IsImageWithHidden, HiddenColumnsAreBehind, GtidsStay}

-- ---- lists of results

made_of_it : {A B E : Type 0} (make : A → B) (r : Result A E) (b : B) → with_it make r ≡ Ok b → (a : A) × (r ≡ Ok a) × (make a ≡ b)
made_of_it make (Err e) b h = absurd cc
made_of_it make (Ok a) b h = (a, refl, cc)

made_of_both : {A B C E : Type 0} (make : A → B → C) (r : Result A E) (s : Result B E) (c : C) → with_both make r s ≡ Ok c → (a : A) × (b : B) × (r ≡ Ok a) × (s ≡ Ok b) × (make a b ≡ c)
made_of_both make (Err e) s c h = absurd cc
made_of_both make (Ok a) (Err e) c h = absurd cc
made_of_both make (Ok a) (Ok b) c h = (a, b, refl, refl, cc)

each_len : {A B E : Type 0} (f : A → Result B E) (xs : List A) (ys : List B) → each f xs ≡ Ok ys → length ys ≡ length xs
each_len f [] ys h = let e : [] ≡ ys = cc in ap length (sym e)
each_len f (x ∷ xs) ys h =
    let m = made_of_both (λ z zs. z ∷ zs) (f x) (each f xs) ys h in
    ap length (sym m.4) ∙ ap suc (each_len f xs m.1 m.3)

each_at : {A B E : Type 0} (f : A → Result B E) (xs : List A) (ys : List B) (n : ℕ) (x : A) → each f xs ≡ Ok ys → slice_get xs n ≡ Some x → (y : B) × (slice_get ys n ≡ Some y) × (f x ≡ Ok y)
each_at f [] ys n x h at = none_some x at
each_at f (z ∷ xs) ys zero x h at =
    let m = made_of_both (λ z zs. z ∷ zs) (f z) (each f xs) ys h in
    let same : z ≡ x = cc in
    (m.0, ap (λ l. slice_get l zero) (sym m.4), ap f (sym same) ∙ m.2)
each_at f (z ∷ xs) ys (suc n) x h at =
    let m = made_of_both (λ z zs. z ∷ zs) (f z) (each f xs) ys h in
    let r = each_at f xs m.1 n x m.3 at in
    (r.0, ap (λ l. slice_get l (suc n)) (sym m.4) ∙ r.1, r.2)

-- ---- images

found_part : (o : Option Value) (part : KeyPart) (v : Value) → ok_or o part ≡ Ok v → o ≡ Some v
found_part None part v h = absurd cc
found_part (Some u) part v h = cc

found_there : (image : List Value) (c : DerivedColumn) (v : Value) → hidden_or_part image c ≡ Ok v → hidden_at image c ≡ Some v
found_there image (Part part) v h = found_part (part_at image part) part v h
found_there image (Row table) v h = cc

behind : (image hidden : List Value) (n : ℕ) → slice_get (image ++ hidden) (length image + n) ≡ slice_get hidden n
behind [] hidden n = let e : 0 + n ≡ n = omega arith in ap (slice_get hidden) e
behind (v ∷ image) hidden n =
    let e : length (v ∷ image) + n ≡ suc (length image + n) = omega arith in
    ap (slice_get (v ∷ image ++ hidden)) e ∙ behind image hidden n

with_hidden : (columns : List DerivedColumn) (table : List ℕ) (image hidden : List Value) → hidden_values (table_columns columns table) image ≡ Ok hidden
    → IsImageWithHidden columns table image (image ++ hidden)
with_hidden columns table image hidden h = record {
  begins = take-append_seam image hidden;
  behind = λ n c at. let r = each_at (hidden_or_part image) (table_columns columns table) hidden n c h at in
      behind image hidden n ∙ r.1 ∙ sym (found_there image c r.0 r.2);
  len = length-append image hidden ∙ ap (λ k. length image + k) (each_len (hidden_or_part image) (table_columns columns table) hidden h);
}

pub hidden_columns_are_behind : HiddenColumnsAreBehind
hidden_columns_are_behind columns table image derived h =
    let m = made_of_it (λ hidden. image ++ hidden) (hidden_values (table_columns columns table) image) derived h in
    subst (IsImageWithHidden columns table image) m.2 (with_hidden columns table image m.0 m.1)

-- ---- entries

gtid_stays : (gtid : Gtid) (r : Result (List Change) KeyPart) (d : Entry) → as_entry gtid r ≡ Ok d → d.gtid ≡ gtid
gtid_stays gtid (Ok changes) d h =
    let e : record { gtid = gtid; txn = record { changes = changes } } ≡ d = cc in
    ap (λ (x : Entry). x.gtid) (sym e)
gtid_stays gtid (Err c) d h = absurd cc

pub gtids_stay : GtidsStay
gtids_stay columns [] derived h = let e : [] ≡ derived = cc in ap (map (λ x. x.gtid)) (sym e)
gtids_stay columns (e ∷ entries) derived h =
    let m = made_of_both (λ z zs. z ∷ zs) (derived_entry columns e) (each (derived_entry columns) entries) derived h in
    ap (map (λ (x : Entry). x.gtid)) (sym m.4)
    ∙ (λ i. gtid_stays e.gtid (derived_changes columns e.txn.changes) m.0 m.2 i ∷ gtids_stay columns entries m.1 m.3 i)

-- ---- no hidden columns

no_hidden : (table : List ℕ) (image : List Value) → derived_image [] table image ≡ Ok image
no_hidden table image = ap Ok (append-nil image)

no_change : (change : Change) → derived_change [] change ≡ Ok change
no_change (Insert table after) = ap (with_it (Insert table)) (no_hidden table after)
no_change (Delete table before) = ap (with_it (Delete table)) (no_hidden table before)
no_change (Update table before after) = λ i. with_both (Update table) (no_hidden table before i) (no_hidden table after i)

each_itself : {A E : Type 0} (f : A → Result A E) → ((x : A) → f x ≡ Ok x) → (xs : List A) → each f xs ≡ Ok xs
each_itself f h [] = refl
each_itself f h (x ∷ xs) = λ i. with_both (λ y ys. y ∷ ys) (h x i) (each_itself f h xs i)

no_entry : (e : Entry) → derived_entry [] e ≡ Ok e
no_entry e = ap (as_entry e.gtid) (each_itself (derived_change []) no_change e.txn.changes)

pub without_columns : (columns : List DerivedColumn) (entries : List Entry) → length columns ≡ 0 → derived_entries columns entries ≡ Ok entries
without_columns [] entries h = each_itself (derived_entry []) no_entry entries
without_columns (c ∷ columns) entries h = absurd (omega arith)
