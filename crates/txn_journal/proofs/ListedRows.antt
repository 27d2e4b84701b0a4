-- Rows put in listed order give the same rows.
use Rattle.std.proofs.Common.{arith, ◌≡◌, ℕ, zero, suc, ◌+◌, ◌≤◌, ◌==◌, T, Bool, true, false, cond, ◌⊎◌, inl, inr, List, [], ◌∷◌, Option, Some, None, is_some, Result, Ok, Err, refl, sym, ap, subst, ◌∙◌, if◌then◌else◌}
use Rattle.std.specs.List.{list_all, list_any, AllByRecursion}
use Rattle.std.specs.FinMap.{find, get, empty, entries, entries_sorted, get-empty, get-entries}
use Rattle.std.specs.FinMap.Entries.{below_all, is_sorted}
use Rattle.std.specs.Ordering.{is_lt, is_eq}
use Rattle.std.specs.declared.cmp.Ordering.{Ordering}
use Rattle.std.specs.declared.cmp.Ordering.TheVariants.{Less, Equal, Greater}
use Rattle.std.proofs.lemmas.Bool.{or_cases, and_parts, and_from, or_left, or_right}
use Rattle.std.proofs.lemmas.Bool.Decides.{nat_tests}
use Rattle.std.proofs.lemmas.Option.{same_Some}
use Rattle.lemmas.proofs.Options.{none_some}
use Rattle.lemmas.proofs.Tests.{left_of, right_of}
use Rattle.rows.specs.declared.change.Key.{Key}
use Rattle.rows.specs.declared.change.TableRow.{TableRow}
use Rattle.rows.specs.declared.schema.Table.{Table}
use Rattle.row_images.specs.declared.value.Value.{Value}
use Rattle.rows.specs.Apply.{Rows, ◌>>=◌ as ◌andthen◌, with_row, or_else, first_taken, insert_if_free, apply_from, apply}
use Rattle.rows.specs.Carriers.{AreCarriers}
use Rattle.rows.specs.Database.{Database, opening}
use Rattle.rows.specs.Fits.{misfit}
use Rattle.rows.specs.Keys.{values_in, unique_keys, keys_of_row, find_table, keys_in, carried_keys}
use Rattle.row_images.specs.Values.{is_null}
use Rattle.rows.specs.Listing.{primary_rows, rows_listed}
use Rattle.rows.specs.Order.{key_cmp, key_eq}
use Rattle.rows.specs.Total.{key_eq_same, key_eq_self}
use Rattle.rows.specs.WriteSet.{is_among}
use Rattle.rows.proofs.Carriers.{carried_table, apply_keeps_carriers, primary_keys_decide, no_carriers}
use Rattle.rows.proofs.Local.{get-with_row}
use Rattle.rows.specs.declared.limits.Limits.{Limits}
use Rattle.journal.specs.Writing.{is_image_writable}
use Rattle.gtid_text.proofs.Turns.{chosen}
use Rattle.txn_journal.specs.Lines.{◌>>=◌}
use Rattle.txn_journal.specs.BundleStates.{ok_rows, with_opening}
use Rattle.txn_journal.specs.BundleText.{FitsRow, put_all, AreOpening}
use Rattle.txn_journal.specs.RowOrders.{IsOneOf}
use Rattle.txn_journal.specs.declared.fault.Cause.{Cause}
use Rattle.txn_journal.specs.declared.fault.Cause.TheVariants as causes
use Rattle.txn_journal.proofs.Judged.{bind_ok, ok_is}
use Rattle.txn_journal.proofs.OneBundle.{keys, with_rows, start, put_found, stays, came, row_is}

-- an entry's row
abbrev row_at : Key → List Value → TableRow
row_at k row = record { table = k.table; row = row }

-- ---- a row has one primary key

unique_by : (b : Bool) (n : ℕ) (new k : Key) (rest : List Key) → new.index ≡ n → (is_among rest k ≡ true → (n + 1) ≤ k.index) → is_among (cond b rest (new ∷ rest)) k ≡ true → n ≤ k.index
unique_by true n new k rest e h i = let later = h i in omega (arith, later)
unique_by false n new k rest e h i = elim (or_cases (key_eq k new) (is_among rest k) i) [
  | inl here ↦ let same : k.index ≡ n = ap (λ (x : Key). x.index) (key_eq_same k new here) ∙ e in omega (arith, same)
  | inr there ↦ let later = h there in omega (arith, later)
]

unique_index : (name : List ℕ) (n : ℕ) (columns : List (List ℕ)) (row : List Value) (k : Key) → is_among (unique_keys name n columns row) k ≡ true → n ≤ k.index
unique_index name n [] row k i = cc
unique_index name n (c ∷ columns) row k i =
    unique_by (list_any is_null (values_in c row)) n (record { table = name; index = n; values = values_in c row }) k (unique_keys name (n + 1) columns row) refl (unique_index name (n + 1) columns row k) i

none_below : (n : ℕ) → n ≡ 0 → 1 ≤ n → ⊥
none_below n z above = omega (arith, z, above)

primary_is : (t : Table) (row : List Value) (k : Key) → k.index ≡ 0 → is_among (keys_of_row t row) k ≡ true → k ≡ record { table = t.name; index = 0; values = values_in t.primary row }
primary_is t row k z i = elim (or_cases (key_eq k (record { table = t.name; index = 0; values = values_in t.primary row })) (is_among (unique_keys t.name 1 t.uniques row) k) i) [
  | inl here ↦ key_eq_same k _ here
  | inr later ↦ let above = unique_index t.name 1 t.uniques row k later in absurd (none_below k.index z above)
]

one_primary : (o : Option Table) (row : List Value) (p q : Key) → p.index ≡ 0 → q.index ≡ 0 → is_among (keys_in o row) p ≡ true → is_among (keys_in o row) q ≡ true → p ≡ q
one_primary None row p q y z i j = cc
one_primary (Some t) row p q y z i j = primary_is t row p y i ∙ sym (primary_is t row q z j)

-- ---- entries in order

passed : (o : Ordering) (row : List Value) (rest : Option (List Value)) → T (is_lt o) → cond (is_eq o) (Some row) rest ≡ rest
passed Less row rest h = refl
passed Equal row rest h = absurd h
passed Greater row rest h = absurd h

not_below : (q : Key) (es : List (Key × List Value)) → T (below_all key_cmp q es) → find key_cmp q es ≡ None
not_below q [] h = refl
not_below q (e ∷ es) h = passed (key_cmp q e.0) e.1 (find key_cmp q es) (left_of _ _ h) ∙ not_below q es (right_of _ _ h)

head : (e : Key × List Value) (es : List (Key × List Value)) → find key_cmp e.0 (e ∷ es) ≡ Some e.1
head e es = ap (λ (v : Bool). cond v (Some e.1) (find key_cmp e.0 es)) (key_eq_self e.0)

-- a key of a later entry is not the first entry's
not_first : {P : Type 0} (e : Key × List Value) (es : List (Key × List Value)) (k : Key) (row : List Value) → T (is_sorted key_cmp (e ∷ es)) → find key_cmp k es ≡ Some row → k ≡ e.0 → P
not_first e es k row s f same = none_some row (sym (not_below e.0 es (left_of _ _ s)) ∙ ap (λ (x : Key). find key_cmp x es) (sym same) ∙ f)

later : (e : Key × List Value) (es : List (Key × List Value)) (k : Key) (row : List Value) → T (is_sorted key_cmp (e ∷ es)) → find key_cmp k es ≡ Some row → find key_cmp k (e ∷ es) ≡ Some row
later e es k row s f = elim (key_eq k e.0) as (λ v. key_eq k e.0 ≡ v → cond v (Some e.1) (find key_cmp k es) ≡ Some row) [
  | true ↦ λ t. not_first e es k row s f (key_eq_same k e.0 t)
  | false ↦ λ t. f
] refl

zero_is : (n : ℕ) → (n == 0) ≡ true → n ≡ 0
zero_is n e = grind (arith, nat_tests, e)

not_zero : {P : Type 0} (n : ℕ) → (n == 0) ≡ false → n ≡ 0 → P
not_zero zero e z = cc
not_zero (suc n) e z = cc

-- what holds at each entry holds of each listed row
each_by : (P : TableRow → Type 0) (b : Bool) (r : TableRow) (rs : List TableRow) → P r → AllByRecursion P rs → AllByRecursion P (cond b (r ∷ rs) rs)
each_by P true r rs h more = (h, more)
each_by P false r rs h more = more

each : (P : TableRow → Type 0) (es : List (Key × List Value)) → T (is_sorted key_cmp es) → ((k : Key) (row : List Value) → find key_cmp k es ≡ Some row → P (row_at k row)) → AllByRecursion P (primary_rows es)
each P [] s h = tt
each P (e ∷ es) s h = each_by P (e.0.index == 0) (row_at e.0 e.1) (primary_rows es) (h e.0 e.1 (head e es)) (each P es (right_of _ _ s) (λ k row f. h k row (later e es k row s f)))

-- ---- lists of rows

all_at : (P : TableRow → Type 0) (rs : List TableRow) (r : TableRow) → AllByRecursion P rs → IsOneOf rs r → P r
all_at P [] r h i = absurd i
all_at P (x ∷ rs) r h (inl same) = subst P same h.0
all_at P (x ∷ rs) r h (inr more) = all_at P rs r h.1 more

abbrev IsWritable : Limits → TableRow → Type 0
IsWritable limits r = is_image_writable limits r.row ≡ true

all_writable : (limits : Limits) (rs : List TableRow) → list_all (λ r. is_image_writable limits r.row) rs ≡ true → AllByRecursion (IsWritable limits) rs
all_writable limits [] e = tt
all_writable limits (r ∷ rs) e = let both = and_parts (is_image_writable limits r.row) (list_all (λ r. is_image_writable limits r.row) rs) e in (both.0, all_writable limits rs both.1)

writable_all : (limits : Limits) (rs : List TableRow) → AllByRecursion (IsWritable limits) rs → list_all (λ r. is_image_writable limits r.row) rs ≡ true
writable_all limits [] h = refl
writable_all limits (r ∷ rs) h = and_from (is_image_writable limits r.row) (list_all (λ r. is_image_writable limits r.row) rs) h.0 (writable_all limits rs h.1)

-- the schema takes the row
abbrev IsTaken : List Table → TableRow → Type 0
IsTaken schema r = misfit schema (opening r.table r.row) ≡ None

all_taken : (d : Database) (rs : List TableRow) (new : Rows) → put_all d rs ≡ Ok new → AllByRecursion (IsTaken d.schema) rs
all_taken d [] new e = tt
all_taken d (r ∷ rs) new e =
    let a = bind_ok (with_opening d r) (λ rows. put_all (with_rows d rows) rs) new e in
    ((put_found d r a.0 a.1).fits, all_taken (with_rows d a.0) rs new a.2)

-- ---- one row that is put

taken_of_free : (ks : List Key) (rows : Rows) → ((k : Key) → is_among ks k ≡ true → get rows k ≡ None) → first_taken ks rows ≡ None
taken_of_free [] rows h = refl
taken_of_free (x ∷ ks) rows h =
    ap (λ (o : Option (List Value)). or_else (first_taken ks rows) o x.index) (h x (or_left (key_eq x x) (is_among ks x) (key_eq_self x)))
    ∙ taken_of_free ks rows (λ k i. h k (or_right (key_eq k x) (is_among ks k) i))

applied : (d : Database) (r : TableRow) → first_taken (keys d r) d.rows ≡ None → apply d.schema (opening r.table r.row) d.rows ≡ Ok (with_row (keys d r) r.row d.rows)
applied d r free = ap (λ (o : Option ℕ). insert_if_free o 0 (keys d r) r.row d.rows andthen apply_from d.schema 1 []) free

put_one : (d : Database) (r : TableRow) → IsTaken d.schema r → first_taken (keys d r) d.rows ≡ None → with_opening d r ≡ Ok (with_row (keys d r) r.row d.rows)
unfolding with_opening
put_one d r fits free =
    ap (λ o. if is_some o then Err causes.Schema else ok_rows (apply d.schema (opening r.table r.row) d.rows)) fits ∙ ap ok_rows (applied d r free)

carriers_put : (d : Database) (r : TableRow) → AreCarriers d.schema d.rows → first_taken (keys d r) d.rows ≡ None → AreCarriers d.schema (with_row (keys d r) r.row d.rows)
carriers_put d r h free = apply_keeps_carriers d.schema (opening r.table r.row) d.rows (with_row (keys d r) r.row d.rows) h (applied d r free)

carriers_all : (d : Database) (rs : List TableRow) (new : Rows) → AreCarriers d.schema d.rows → put_all d rs ≡ Ok new → AreCarriers d.schema new
carriers_all d [] new h e = subst (AreCarriers d.schema) (ok_is d.rows new e) h
carriers_all d (r ∷ rs) new h e =
    let a = bind_ok (with_opening d r) (λ rows. put_all (with_rows d rows) rs) new e in
    let p = put_found d r a.0 a.1 in
    carriers_all (with_rows d a.0) rs new (subst (AreCarriers d.schema) p.after (carriers_put d r h p.free)) a.2

-- ---- the listed rows in turn

-- all rows, each of which the schema takes
record AreWhole (schema : List Table) (rows : Rows) : Type 0 where
  carriers : AreCarriers schema rows
  taken : (k : Key) (row : List Value) → get rows k ≡ Some row → IsTaken schema (row_at k row)

-- the one rows are among the others
abbrev AreAmong : Rows → Rows → Type 0
AreAmong some rows = (k : Key) (row : List Value) → get some k ≡ Some row → get rows k ≡ Some row

-- some rows are put, and these entries are left
record IsBegun (schema : List Table) (rows put : Rows) (left : List (Key × List Value)) : Type 0 where
  sorted : T (is_sorted key_cmp left)
  among : (k : Key) (row : List Value) → find key_cmp k left ≡ Some row → get rows k ≡ Some row
  inside : AreAmong put rows
  carriers : AreCarriers schema put
  ahead : (k : Key) (row : List Value) → k.index ≡ 0 → find key_cmp k left ≡ Some row → get put k ≡ None

-- the rows that are left are put too
record IsEnded (schema : List Table) (rows put : Rows) (left : List (Key × List Value)) (rs : List TableRow) : Type 0 where
  new : Rows
  all : put_all (record { schema = schema; rows = put }) rs ≡ Ok new
  inside : AreAmong new rows
  carriers : AreCarriers schema new
  there : (k : Key) (row : List Value) → k.index ≡ 0 → find key_cmp k left ≡ Some row → get new k ≡ Some row

-- no key of the next row is taken
next_free : (schema : List Table) (rows put : Rows) (e : Key × List Value) (es : List (Key × List Value)) → AreWhole schema rows → IsBegun schema rows put (e ∷ es) → e.0.index ≡ 0
    → (k : Key) → is_among (carried_keys schema e.0.table e.1) k ≡ true → get put k ≡ None
next_free schema rows put e es w b z k i =
    let at : get rows e.0 ≡ Some e.1 = b.among e.0 e.1 (head e es) in
    let own : is_among (carried_keys schema e.0.table e.1) e.0 ≡ true = w.carriers.carried e.0 e.1 at in
    let t : k.table ≡ e.0.table = carried_table schema e.0.table e.1 k i in
    elim (get put k) as (λ o. get put k ≡ o → o ≡ None) [
      | None ↦ λ g. refl
      | Some x ↦ λ g.
          let same : e.1 ≡ x = same_Some e.1 x (sym (w.carriers.everywhere e.0 k e.1 at i) ∙ b.inside k x g) in
          let carries : is_among (carried_keys schema k.table x) e.0 ≡ true =
          ap (λ (y : List Value). is_among (carried_keys schema k.table y) e.0) (sym same) ∙ ap (λ (n : List ℕ). is_among (carried_keys schema n e.1) e.0) t ∙ own in
          none_some x (sym (b.ahead e.0 e.1 z (head e es)) ∙ b.carriers.everywhere k e.0 x g carries)
    ] refl

-- an entry that is not under a primary key is passed over
passed_over : (schema : List Table) (rows put : Rows) (e : Key × List Value) (es : List (Key × List Value)) → IsBegun schema rows put (e ∷ es) → IsBegun schema rows put es
passed_over schema rows put e es b = record {
  sorted = right_of _ _ b.sorted;
  among = λ k row f. b.among k row (later e es k row b.sorted f);
  inside = b.inside;
  carriers = b.carriers;
  ahead = λ k row z f. b.ahead k row z (later e es k row b.sorted f);
}

-- the next row is put
next_put : (schema : List Table) (rows put : Rows) (e : Key × List Value) (es : List (Key × List Value)) → AreWhole schema rows → IsBegun schema rows put (e ∷ es) → e.0.index ≡ 0
    → first_taken (carried_keys schema e.0.table e.1) put ≡ None → IsBegun schema rows (with_row (carried_keys schema e.0.table e.1) e.1 put) es
next_put schema rows put e es w b z free =
    let K = carried_keys schema e.0.table e.1 in
    let at : get rows e.0 ≡ Some e.1 = b.among e.0 e.1 (head e es) in
    record {
      sorted = right_of _ _ b.sorted;
      among = λ k row f. b.among k row (later e es k row b.sorted f);
      inside = λ k row g. elim (chosen (is_among K k) (Some e.1) (get put k) (Some row) (sym (get-with_row K e.1 put k) ∙ g)) [
        | inl q ↦ w.carriers.everywhere e.0 k e.1 at q.0 ∙ q.1
        | inr q ↦ b.inside k row q.1
      ];
      carriers = carriers_put (record { schema = schema; rows = put }) (row_at e.0 e.1) b.carriers free;
      ahead = λ k row y f. get-with_row K e.1 put k ∙ elim (is_among K k) as (λ v. is_among K k ≡ v → cond v (Some e.1) (get put k) ≡ None) [
        | true ↦ λ i. not_first e es k row b.sorted f (one_primary (find_table e.0.table schema) e.1 k e.0 y z i (w.carriers.carried e.0 e.1 at))
        | false ↦ λ i. b.ahead k row y (later e es k row b.sorted f)
      ] refl;
    }

-- what is found is the first entry's, or a later one's
found_in : (e : Key × List Value) (es : List (Key × List Value)) (k : Key) (row : List Value) → find key_cmp k (e ∷ es) ≡ Some row → ((k ≡ e.0) × (e.1 ≡ row)) ⊎ (find key_cmp k es ≡ Some row)
found_in e es k row f = elim (chosen (key_eq k e.0) (Some e.1) (find key_cmp k es) (Some row) f) [
  | inl q ↦ inl (key_eq_same k e.0 q.0, same_Some e.1 row q.1)
  | inr q ↦ inr q.1
]

ended_over : (schema : List Table) (rows put : Rows) (e : Key × List Value) (es : List (Key × List Value)) (rs : List TableRow) → (e.0.index == 0) ≡ false → IsEnded schema rows put es rs → IsEnded schema rows put (e ∷ es) rs
ended_over schema rows put e es rs other n = record {
  new = n.new;
  all = n.all;
  inside = n.inside;
  carriers = n.carriers;
  there = λ k row z f. elim (found_in e es k row f) [
    | inl q ↦ not_zero e.0.index other (ap (λ (x : Key). x.index) (sym q.0) ∙ z)
    | inr q ↦ n.there k row z q
  ];
}

ended_put : (schema : List Table) (rows put : Rows) (e : Key × List Value) (es : List (Key × List Value)) (rs : List TableRow) → AreWhole schema rows → IsBegun schema rows put (e ∷ es)
    → first_taken (carried_keys schema e.0.table e.1) put ≡ None → IsEnded schema rows (with_row (carried_keys schema e.0.table e.1) e.1 put) es rs → IsEnded schema rows put (e ∷ es) (row_at e.0 e.1 ∷ rs)
ended_put schema rows put e es rs w b free n =
    let K = carried_keys schema e.0.table e.1 in
    let d : Database = record { schema = schema; rows = put } in
    let more : Database = record { schema = schema; rows = with_row K e.1 put } in
    let at : get rows e.0 ≡ Some e.1 = b.among e.0 e.1 (head e es) in
    let own : get (with_row K e.1 put) e.0 ≡ Some e.1 = get-with_row K e.1 put e.0 ∙ ap (λ (v : Bool). cond v (Some e.1) (get put e.0)) (w.carriers.carried e.0 e.1 at) in
    record {
      new = n.new;
      all = ap (λ (o : Result Rows Cause). o >>= λ rows. put_all (record { schema = schema; rows = rows }) rs) (put_one d (row_at e.0 e.1) (w.taken e.0 e.1 at) free) ∙ n.all;
      inside = n.inside;
      carriers = n.carriers;
      there = λ k row z f. elim (found_in e es k row f) [
        | inl q ↦ ap (get n.new) q.0 ∙ stays more rs n.new e.0 e.1 n.all own ∙ ap Some q.1
        | inr q ↦ n.there k row z q
      ];
    }

listed_all : (schema : List Table) (rows put : Rows) (left : List (Key × List Value)) → AreWhole schema rows → IsBegun schema rows put left → IsEnded schema rows put left (primary_rows left)
listed_all schema rows put [] w b = record { new = put; all = refl; inside = b.inside; carriers = b.carriers; there = λ k row z f. none_some row f }
listed_all schema rows put (e ∷ es) w b =
    elim (e.0.index == 0) as (λ v. (e.0.index == 0) ≡ v → IsEnded schema rows put (e ∷ es) (cond v (row_at e.0 e.1 ∷ primary_rows es) (primary_rows es))) [
      | true ↦ λ v.
          let z = zero_is e.0.index v in
          let free = taken_of_free (carried_keys schema e.0.table e.1) put (next_free schema rows put e es w b z) in
          ended_put schema rows put e es (primary_rows es) w b free (listed_all schema rows (with_row (carried_keys schema e.0.table e.1) e.1 put) es w (next_put schema rows put e es w b z free))
      | false ↦ λ v. ended_over schema rows put e es (primary_rows es) v (listed_all schema rows put es w (passed_over schema rows put e es b))
    ] refl

-- ---- from the opening rows to the listed ones

-- what holds of all rows that were put holds at each key
at_key : (schema : List Table) (rs : List TableRow) (rows : Rows) (P : TableRow → Type 0) → put_all (start schema) rs ≡ Ok rows → AllByRecursion P rs → (k : Key) (row : List Value) → get rows k ≡ Some row → P (row_at k row)
at_key schema rs rows P e a k row g = elim (came (start schema) rs rows k row e g) [
  | inl none ↦ none_some row (sym (get-empty key_cmp k) ∙ none)
  | inr p ↦ subst P (row_is p.one (row_at k row) (sym (carried_table schema p.one.table p.one.row k p.carries)) p.row_is) (all_at P rs p.one a p.among)
]

both_ways : (x y : Option (List Value)) → ((row : List Value) → x ≡ Some row → y ≡ Some row) → ((row : List Value) → y ≡ Some row → x ≡ Some row) → x ≡ y
both_ways (Some r) y f g = sym (f r refl)
both_ways None (Some r) f g = g r refl
both_ways None None f g = refl

in_entries : (rows : Rows) (k : Key) (row : List Value) → find key_cmp k (entries rows) ≡ Some row → get rows k ≡ Some row
in_entries rows k row f = get-entries rows k ∙ f

begun : (schema : List Table) (rows : Rows) → IsBegun schema rows empty (entries rows)
begun schema rows = record {
  sorted = entries_sorted rows;
  among = in_entries rows;
  inside = λ k row g. none_some row (sym (get-empty key_cmp k) ∙ g);
  carriers = no_carriers schema;
  ahead = λ k row z f. get-empty key_cmp k;
}

-- the listed rows, put in turn, are the rows
listed_put : (schema : List Table) (rows : Rows) → AreWhole schema rows → put_all (start schema) (rows_listed rows) ≡ Ok rows
listed_put schema rows w =
    let n = listed_all schema rows empty (entries rows) w (begun schema rows) in
    let there : (k : Key) (row : List Value) → k.index ≡ 0 → get rows k ≡ Some row → get n.new k ≡ Some row = λ k row z g. n.there k row z (sym (get-entries rows k) ∙ g) in
    let same : n.new ≡ rows = primary_keys_decide schema n.new rows n.carriers w.carriers (λ k z. both_ways (get n.new k) (get rows k) (n.inside k) (λ row. there k row z)) in
    n.all ∙ (λ i. Ok (same i))

pub listed_opening : (limits : Limits) (schema : List Table) (rs : List TableRow) (rows : Rows) → AreOpening limits schema rs rows → AreOpening limits schema (rows_listed rows) rows
listed_opening limits schema rs rows o =
    let at = at_key schema rs rows in
    let listed : (P : TableRow → Type 0) → AllByRecursion P rs → AllByRecursion P (rows_listed rows) =
    λ P a. each P (entries rows) (entries_sorted rows) (λ k row f. at P o.put a k row (in_entries rows k row f)) in
    record {
      fit = listed (FitsRow limits) o.fit;
      writable = writable_all limits (rows_listed rows) (listed (IsWritable limits) (all_writable limits rs o.writable));
      put = listed_put schema rows (record {
        carriers = carriers_all (start schema) rs rows (no_carriers schema) o.put;
        taken = at (IsTaken schema) o.put (all_taken (start schema) rs rows o.put);
      });
    }
