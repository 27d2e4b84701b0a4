-- A bundle has one text but for the order of its `row` lines.
use Rattle.std.proofs.Common.{◌≡◌, ℕ, ◌⊎◌, inl, inr, Bool, true, false, cond, List, [], ◌∷◌, Option, Some, None, Result, Ok, refl, sym, ap, subst, ◌∙◌}
use Rattle.std.specs.Prelude.{is_some, MatchResult}
use Rattle.std.proofs.lemmas.Result.{MatchResult-at_ok}
use Rattle.std.specs.FinMap.{get, empty, get-empty}
use Rattle.rows.specs.declared.change.Change.TheVariants.{Insert}
use Rattle.rows.specs.declared.change.Key.{Key}
use Rattle.rows.specs.declared.change.TableRow.{TableRow}
use Rattle.rows.specs.declared.change.NotInSchema.{NotInSchema}
use Rattle.rows.specs.declared.schema.Table.{Table}
use Rattle.row_images.specs.declared.value.Value.{Value}
use Rattle.rows.specs.Apply.{Rows, ◌>>=◌ as ◌andthen◌, with_row, first_taken, insert_if_free, apply_from, apply}
use Rattle.rows.specs.Database.{Database, opening}
use Rattle.rows.specs.Fits.{misfit, misfit_in, first_cause, count_misfit, or_later}
use Rattle.rows.specs.Keys.{keys_in, carried_keys, find_table, values_in}
use Rattle.rows.specs.Order.{key_cmp}
use Rattle.rows.specs.WriteSet.{is_among}
use Rattle.rows.specs.Total.{key_eq_self}
use Rattle.rows.proofs.Carriers.{carried_table, all_free}
use Rattle.rows.proofs.Local.{get-with_row}
use Rattle.txn_journal.specs.Lines.{◌>>=◌}
use Rattle.txn_journal.specs.BundleStates.{BundleValue, ok_rows, with_opening}
use Rattle.txn_journal.specs.BundleText.{put_all, WritesBundleAs}
use Rattle.txn_journal.specs.declared.lines.Version.{Version}
use Rattle.txn_journal.specs.RowOrders.{IsOneOf, AreOnce, DifferInOrder}
use Rattle.txn_journal.specs.declared.fault.Cause.{Cause}
use Rattle.txn_journal.proofs.Judged.{if_both, found_weaker, IsSchema, bind_ok, ok_is}
use Rattle.std.proofs.lemmas.Option.{same_Some}
use Rattle.gtid_text.proofs.Turns.{chosen}

-- ---- one row that is put

-- the keys of a row
abbrev pub keys : Database → TableRow → List Key
keys d r = carried_keys d.schema r.table r.row

abbrev pub with_rows : Database → Rows → Database
with_rows d rows = record d { rows = rows }

pub record Put (d : Database) (r : TableRow) (new : Rows) : Type 0 where
  pub fits : misfit d.schema (opening r.table r.row) ≡ None
  pub free : first_taken (keys d r) d.rows ≡ None
  pub after : with_row (keys d r) r.row d.rows ≡ new

inserted_both : (o : Option ℕ) (ks : List Key) (row : List Value) (rows : Rows) (schema : List Table) → MatchResult (ok_rows (insert_if_free o 0 ks row rows andthen apply_from schema 1 [])) (λ new. (o ≡ None) × (with_row ks row rows ≡ new)) IsSchema
inserted_both None ks row rows schema = (refl, refl)
inserted_both (Some index) ks row rows schema = tt

none_is : (o : Option NotInSchema) → is_some o ≡ false → o ≡ None
none_is None e = refl
none_is (Some x) e = absurd cc

pub put_both : (d : Database) (r : TableRow) → MatchResult (with_opening d r) (Put d r) IsSchema
unfolding with_opening
put_both d r = if_both _ _ (is_some (misfit d.schema (opening r.table r.row))) _ _ (λ misfits. tt) (λ fits. found_weaker (ok_rows (apply d.schema (opening r.table r.row) d.rows)) _ _ _
    (λ new h. record { fits = none_is (misfit d.schema (opening r.table r.row)) fits; free = h.0; after = h.1 }) (inserted_both (first_taken (keys d r) d.rows) (keys d r) r.row d.rows d.schema))

pub put_found : (d : Database) (r : TableRow) (new : Rows) → with_opening d r ≡ Ok new → Put d r new
put_found d r new e = MatchResult-at_ok (Put d r) IsSchema new e (put_both d r)

record HasKey (schema : List Table) (r : TableRow) : Type 0 where
  key : Key
  among : is_among (carried_keys schema r.table r.row) key ≡ true

key_in : (o : Option Table) (r : TableRow) → or_later (first_cause (misfit_in o (Insert r.table r.row)) (count_misfit o 0)) 0 None ≡ None → (k : Key) × (is_among (keys_in o r.row) k ≡ true)
key_in None r e = absurd cc
key_in (Some t) r e =
    let k : Key = record { table = t.name; index = 0; values = values_in t.primary r.row } in
    (k, rw (key_eq_self k) refl)

has_key : (schema : List Table) (r : TableRow) → misfit schema (opening r.table r.row) ≡ None → HasKey schema r
has_key schema r e = let k = key_in (find_table r.table schema) r e in record { key = k.0; among = k.1 }

-- ---- rows that are put in turn

-- the row that a key shows was put
pub record IsPut (schema : List Table) (rs : List TableRow) (k : Key) (row : List Value) : Type 0 where
  pub one : TableRow
  pub among : IsOneOf rs one
  pub row_is : one.row ≡ row
  pub carries : is_among (carried_keys schema one.table one.row) k ≡ true

-- a row that is there stays
pub stays : (d : Database) (rs : List TableRow) (new : Rows) (k : Key) (row : List Value) → put_all d rs ≡ Ok new → get d.rows k ≡ Some row → get new k ≡ Some row
stays d [] new k row e g = ap (λ (m : Rows). get m k) (sym (ok_is d.rows new e)) ∙ g
stays d (r ∷ rs) new k row e g =
    let a = bind_ok (with_opening d r) (λ rows. put_all (with_rows d rows) rs) new e in
    let p = put_found d r a.0 a.1 in
    let there : get a.0 k ≡ Some row =
    elim (is_among (keys d r) k) as (λ v. is_among (keys d r) k ≡ v → get a.0 k ≡ Some row) [
      | true ↦ λ h. absurd (let n = sym (all_free (keys d r) d.rows p.free k h) ∙ g in cc)
      | false ↦ λ h. ap (λ (m : Rows). get m k) (sym p.after) ∙ get-with_row (keys d r) r.row d.rows k ∙ ap (λ (v : Bool). cond v (Some r.row) (get d.rows k)) h ∙ g
    ] refl in
    stays (with_rows d a.0) rs new k row a.2 there

-- what is in the end stood before, or was put
pub came : (d : Database) (rs : List TableRow) (new : Rows) (k : Key) (row : List Value) → put_all d rs ≡ Ok new → get new k ≡ Some row → (get d.rows k ≡ Some row) ⊎ IsPut d.schema rs k row
came d [] new k row e g = inl (ap (λ (m : Rows). get m k) (ok_is d.rows new e) ∙ g)
came d (r ∷ rs) new k row e g =
    let a = bind_ok (with_opening d r) (λ rows. put_all (with_rows d rows) rs) new e in
    let p = put_found d r a.0 a.1 in
    elim (came (with_rows d a.0) rs new k row a.2 g) [
      | inl h ↦
          let at : cond (is_among (keys d r) k) (Some r.row) (get d.rows k) ≡ Some row = sym (get-with_row (keys d r) r.row d.rows k) ∙ ap (λ (m : Rows). get m k) p.after ∙ h in
          elim (chosen (is_among (keys d r) k) (Some r.row) (get d.rows k) (Some row) at) [
            | inl q ↦ inr (record { one = r; among = inl refl; row_is = same_Some r.row row q.1; carries = q.0 })
            | inr q ↦ inl q.1
          ]
      | inr h ↦ inr (record { one = h.one; among = inr h.among; row_is = h.row_is; carries = h.carries })
    ]

-- a row that is put is in the end, under a key of its own
record Stands (schema : List Table) (r : TableRow) (new : Rows) : Type 0 where
  key : Key
  among : is_among (carried_keys schema r.table r.row) key ≡ true
  there : get new key ≡ Some r.row

stands : (d : Database) (rs : List TableRow) (new : Rows) (r : TableRow) → put_all d rs ≡ Ok new → IsOneOf rs r → Stands d.schema r new
stands d [] new r e i = absurd i
stands d (x ∷ rs) new r e (inl same) =
    let a = bind_ok (with_opening d x) (λ rows. put_all (with_rows d rows) rs) new e in
    let p = put_found d x a.0 a.1 in
    let k = has_key d.schema x p.fits in
    let there : get a.0 k.key ≡ Some x.row = ap (λ (m : Rows). get m k.key) (sym p.after) ∙ get-with_row (keys d x) x.row d.rows k.key ∙ ap (λ (v : Bool). cond v (Some x.row) (get d.rows k.key)) k.among in
    subst (λ (y : TableRow). Stands d.schema y new) same (record { key = k.key; among = k.among; there = stays (with_rows d a.0) rs new k.key x.row a.2 there })
stands d (x ∷ rs) new r e (inr later) =
    let a = bind_ok (with_opening d x) (λ rows. put_all (with_rows d rows) rs) new e in
    stands (with_rows d a.0) rs new r a.2 later

-- no row that carries a key that is taken is put
not_again : (d : Database) (rs : List TableRow) (new : Rows) (r : TableRow) (k : Key) (row : List Value) → put_all d rs ≡ Ok new → get d.rows k ≡ Some row → is_among (carried_keys d.schema r.table r.row) k ≡ true → IsOneOf rs r → ⊥
not_again d [] new r k row e g i one = one
not_again d (x ∷ rs) new r k row e g i (inl same) =
    let a = bind_ok (with_opening d x) (λ rows. put_all (with_rows d rows) rs) new e in
    let p = put_found d x a.0 a.1 in
    let j : is_among (keys d x) k ≡ true = ap (λ (y : TableRow). is_among (keys d y) k) same ∙ i in
    let n = sym (all_free (keys d x) d.rows p.free k j) ∙ g in cc
not_again d (x ∷ rs) new r k row e g i (inr later) =
    let a = bind_ok (with_opening d x) (λ rows. put_all (with_rows d rows) rs) new e in
    not_again (with_rows d a.0) rs new r k row a.2 (stays d (x ∷ []) a.0 k row (ap (λ (o : Result Rows Cause). o >>= λ rows. Ok rows) a.1) g) i later

once : (d : Database) (rs : List TableRow) (new : Rows) → put_all d rs ≡ Ok new → AreOnce rs
once d [] new e = tt
once d (x ∷ rs) new e =
    let a = bind_ok (with_opening d x) (λ rows. put_all (with_rows d rows) rs) new e in
    let p = put_found d x a.0 a.1 in
    let k = has_key d.schema x p.fits in
    let there : get a.0 k.key ≡ Some x.row = ap (λ (m : Rows). get m k.key) (sym p.after) ∙ get-with_row (keys d x) x.row d.rows k.key ∙ ap (λ (v : Bool). cond v (Some x.row) (get d.rows k.key)) k.among in
    (λ i. not_again (with_rows d a.0) rs new x k.key x.row a.2 there k.among i, once (with_rows d a.0) rs new a.2)

pub row_is : (a b : TableRow) → a.table ≡ b.table → a.row ≡ b.row → a ≡ b
row_is a b t r = λ i. record { table = t i; row = r i }

abbrev pub start : List Table → Database
start schema = record { schema = schema; rows = empty }

kept : (schema : List Table) (old new : List TableRow) (rows : Rows) → put_all (start schema) old ≡ Ok rows → put_all (start schema) new ≡ Ok rows → (r : TableRow) → IsOneOf old r → IsOneOf new r
kept schema old new rows e f r i =
    let s = stands (start schema) old rows r e i in
    elim (came (start schema) new rows s.key r.row f s.there) [
      | inl none ↦ absurd (let n = sym (get-empty key_cmp s.key) ∙ none in cc)
      | inr p ↦
          let table : p.one.table ≡ r.table = sym (carried_table schema p.one.table p.one.row s.key p.carries) ∙ carried_table schema r.table r.row s.key s.among in
          subst (IsOneOf new) (row_is p.one r table p.row_is) p.among
    ]

pub differ_in_order : (version : Version) (b : BundleValue) (x y : List ℕ) → WritesBundleAs version x b → WritesBundleAs version y b → DifferInOrder version b x y
differ_in_order version b x y v w =
    let e = v.written.opening.put in
    let f = w.written.opening.put in
    record {
      old = v.rows;
      new = w.rows;
      one = v.text;
      other = w.text;
      reordered = record {
        old_once = once (start b.start.schema) v.rows b.start.rows e;
        new_once = once (start b.start.schema) w.rows b.start.rows f;
        kept = kept b.start.schema v.rows w.rows b.start.rows e f;
        no_others = kept b.start.schema w.rows v.rows b.start.rows f e;
      };
    }
