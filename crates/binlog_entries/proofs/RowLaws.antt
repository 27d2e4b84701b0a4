-- Each line of a row adds what it means to what the row denotes.
use Rattle.std.proofs.Common.{◌≡◌, ℕ, ◌+◌, ◌-◌, Bool, true, false, cond, eqb, not, List, [], ◌∷◌, ◌++◌, length, Option, Some, None, Result, Ok, Err, refl, sym, ap, ◌∙◌, subst, append_assoc, arith}
use Rattle.std.specs.Prelude.{◌&&◌, is_some}
use Rattle.std.proofs.lemmas.Bool.{eqb-true}
use Rattle.std.proofs.lemmas.Option.{same_Some}
use Rattle.row_images.specs.declared.value.Value.{Value}
use Rattle.rows.specs.Names.{is_name}
use Rattle.log_transactions.specs.Machine.{has_table}
use Rattle.log_transactions.specs.Tables.{joined_name, table_name}
use Rattle.binlog_text.specs.declared.types.ColumnType.{ColumnType}
use Rattle.binlog_text.specs.Values.{value_at}
use Rattle.binlog_text.specs.declared.lines.Mark.TheVariants as marks
use Rattle.binlog_text.specs.declared.lines.RowOperation.{RowOperation}
use Rattle.binlog_text.specs.declared.lines.RowOperation.TheVariants as operations
use Rattle.binlog_text.specs.Lines.{OfMark, OfRow, OfValue}
use Rattle.binlog_entries.specs.Tables.{Table, type_at}
use Rattle.binlog_entries.specs.Bodies.{is_row_due, row_behind}
use Rattle.binlog_entries.specs.Machine.{Standing, or_refused, finish_row, open_row, begin_row, row_line, before_due, after_due, where_line, set_line, parse_value, next_value, value_in, value_line, is_closed}
use Rattle.binlog_entries.specs.Meaning.{Meaning, Row, Before, After, Holds, shown_in, with_value, meaning_of_values}
use Rattle.binlog_entries.specs.declared.bodies.Body.{Body}
use Rattle.binlog_entries.specs.declared.bodies.Body.TheVariants as bodies
use Rattle.binlog_entries.specs.declared.draft.RowPart.{RowPart}
use Rattle.binlog_entries.specs.declared.draft.RowPart.TheVariants as parts
use Rattle.binlog_entries.specs.declared.fault.EntryRefusal.{EntryRefusal}
use Rattle.binlog_entries.specs.declared.fault.EntryRefusal.TheVariants as refusals
use Rattle.binlog_entries.proofs.TransactionLaws.{bind_ok, same_ok, if_ok, spelled_row, row_of, context_of, is_rows, RowFits, Sound, Tells, bare, finish_law}

-- ---- rows

-- what is known of a state within rows
pub sound_rows : (s : Standing) → is_rows s.body ≡ true → (is_row_due s.body ≡ true → s.row ≡ None) → RowFits s.row s.part s.before s.after → Sound s
sound_rows s rows due fits = record {
  inside = λ b. absurd (let bad : true ≡ false = sym rows ∙ b in cc);
  closed = λ c. absurd (no_rows s.body rows c);
  due = due;
  fits = fits;
}
  where
    no_rows : (body : Body) → is_rows body ≡ true → is_closed body ≡ true → ⊥
    no_rows bodies.Rows e c = absurd cc
    no_rows bodies.RowsDue e c = absurd cc
    no_rows _ e c = absurd cc

-- after a row's line no row is owed
rows_behind : (body : Body) → is_rows body ≡ true → is_rows (row_behind body) ≡ true
rows_behind bodies.Rows e = refl
rows_behind bodies.RowsDue e = refl
rows_behind _ e = absurd cc

come_due : {A : Type 0} (body : Body) → is_row_due (row_behind body) ≡ true → A
come_due bodies.RowsDue d = absurd cc
come_due _ d = absurd cc

-- the state after a row's line
sound_row : (s : Standing) → is_rows s.body ≡ true → RowFits s.row s.part s.before s.after → Sound (record s { body = row_behind s.body })
sound_row s rows fits = sound_rows (record s { body = row_behind s.body }) (rows_behind s.body rows) (λ d. come_due s.body d) fits

abbrev pub row_taken : Standing → Standing
row_taken t = record t { body = row_behind t.body }

pub where_row : (r : Option (List ℕ)) (operation : RowOperation) (part : RowPart) (before after : List Value) → (is_some r && before_due operation part) ≡ true → RowFits r part before after → (spelled_row r operation parts.Before before after ≡ spelled_row r operation part before after ++ Before ∷ []) × RowFits r parts.Before before after
where_row None operation part before after e fits = absurd cc
where_row (Some table) operations.Update parts.Head before after e fits = (ap (λ (vs : List Value). Row operations.Update table ∷ Before ∷ meaning_of_values 1 vs) fits.0, fits.1)
where_row (Some table) operations.Delete parts.Head before after e fits = (ap (λ (vs : List Value). Row operations.Delete table ∷ Before ∷ meaning_of_values 1 vs) fits.0, fits.1)
where_row (Some table) _ _ before after e fits = absurd cc

pub set_row : (r : Option (List ℕ)) (operation : RowOperation) (part : RowPart) (before after : List Value) → (is_some r && after_due operation part) ≡ true → RowFits r part before after → (spelled_row r operation parts.After before after ≡ spelled_row r operation part before after ++ After ∷ []) × RowFits r parts.After before after
set_row None operation part before after e fits = absurd cc
set_row (Some table) operations.Insert parts.Head before after e fits = (ap (λ (vs : List Value). Row operations.Insert table ∷ After ∷ meaning_of_values 1 vs) fits.1, tt)
set_row (Some table) operations.Update parts.Before before after e fits = (ap (λ (vs : List Value). Row operations.Update table ∷ Before ∷ (meaning_of_values 1 before ++ After ∷ meaning_of_values 1 vs)) fits, tt)
set_row (Some table) _ _ before after e fits = absurd cc

pub where_law : (s t : Standing) → Sound s → is_rows s.body ≡ true → where_line s ≡ Ok t → Tells s (OfMark marks.Where) (row_taken t)
unfolding where_line
where_law s t sound rows h =
    let p = if_ok (is_some s.row && before_due s.operation s.part) (record s { part = parts.Before }) refusals.Columns t h in
    let row = where_row s.row s.operation s.part s.before s.after p.0 sound.fits in
    subst (λ (u : Standing). Tells s (OfMark marks.Where) (row_taken u)) p.1 (record {
      events = refl;
      spells = sym row.0;
      context = refl;
      sound = sound_row (record s { part = parts.Before }) rows row.1;
    })

pub set_law : (s t : Standing) → Sound s → is_rows s.body ≡ true → set_line s ≡ Ok t → Tells s (OfMark marks.Set) (row_taken t)
unfolding set_line
set_law s t sound rows h =
    let p = if_ok (is_some s.row && after_due s.operation s.part) (record s { part = parts.After }) refusals.Columns t h in
    let row = set_row s.row s.operation s.part s.before s.after p.0 sound.fits in
    subst (λ (u : Standing). Tells s (OfMark marks.Set) (row_taken u)) p.1 (record {
      events = refl;
      spells = sym row.0;
      context = refl;
      sound = sound_row (record s { part = parts.After }) rows row.1;
    })

-- one value more
pub held_more : (n m : ℕ) (vs : List Value) (v : Value) → m ≡ n + length vs → meaning_of_values n (vs ++ v ∷ []) ≡ meaning_of_values n vs ++ Holds m (Some v) ∷ []
held_more n m [] v e = ap (λ (k : ℕ). Holds k (Some v) ∷ []) (omega (arith, e))
held_more n m (w ∷ ws) v e = ap (λ (xs : List Meaning). Holds n (Some w) ∷ xs) (held_more (n + 1) m ws v (omega (arith, e)))

-- the value that was read is that which the column shows
pub value_found : (type : Option ColumnType) (text : List ℕ) (v : Value) → parse_value type text ≡ Ok v → shown_in type text ≡ Some v
value_found None text v e = absurd cc
value_found (Some type) text v e = taken (value_at type text) v e
  where
    taken : (o : Option Value) (v : Value) → or_refused refusals.Value o ≡ Ok v → o ≡ Some v
    taken None v e = absurd cc
    taken (Some w) v e = ap Some (same_ok w v e)

-- the content of a value's line
pub record Values (s : Standing) (place n : ℕ) (text : List ℕ) (v : Value) : Type 0 where
  pub number : n ≡ place + 1
  pub shown : shown_in (type_at s.row s.tables (n - 1)) text ≡ Some v
  pub row : (table : List ℕ) × (s.row ≡ Some table)

pub row_typed : (r : Option (List ℕ)) (tables : List Table) (place : ℕ) (text : List ℕ) (v : Value) → parse_value (type_at r tables place) text ≡ Ok v → (table : List ℕ) × (r ≡ Some table)
row_typed None tables place text v e = absurd cc
row_typed (Some table) tables place text v e = (table, refl)

pub next_found : (s : Standing) (place n : ℕ) (text : List ℕ) (v : Value) → next_value s place n text ≡ Ok v → Values s place n text v
next_found s place n text v e =
    let p = chosen_result (eqb n (place + 1)) (parse_value (type_at s.row s.tables place) text) refusals.Columns v e in
    let number = eqb-true n (place + 1) p.0 in
    let back : n - 1 ≡ place = omega (arith, number) in
    record {
      number = number;
      shown = ap (λ (k : ℕ). shown_in (type_at s.row s.tables k) text) back ∙ value_found (type_at s.row s.tables place) text v p.1;
      row = row_typed s.row s.tables place text v p.1;
    }
  where
    chosen_result : (b : Bool) (r : Result Value EntryRefusal) (e : EntryRefusal) (v : Value) → cond b r (Err e) ≡ Ok v → (b ≡ true) × (r ≡ Ok v)
    chosen_result true r e v h = (refl, h)
    chosen_result false r e v h = absurd cc

pub before_more : (r : Option (List ℕ)) (table : List ℕ) (operation : RowOperation) (before after : List Value) (n : ℕ) (v : Value) → r ≡ Some table → n ≡ length before + 1 → spelled_row r operation parts.Before (before ++ v ∷ []) after ≡ spelled_row r operation parts.Before before after ++ Holds n (Some v) ∷ []
before_more None table operation before after n v e m = absurd cc
before_more (Some t) table operation before after n v e m = ap (λ (xs : List Meaning). Row operation t ∷ Before ∷ xs) (held_more 1 n before v (omega (arith, m)))

pub after_more : (r : Option (List ℕ)) (table : List ℕ) (operation : RowOperation) (before after : List Value) (n : ℕ) (v : Value) → r ≡ Some table → n ≡ length after + 1 → spelled_row r operation parts.After before (after ++ v ∷ []) ≡ spelled_row r operation parts.After before after ++ Holds n (Some v) ∷ []
after_more None table operation before after n v e m = absurd cc
after_more (Some t) table operations.Insert before after n v e m = ap (λ (xs : List Meaning). Row operations.Insert t ∷ After ∷ xs) (held_more 1 n after v (omega (arith, m)))
after_more (Some t) table operations.Update before after n v e m =
    ap (λ (xs : List Meaning). Row operations.Update t ∷ Before ∷ (meaning_of_values 1 before ++ After ∷ xs)) (held_more 1 n after v (omega (arith, m)))
    ∙ ap (λ (xs : List Meaning). Row operations.Update t ∷ Before ∷ xs) (sym (append_assoc (meaning_of_values 1 before) (After ∷ meaning_of_values 1 after) (Holds n (Some v) ∷ [])))
after_more (Some t) table operations.Delete before after n v e m =
    ap (λ (xs : List Meaning). Row operations.Delete t ∷ Before ∷ (meaning_of_values 1 before ++ After ∷ xs)) (held_more 1 n after v (omega (arith, m)))
    ∙ ap (λ (xs : List Meaning). Row operations.Delete t ∷ Before ∷ xs) (sym (append_assoc (meaning_of_values 1 before) (After ∷ meaning_of_values 1 after) (Holds n (Some v) ∷ [])))

pub fits_before : (r : Option (List ℕ)) (table : List ℕ) (before more after : List Value) → r ≡ Some table → RowFits r parts.Before before after → RowFits r parts.Before more after
fits_before None table before more after e fits = absurd cc
fits_before (Some t) table before more after e fits = fits

pub fits_after : (r : Option (List ℕ)) (table : List ℕ) (before after : List Value) → r ≡ Some table → RowFits r parts.After before after
fits_after None table before after e = absurd cc
fits_after (Some t) table before after e = tt

pub value_by : (s t : Standing) (part : RowPart) (n : ℕ) (text : List ℕ) → Sound s → is_rows s.body ≡ true → s.part ≡ part → value_in s part n text ≡ Ok t → Tells s (OfValue n text) (row_taken t)
value_by s t parts.Head n text sound rows is h = absurd cc
value_by s t parts.Before n text sound rows is h =
    let a = bind_ok (next_value s (length s.before) n text) _ t h in
    let v = next_found s (length s.before) n text a.0 a.1 in
    let row : spelled_row s.row s.operation s.part (s.before ++ a.0 ∷ []) s.after ≡ row_of s ++ Holds n (Some a.0) ∷ [] =
    subst (λ (p : RowPart). spelled_row s.row s.operation p (s.before ++ a.0 ∷ []) s.after ≡ spelled_row s.row s.operation p s.before s.after ++ Holds n (Some a.0) ∷ []) (sym is)
    (before_more s.row v.row.0 s.operation s.before s.after n a.0 v.row.1 v.number) in
    let fits : RowFits s.row s.part (s.before ++ a.0 ∷ []) s.after =
    subst (λ (p : RowPart). RowFits s.row p (s.before ++ a.0 ∷ []) s.after) (sym is)
    (fits_before s.row v.row.0 s.before (s.before ++ a.0 ∷ []) s.after v.row.1 (subst (λ (p : RowPart). RowFits s.row p s.before s.after) is sound.fits)) in
    subst (λ (u : Standing). Tells s (OfValue n text) (row_taken u)) (same_ok _ t a.2) (record {
      events = refl;
      spells = ap (λ (o : Option Value). row_of s ++ Holds n o ∷ []) v.shown ∙ sym row;
      context = sym (λ i. with_value (context_of s) (is i) (v.shown i));
      sound = sound_row (record s { before = s.before ++ a.0 ∷ [] }) rows fits;
    })
value_by s t parts.After n text sound rows is h =
    let a = bind_ok (next_value s (length s.after) n text) _ t h in
    let v = next_found s (length s.after) n text a.0 a.1 in
    let row : spelled_row s.row s.operation s.part s.before (s.after ++ a.0 ∷ []) ≡ row_of s ++ Holds n (Some a.0) ∷ [] =
    subst (λ (p : RowPart). spelled_row s.row s.operation p s.before (s.after ++ a.0 ∷ []) ≡ spelled_row s.row s.operation p s.before s.after ++ Holds n (Some a.0) ∷ []) (sym is)
    (after_more s.row v.row.0 s.operation s.before s.after n a.0 v.row.1 v.number) in
    let fits : RowFits s.row s.part s.before (s.after ++ a.0 ∷ []) =
    subst (λ (p : RowPart). RowFits s.row p s.before (s.after ++ a.0 ∷ [])) (sym is) (fits_after s.row v.row.0 s.before (s.after ++ a.0 ∷ []) v.row.1) in
    subst (λ (u : Standing). Tells s (OfValue n text) (row_taken u)) (same_ok _ t a.2) (record {
      events = refl;
      spells = ap (λ (o : Option Value). row_of s ++ Holds n o ∷ []) v.shown ∙ sym row;
      context = sym (λ i. with_value (context_of s) (is i) (v.shown i));
      sound = sound_row (record s { after = s.after ++ a.0 ∷ [] }) rows fits;
    })

pub value_law : (s t : Standing) (n : ℕ) (text : List ℕ) → Sound s → is_rows s.body ≡ true → value_line s n text ≡ Ok t → Tells s (OfValue n text) (row_taken t)
unfolding value_line
value_law s t n text sound rows h = value_by s t s.part n text sound rows refl h

-- ---- the head of a row

pub named_is : (b : Bool) (word name : List ℕ) → (let o : Option (List ℕ) = cond b (Some word) None in o) ≡ Some name → word ≡ name
named_is true word name e = same_Some _ _ e
named_is false word name e = absurd cc

-- passed tests
pub unless_not : {A : Type 0} (b : Bool) (e : EntryRefusal) (r : Result A EntryRefusal) (x : A) → cond (not b) (Err e) r ≡ Ok x → (b ≡ true) × (r ≡ Ok x)
unless_not true e r x h = (refl, h)
unless_not false e r x h = absurd cc

abbrev pub with_row : Standing → List ℕ → RowOperation → Standing
with_row s table operation = record s { row = Some table; operation = operation; part = parts.Head }

pub opened_is : (s t : Standing) (operation : RowOperation) (o : Option (List ℕ)) → open_row s operation o ≡ Ok t → (table : List ℕ) × (o ≡ Some table) × (with_row s table operation ≡ t)
opened_is s t operation None e = absurd cc
opened_is s t operation (Some table) e = (table, refl, (if_ok (has_table s.log table) (with_row s table operation) refusals.Table t e).1)

pub row_law : (s t : Standing) (operation : RowOperation) (database table : List ℕ) → Sound s → is_rows s.body ≡ true → row_line s operation database table ≡ Ok t → Tells s (OfRow operation database table) (row_taken t)
unfolding row_line
row_law s t operation database table sound rows h =
    let a = bind_ok (finish_row s) (λ u. begin_row u operation database table) t h in
    let f = finish_law s a.0 sound a.1 in
    let joined = joined_name database table in
    let o = opened_is a.0 t operation (table_name database table) a.2 in
    let name = named_is (is_name joined) joined o.0 o.1 in
    let is : with_row (bare s a.0.log) joined operation ≡ t =
    ap (λ (xs : List ℕ). with_row (bare s a.0.log) xs operation) name ∙ ap (λ (u : Standing). with_row u o.0 operation) (sym f.is) ∙ o.2 in
    subst (λ (u : Standing). Tells s (OfRow operation database table) (row_taken u)) is (record {
      events = f.run;
      spells = ap (λ (xs : List Meaning). xs ++ Row operation joined ∷ []) f.spells;
      context = refl;
      sound = sound_row (with_row (bare s a.0.log) joined operation) rows (refl, refl);
    })
