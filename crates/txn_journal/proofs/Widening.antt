-- What the narrow limits allow is the same under the widest.
use Rattle.std.proofs.Common.{◌≡◌, ℕ, ◌+◌, ◌<◌, ◌≤◌, Bool, true, false, not, cond, leb, ltb, eqb, List, [], ◌∷◌, ◌++◌, length, map, flat_map, Option, Some, None, Result, Ok, Err, refl, sym, ap, subst, ◌∙◌, arith}
use Rattle.std.specs.Prelude.{◌&&◌, ◌||◌, is_some}
use Rattle.std.specs.List.{list_any, list_all, AllByRecursion}
use Rattle.std.specs.FinMap as map_of
use Rattle.std.specs.Ordering.{nat_cmp, eq_by_cmp}
use Rattle.std.specs.Cmp.Lexicographic.{slice_cmp}
use Rattle.std.proofs.lemmas.Bool.{and_parts, or_parts, lt-leb}
use Rattle.std.proofs.lemmas.Bool.Decides.{nat_tests}
use Rattle.std.proofs.lemmas.List.{length-map, map-append}
use Rattle.gtid_set.specs.Sets.{Gtids}
use Rattle.rows.specs.declared.schema.Table.{Table}
use Rattle.rows.specs.declared.change.Key.{Key}
use Rattle.rows.specs.declared.change.Change.{Change}
use Rattle.rows.specs.declared.change.Change.TheVariants.{Insert, Delete, Update}
use Rattle.rows.specs.declared.change.Misfit.TheVariants.{Columns, NullInPrimary, TooLong, TooMany}
use Rattle.rows.specs.declared.change.NotInSchema.{NotInSchema}
use Rattle.rows.specs.declared.change.RowFault.{RowFault}
use Rattle.rows.specs.declared.change.Transaction.{Transaction}
use Rattle.rows.specs.declared.change.TableRow.{TableRow}
use Rattle.rows.specs.declared.limits.Limits.{Limits}
use Rattle.rows.specs.declared.limits.Limits.TheVariants.{Narrow, Wide}
use Rattle.rows.specs.Apply.{Rows, ◌>>=◌, insert_row, apply_from, apply}
use Rattle.rows.specs.Database.{Database, opening}
use Rattle.rows.specs.Fits.{has_primary_null, first_cause, misfit_in, count_misfit, or_later, misfit}
use Rattle.rows.specs.Keys.{find_table, keys_in, carried_keys}
use Rattle.rows.specs.Limits.{most_tables, most_columns, most_uniques, most_bytes, most_changes}
use Rattle.rows.specs.Tables.{is_taken, is_within_limits, table_fault}
use Rattle.rows.specs.WriteSet.{keys_of_change, is_among, shares_key}
use Rattle.row_images.specs.declared.value.Value.{Value}
use Rattle.row_images.specs.declared.value.Value.TheVariants.{Null, Int, Bytes}
use Rattle.row_images.specs.Values.{is_longer}
use Rattle.journal.specs.declared.Entry.{Entry}
use Rattle.journal.specs.Journals.{JournalValue}
use Rattle.journal.specs.Writing.{is_image_writable}
use Rattle.logical_timestamps.specs.Timestamps.{last_place, last_committed, each_last_committed}
use Rattle.txn_journal.specs.Machine.{takes_change, fits}
use Rattle.txn_journal.specs.Shapes.{FitsTable, shape_for}
use Rattle.txn_journal.specs.Spelling.{FitsChange, FitsEntry, IsWritten}
use Rattle.txn_journal.specs.Stamps.{all_stamps}
use Rattle.txn_journal.specs.BundleStates.{BundleValue, ok_rows, with_opening}
use Rattle.txn_journal.specs.BundleText.{BundleLine, Own, Heads, Names, Starts, Has, Done, table_lines, reference_lines, row_lines, assumption_lines, channels_lines, bundle_text, bundle_spelling, FitsRow, AreAdded, put_all, AreOpening, AreNamed, entry_fits, AreBrought, IsWrittenBundle, IsWritableBy, spelling_by, WritesPlainBundle}
use Rattle.txn_journal.specs.References.{AreReferences}
use Rattle.txn_journal.specs.Assumptions.{AreAssumptions}
use Rattle.txn_journal.specs.declared.references.Reference.{Reference}
use Rattle.txn_journal.specs.declared.assumptions.Assumption.{Assumption}
use Rattle.rows.specs.Listing.{rows_listed}
use Rattle.txn_journal.specs.Lines.{takes}
use Rattle.txn_journal.specs.Versions.{limits_of}
use Rattle.txn_journal.specs.Widened.{widened_table, widened_start, widened, WidensByThree, IsReadWidened}
use Rattle.txn_journal.specs.declared.bundle.BundleChannel.{BundleChannel}
use Rattle.txn_journal.specs.declared.fault.Cause.{Cause}
use Rattle.txn_journal.specs.declared.fault.Cause.TheVariants as causes
use Rattle.txn_journal.specs.declared.lines.Version.{Version}
use Rattle.txn_journal.specs.declared.lines.Version.TheVariants.{One, Two, Three}
use Rattle.txn_journal.proofs.Judged.{bind_ok}
use Rattle.txn_journal.proofs.NameLemmas.{wide_name}
use Rattle.txn_journal.proofs.ShapeLaws.{allowed}
use Rattle.txn_journal.proofs.SoundLines.{all_wide, image_wide}
use Rattle.txn_journal.proofs.BundleTaken.{version_is}
use Rattle.txn_journal.proofs.BundleLaws.{relisted_by}
use Rattle.txn_journal.proofs.BundlePlaces.{plain_bundle, read_by_any}
use Rattle.txn_journal.specs.declared.lines.Due.TheVariants.{Only}

-- ---- tables and keys

abbrev widen : Option Table → Option Table
widen None = None
widen (Some t) = Some (widened_table t)

found : (name : List ℕ) (b : Bool) (t : Table) (rest : Option Table) → cond b (Some (widened_table t)) (widen rest) ≡ widen (cond b (Some t) rest)
found name true t rest = refl
found name false t rest = refl

pub find_wide : (name : List ℕ) (ts : List Table) → find_table name (map widened_table ts) ≡ widen (find_table name ts)
find_wide name [] = refl
find_wide name (t ∷ ts) =
    let is = eq_by_cmp (slice_cmp nat_cmp) name t.name in
    ap (cond is (Some (widened_table t))) (find_wide name ts) ∙ found name is t (find_table name ts)

keys_wide : (o : Option Table) (row : List Value) → keys_in (widen o) row ≡ keys_in o row
keys_wide None row = refl
keys_wide (Some t) row = refl

pub carried_wide : (ts : List Table) (name : List ℕ) (row : List Value) → carried_keys (map widened_table ts) name row ≡ carried_keys ts name row
carried_wide ts name row = ap (λ (o : Option Table). keys_in o row) (find_wide name ts) ∙ keys_wide (find_table name ts) row

change_wide : (ts : List Table) (c : Change) → keys_of_change (map widened_table ts) c ≡ keys_of_change ts c
change_wide ts (Insert table after) = carried_wide ts table after
change_wide ts (Delete table before) = carried_wide ts table before
change_wide ts (Update table before after) = λ i. carried_wide ts table before i ++ carried_wide ts table after i

set_wide : (ts : List Table) (cs : List Change) → flat_map (keys_of_change (map widened_table ts)) cs ≡ flat_map (keys_of_change ts) cs
set_wide ts [] = refl
set_wide ts (c ∷ cs) = λ i. change_wide ts c i ++ set_wide ts cs i

shares_wide : (ts : List Table) (a b : Transaction) → shares_key (map widened_table ts) a b ≡ shares_key ts a b
shares_wide ts a b = λ i. list_any (λ (k : Key). is_among (set_wide ts b.changes i) k) (set_wide ts a.changes i)

stamp_wide : (ts : List Table) (earlier : List Entry) (e : Entry) → last_committed (map widened_table ts) earlier e ≡ last_committed ts earlier e
stamp_wide ts earlier e = λ i. last_place (λ (f : Entry). shares_wide ts f.txn e.txn i) 1 0 earlier

pub stamps_wide : (ts : List Table) (earlier es : List Entry) → each_last_committed (map widened_table ts) earlier es ≡ each_last_committed ts earlier es
stamps_wide ts earlier [] = refl
stamps_wide ts earlier (e ∷ es) = λ i. stamp_wide ts earlier e i ∷ stamps_wide ts (earlier ++ e ∷ []) es i

-- ---- what tables take

takes_wide : (o : Option Table) (c : Change) → takes_change (widen o) c ≡ takes_change o c
takes_wide None c = refl
takes_wide (Some t) (Insert name after) = refl
takes_wide (Some t) (Delete name before) = refl
takes_wide (Some t) (Update name before after) = refl

fits_wide : (ts : List Table) (c : Change) → fits (Some (map widened_table ts)) c ≡ fits (Some ts) c
fits_wide ts (Insert name after) = ap (λ (o : Option Table). takes_change o (Insert name after)) (find_wide name ts) ∙ takes_wide (find_table name ts) (Insert name after)
fits_wide ts (Delete name before) = ap (λ (o : Option Table). takes_change o (Delete name before)) (find_wide name ts) ∙ takes_wide (find_table name ts) (Delete name before)
fits_wide ts (Update name before after) = ap (λ (o : Option Table). takes_change o (Update name before after)) (find_wide name ts) ∙ takes_wide (find_table name ts) (Update name before after)

changes_fit : (ts : List Table) (cs : List Change) → list_all (fits (Some (map widened_table ts))) cs ≡ list_all (fits (Some ts)) cs
changes_fit ts [] = refl
changes_fit ts (c ∷ cs) = λ i. fits_wide ts c i && changes_fit ts cs i

pub entries_fit : (ts : List Table) (es : List Entry) → list_all (entry_fits (map widened_table ts)) es ≡ list_all (entry_fits ts) es
entries_fit ts [] = refl
entries_fit ts (e ∷ es) = λ i. changes_fit ts e.txn.changes i && entries_fit ts es i

-- ---- tables that may come after others

taken_wide : (o : Option Table) → is_some (widen o) ≡ is_some o
taken_wide None = refl
taken_wide (Some t) = refl

few_columns : (n : ℕ) → leb n 64 ≡ true → leb n 4096 ≡ true
few_columns n h = grind (arith, nat_tests, h)

few_uniques : (n : ℕ) → leb n 8 ≡ true → leb n 64 ≡ true
few_uniques n h = grind (arith, nat_tests, h)

few_tables : (n : ℕ) → ltb n 256 ≡ true → ltb n 65536 ≡ true
few_tables n h = grind (arith, nat_tests, h)

within_wide : (t : Table) → t.limits ≡ Narrow → is_within_limits t ≡ true → is_within_limits (widened_table t) ≡ true
within_wide t narrow e =
    let within : ((ltb t.hidden t.columns && leb t.columns 64) && leb (length t.uniques) 8) ≡ true = subst (λ (l : Limits). ((ltb t.hidden t.columns && leb t.columns (most_columns l)) && leb (length t.uniques) (most_uniques l)) ≡ true) narrow e in
    let p = and_parts (ltb t.hidden t.columns && leb t.columns 64) (leb (length t.uniques) 8) within in
    let q = and_parts (ltb t.hidden t.columns) (leb t.columns 64) p.0 in
    rw (q.0, few_columns t.columns q.1, few_uniques (length t.uniques) p.1) refl

free_wide : (before : List Table) (t : Table) → t.limits ≡ Narrow → table_fault before t ≡ None → table_fault (map widened_table before) (widened_table t) ≡ None
free_wide before t narrow free =
    let a = allowed before t free in
    let room : ltb (length before) 256 ≡ true = subst (λ (l : Limits). ltb (length before) (most_tables l) ≡ true) narrow a.room in
    let new : is_taken t.name (map widened_table before) ≡ false = ap (λ (o : Option Table). is_some o) (find_wide t.name before) ∙ taken_wide (find_table t.name before) ∙ a.new in
    rw (a.lists, within_wide t narrow a.limits, length-map before widened_table, few_tables (length before) room, new, a.below) refl

table_wide : (t : Table) → FitsTable Narrow t → FitsTable Wide (widened_table t)
table_wide t f = record { name = wide_name t.name f.name; hidden = tt; same_limits = refl }

pub added_wide : (before ts : List Table) → AreAdded Narrow before ts → AreAdded Wide (map widened_table before) (map widened_table ts)
added_wide before [] h = tt
added_wide before (t ∷ ts) (f, free, more) = (
  table_wide t f,
  free_wide before t f.same_limits free,
  subst (λ (bs : List Table). AreAdded Wide bs (map widened_table ts)) (map-append widened_table before (t ∷ [])) (added_wide (before ++ t ∷ []) ts more),
)

-- ---- opening rows

-- why a row is none of its table, by what is tested of it and of its transaction
abbrev cause_by : Bool → Bool → Bool → Bool → Option NotInSchema
cause_by bad null long many = or_later (first_cause (cond bad (Some Columns) (cond null (Some NullInPrimary) (cond long (Some TooLong) None))) (cond many (Some TooMany) None)) 0 None

no_cause : (bad null long many : Bool) → is_some (cause_by bad null long many) ≡ false → (bad ≡ false) × (null ≡ false) × (long ≡ false)
no_cause true null long true e = absurd cc
no_cause true null long false e = absurd cc
no_cause false true long true e = absurd cc
no_cause false true long false e = absurd cc
no_cause false false true true e = absurd cc
no_cause false false true false e = absurd cc
no_cause false false false true e = absurd cc
no_cause false false false false e = (refl, refl, refl)

short_bytes : (n : ℕ) → ltb 65535 n ≡ false → ltb 4294967295 n ≡ false
short_bytes n h = grind (arith, nat_tests, h)

short_value : (v : Value) → is_longer 65535 v ≡ false → is_longer 4294967295 v ≡ false
short_value Null h = refl
short_value (Int n) h = refl
short_value (Bytes bytes) h = short_bytes (length bytes) h

short_values : (row : List Value) → list_any (is_longer 65535) row ≡ false → list_any (is_longer 4294967295) row ≡ false
short_values [] h = refl
short_values (v ∷ vs) h =
    let p = or_parts (is_longer 65535 v) (list_any (is_longer 65535) vs) h in
    rw (short_value v p.0, short_values vs p.1) refl

short_row : (limits : Limits) (row : List Value) → list_any (is_longer (most_bytes limits)) row ≡ false → list_any (is_longer (most_bytes Wide)) row ≡ false
short_row Narrow row h = short_values row h
short_row Wide row h = h

-- an opening row that a table takes
abbrev misfit_of : Option Table → List ℕ → List Value → Option NotInSchema
misfit_of o name row = or_later (first_cause (misfit_in o (Insert name row)) (count_misfit o 0)) 0 None

row_wide : (o : Option Table) (name : List ℕ) (row : List Value) → is_some (misfit_of o name row) ≡ false → is_some (misfit_of (widen o) name row) ≡ false
row_wide None name row e = absurd cc
row_wide (Some t) name row e =
    let n = no_cause (not (eqb (length row) t.columns)) (has_primary_null t row) (list_any (is_longer (most_bytes t.limits)) row) (leb (most_changes t.limits) 0) e in
    rw (n.0, n.1, short_row t.limits row n.2, lt-leb 4294967294 0 (omega arith)) refl

single : (schema : List Table) (r : Result Rows RowFault) → (r >>= apply_from schema 1 []) ≡ r
single schema (Ok rows) = refl
single schema (Err fault) = refl

apply_wide : (ts : List Table) (name : List ℕ) (row : List Value) (rows : Rows) → apply (map widened_table ts) (opening name row) rows ≡ apply ts (opening name row) rows
apply_wide ts name row rows =
    single (map widened_table ts) (insert_row 0 (carried_keys (map widened_table ts) name row) row rows)
    ∙ ap (λ (ks : List Key). insert_row 0 ks row rows) (carried_wide ts name row)
    ∙ sym (single ts (insert_row 0 (carried_keys ts name row) row rows))

abbrev refused_rows : Cause → Result Rows Cause
refused_rows c = Err c

put_parts : (b : Bool) (r : Result Rows RowFault) (rows : Rows) → cond b (refused_rows causes.Schema) (ok_rows r) ≡ Ok rows → (b ≡ false) × (ok_rows r ≡ Ok rows)
put_parts true r rows e = absurd cc
put_parts false r rows e = (refl, e)

with_wide : (d : Database) (r : TableRow) (rows : Rows) → with_opening d r ≡ Ok rows → with_opening (widened_start d) r ≡ Ok rows
unfolding with_opening
with_wide d r rows e =
    let p = put_parts (is_some (misfit d.schema (opening r.table r.row))) (apply d.schema (opening r.table r.row) d.rows) rows e in
    let taken : is_some (misfit (map widened_table d.schema) (opening r.table r.row)) ≡ false = ap (λ (o : Option Table). is_some (misfit_of o r.table r.row)) (find_wide r.table d.schema) ∙ row_wide (find_table r.table d.schema) r.table r.row p.0 in
    rw taken (ap ok_rows (apply_wide d.schema r.table r.row d.rows) ∙ p.1)

pub put_wide : (d : Database) (rs : List TableRow) (rows : Rows) → put_all d rs ≡ Ok rows → put_all (widened_start d) rs ≡ Ok rows
put_wide d [] rows e = e
put_wide d (r ∷ rs) rows e =
    let a = bind_ok (with_opening d r) (λ x. put_all (record d { rows = x }) rs) rows e in
    rw (with_wide d r a.0 a.1) (put_wide (record d { rows = a.0 }) rs rows a.2)

fit_wide : (rs : List TableRow) → AllByRecursion (FitsRow Narrow) rs → AllByRecursion (FitsRow Wide) rs
fit_wide [] h = tt
fit_wide (r ∷ rs) (f, more) = (record { name = wide_name r.table f.name; values = f.values; some = f.some }, fit_wide rs more)

writable_wide : (rs : List TableRow) → list_all (λ r. is_image_writable Narrow r.row) rs ≡ true → list_all (λ r. is_image_writable Wide r.row) rs ≡ true
writable_wide [] h = refl
writable_wide (r ∷ rs) h =
    let p = and_parts (is_image_writable Narrow r.row) (list_all (λ r. is_image_writable Narrow r.row) rs) h in
    rw (image_wide Narrow r.row p.0, writable_wide rs p.1) refl

pub opening_wide : (ts : List Table) (rs : List TableRow) (rows : Rows) → AreOpening Narrow ts rs rows → AreOpening Wide (map widened_table ts) rs rows
opening_wide ts rs rows o = record { fit = fit_wide rs o.fit; writable = writable_wide rs o.writable; put = put_wide (record { schema = ts; rows = map_of.empty }) rs rows o.put }

-- ---- channels and journals

named_wide : (before cs : List BundleChannel) → AreNamed Narrow before cs → AreNamed Wide before cs
named_wide before [] h = tt
named_wide before (c ∷ cs) (name, new, more) = (wide_name c.name name, new, named_wide (before ++ c ∷ []) cs more)

fits_change_wide : (c : Change) → FitsChange Narrow c → FitsChange Wide c
fits_change_wide (Insert table after) (name, values) = (wide_name table name, values)
fits_change_wide (Delete table before) (name, values) = (wide_name table name, values)
fits_change_wide (Update table before after) (name, old, new) = (wide_name table name, old, new)

fits_changes_wide : (cs : List Change) → AllByRecursion (FitsChange Narrow) cs → AllByRecursion (FitsChange Wide) cs
fits_changes_wide [] h = tt
fits_changes_wide (c ∷ cs) (f, more) = (fits_change_wide c f, fits_changes_wide cs more)

entries_wide : (es : List Entry) → AllByRecursion (FitsEntry Narrow) es → AllByRecursion (FitsEntry Wide) es
entries_wide [] h = tt
entries_wide (e ∷ es) (f, more) = (record { source = f.source; changes = fits_changes_wide e.txn.changes f.changes }, entries_wide es more)

written_wide : (j : JournalValue) → IsWritten Narrow j → IsWritten Wide j
written_wide j w = record { keeps = w.keeps; writable = all_wide Narrow j.entries w.writable; few = w.few; previous = w.previous; entries = entries_wide j.entries w.entries }

brought_wide : (ts : List Table) (cs : List BundleChannel) (js : List JournalValue) → AreBrought Narrow ts cs js → AreBrought Wide (map widened_table ts) cs js
brought_wide ts [] [] h = tt
brought_wide ts [] (j ∷ js) h = h
brought_wide ts (c ∷ cs) [] h = h
brought_wide ts (c ∷ cs) (j ∷ js) (w, more) = (record { written = written_wide j w.written; fitting = entries_fit ts j.entries ∙ w.fitting }, brought_wide ts cs js more)

-- texts with narrow limits have neither references nor assumptions
references_wide : (ts : List Table) (rs : List Reference) → AreReferences Narrow ts rs → AreReferences Wide (map widened_table ts) rs
references_wide ts [] h = record { few = h.few; each = tt }
references_wide ts (r ∷ rs) h = absurd h.each.0.wide

assumed_wide : (opened : Gtids) (start wide : Database) (cs : List BundleChannel) (js : List JournalValue) (said : List Assumption) → AreAssumptions Narrow opened start cs js said → AreAssumptions Wide opened wide cs js said
assumed_wide opened start wide cs js [] h = record { few = h.few; each = tt }
assumed_wide opened start wide cs js (a ∷ said) h = absurd h.each.0

pub bundle_wide : (rows : List TableRow) (b : BundleValue) → IsWrittenBundle Two rows b → IsWrittenBundle Three rows (widened b)
bundle_wide rows b w = record {
  replica = w.replica;
  opened = w.opened;
  tables = added_wide [] b.start.schema w.tables;
  references = references_wide b.start.schema b.references w.references;
  opening = opening_wide b.start.schema rows b.start.rows w.opening;
  named = named_wide [] b.channels w.named;
  few = w.few;
  brought = brought_wide b.start.schema b.channels b.journals w.brought;
  assumed = assumed_wide b.opened b.start (widened b).start b.channels b.journals b.assumptions w.assumed;
}

-- ---- its text

tables_same : (ts : List Table) → table_lines (map widened_table ts) ≡ table_lines ts
tables_same [] = refl
tables_same (t ∷ ts) = ap (λ (ls : List BundleLine). Own (Has (shape_for t)) ∷ ls) (tables_same ts)

stamps_same : (ts : List Table) (js : List JournalValue) → all_stamps Three (map widened_table ts) js ≡ all_stamps Three ts js
stamps_same ts [] = refl
stamps_same ts (j ∷ js) = λ i. stamps_wide ts [] j.entries i ∷ stamps_same ts js i

pub spelling_wide : (rows : List TableRow) (b : BundleValue) → bundle_spelling Three rows (widened b) ≡ bundle_spelling Three rows b
spelling_wide rows b = λ i.
    bundle_text (((((Own (Heads Three) ∷ Own (Names b.replica) ∷ Own (Starts b.opened) ∷ []) ++ tables_same b.start.schema i) ++ (reference_lines b.references ++ row_lines rows)) ++ channels_lines Three b.channels (stamps_same b.start.schema b.journals i) b.journals) ++ (assumption_lines b.assumptions ++ Own Done ∷ []))

-- ---- what version 3 writes of it

by_two : (version : Version) (rows : List TableRow) (b : BundleValue) → limits_of version ≡ Narrow → IsWrittenBundle version rows b → IsWritableBy Two b
by_two One rows b narrow w = relisted_by One rows b w
by_two Two rows b narrow w = relisted_by Two rows b w
by_two Three rows b narrow w = absurd cc

three_plain : (version : Version) (bytes : List ℕ) (b : BundleValue) → limits_of version ≡ Narrow → WritesPlainBundle (Only version) bytes b → WritesPlainBundle (Only Three) (spelling_by Three b) (widened b)
three_plain version bytes b narrow (v, is, w) =
    let rows = rows_listed b.start.rows in
    let two = by_two v w.rows b (ap limits_of (version_is version v is) ∙ narrow) w.written in
    (Three, refl, record { rows = rows; written = bundle_wide rows b two; text = sym (spelling_wide rows b) })

pub widens : WidensByThree
widens version bytes b narrow w = plain_bundle (Only Three) (spelling_by Three b) (widened b) (three_plain version _ b narrow w.written)

pub widens_read : IsReadWidened
widens_read version bytes b narrow w = read_by_any Three (spelling_by Three b) (widened b) (three_plain version _ b narrow w.written)
