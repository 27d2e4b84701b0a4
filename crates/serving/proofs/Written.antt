-- A bundle that can be written can be served.
use Rattle.std.proofs.Common.{◌≡◌, ℕ, ◌+◌, ◌<◌, ◌≤◌, nat_le, nat_lt, Bool, true, false, cond, not, ◌&&◌, ◌||◌, List, [], ◌∷◌, ◌++◌, length, Option, Some, None, refl, sym, subst, arith}
use Rattle.std.specs.Prelude.{◌==◌}
use Rattle.std.specs.Ordering.{nat_cmp, eq_by_cmp}
use Rattle.std.specs.Cmp.Lexicographic.{slice_cmp}
use Rattle.std.specs.List.{list_all, list_any, AllByRecursion}
use Rattle.std.proofs.lemmas.Bool.Decides.{nat_tests}
use Rattle.row_images.specs.declared.value.Value.{Value}
use Rattle.row_images.specs.declared.value.Value.TheVariants.{Null, Int, Bytes}
use Rattle.rows.specs.declared.change.Change.{Change}
use Rattle.rows.specs.declared.change.Change.TheVariants.{Insert, Delete, Update}
use Rattle.rows.specs.declared.change.Misfit.TheVariants.{Columns, NullInPrimary, TooLong, TooMany}
use Rattle.rows.specs.declared.schema.Table.{Table}
use Rattle.rows.specs.Keys.{find_table}
use Rattle.rows.specs.Fits.{row_misfit, has_primary_null, first_cause, images_misfit, table_of, misfit_in, count_misfit, or_later, misfit_from, Fits}
use Rattle.row_images.specs.Values.{is_longer}
use Rattle.rows.specs.Limits.{most_columns, most_changes, most_bytes}
use Rattle.rows.specs.declared.limits.Limits.{Limits}
use Rattle.rows.specs.declared.limits.Limits.TheVariants.{Narrow, Wide}
use Rattle.journal.specs.declared.Entry.{Entry}
use Rattle.journal.specs.Journals.{JournalValue}
use Rattle.journal.specs.Writing.{is_value_writable, is_image_writable, is_change_writable, is_txn_writable, is_number, is_writable}
use Rattle.apply_channel.specs.Channels.{most_received}
use Rattle.serving.specs.Servable.{HaveChannels, FitsJournal, HasRoom, IsServable}
use Rattle.txn_journal.specs.Machine.{is_row_of, are_rows_of, takes_change, fits}
use Rattle.txn_journal.specs.BundleStates.{BundleValue}
use Rattle.txn_journal.specs.BundleText.{AreAdded, AreNamed, AreBrought, entry_fits, IsWritableBy, IsBundle}
use Rattle.txn_journal.specs.Versions.{limits_of, newest}
use Rattle.txn_journal.specs.WrittenSets.{IsWrittenSet}
use Rattle.txn_journal.specs.declared.lines.Version.{Version}
use Rattle.txn_journal.specs.declared.bundle.BundleChannel.{BundleChannel}
use Rattle.std.proofs.lemmas.Bool.{and_parts}

-- ---- a row

short : (most n : ℕ) → nat_le n most ≡ true → nat_lt most n ≡ false
short most n h = grind (arith, nat_tests, h)

value_short : (limits : Limits) (v : Value) → is_value_writable limits v ≡ true → is_longer (most_bytes limits) v ≡ false
value_short limits Null h = refl
value_short limits (Int n) h = refl
value_short limits (Bytes b) h = short (most_bytes limits) (length b) h

values_short : (limits : Limits) (row : List Value) → list_all (is_value_writable limits) row ≡ true → list_any (is_longer (most_bytes limits)) row ≡ false
values_short limits [] h = refl
values_short limits (v ∷ row) h =
    let each = and_parts (is_value_writable limits v) (list_all (is_value_writable limits) row) h in
    λ i. value_short limits v each.0 i || values_short limits row each.1 i

none_met : {X : Type 0} (x y z : X) (a b c : Bool) → (a && not b) ≡ true → c ≡ false → cond (not a) (Some x) (cond b (Some y) (cond c (Some z) None)) ≡ None
none_met x y z true false false taken short = refl
none_met x y z true false true taken short = absurd (cc short)
none_met x y z true true c taken short = absurd (cc taken)
none_met x y z false b c taken short = absurd (cc taken)

row_fits : (table : Table) (row : List Value) → is_row_of table row ≡ true → is_image_writable table.limits row ≡ true → row_misfit table row ≡ None
row_fits table row is writable =
    let some = and_parts (nat_le 1 (length row)) (nat_le (length row) (most_columns table.limits) && list_all (is_value_writable table.limits) row) writable in
    let few = and_parts (nat_le (length row) (most_columns table.limits)) (list_all (is_value_writable table.limits) row) some.1 in
    none_met Columns NullInPrimary TooLong (length row == table.columns) (has_primary_null table row) (list_any (is_longer (most_bytes table.limits)) row) is (values_short table.limits row few.1)

-- ---- a change

images_fit : (table : Table) (c : Change) → are_rows_of table c ≡ true → is_change_writable table.limits c ≡ true → images_misfit table c ≡ None
images_fit table (Insert name after) are writable = row_fits table after are writable
images_fit table (Delete name before) are writable = row_fits table before are writable
images_fit table (Update name before after) are writable =
    let rows = and_parts (is_row_of table before) (is_row_of table after) are in
    let images = and_parts (is_image_writable table.limits before) (is_image_writable table.limits after) writable in
    λ i. first_cause (row_fits table before rows.0 images.0 i) (row_fits table after rows.1 images.1 i)

-- a table that was declared by these limits, if there is one
abbrev IsOf : Limits → Option Table → Type 0
IsOf limits None = Unit {0}
IsOf limits (Some table) = table.limits ≡ limits

change_fits : (limits : Limits) (o : Option Table) (c : Change) → IsOf limits o → takes_change o c ≡ true → is_change_writable limits c ≡ true → misfit_in o c ≡ None
change_fits limits None c of takes writable = absurd (cc takes)
change_fits limits (Some table) c of takes writable = images_fit table c takes (subst (λ (l : Limits). is_change_writable l c ≡ true) (sym of) writable)

not_yet : (most n : ℕ) → n < most → nat_le most n ≡ false
not_yet most n h = grind (arith, nat_tests)

room_for : (limits : Limits) (o : Option Table) (n : ℕ) → IsOf limits o → n < most_changes limits → count_misfit o n ≡ None
room_for limits None n of h = refl
room_for limits (Some table) n of h = λ i. cond (not_yet (most_changes table.limits) n (subst (λ (l : Limits). n < most_changes l) (sym of) h) i) (Some TooMany) None

few_changes : (most n : ℕ) → nat_le n most ≡ true → 0 + n ≤ most
few_changes most n h = grind (arith, nat_tests, h)

-- tables that were declared by these limits
abbrev AreOf : Limits → List Table → Type 0
AreOf limits tables = AllByRecursion (λ (t : Table). t.limits ≡ limits) tables

found_or : (limits : Limits) (b : Bool) (t : Table) (o : Option Table) → t.limits ≡ limits → IsOf limits o → IsOf limits (cond b (Some t) o)
found_or limits true t o of rest = of
found_or limits false t o of rest = rest

found_of : (limits : Limits) (name : List ℕ) (tables : List Table) → AreOf limits tables → IsOf limits (find_table name tables)
found_of limits name [] h = tt
found_of limits name (t ∷ ts) h = found_or limits (eq_by_cmp (slice_cmp nat_cmp) name t.name) t (find_table name ts) h.0 (found_of limits name ts h.1)

added_of : (limits : Limits) (before ts : List Table) → AreAdded limits before ts → AreOf limits ts
added_of limits before [] h = tt
added_of limits before (t ∷ ts) h = (h.0.same_limits, added_of limits (before ++ t ∷ []) ts h.2)

-- ---- a transaction

changes_fit : (limits : Limits) (tables : List Table) (n : ℕ) (cs : List Change) → AreOf limits tables → list_all (fits (Some tables)) cs ≡ true → list_all (is_change_writable limits) cs ≡ true → n + length cs ≤ most_changes limits → misfit_from tables n cs ≡ None
changes_fit limits tables n [] of fit writable few = refl
changes_fit limits tables n (c ∷ cs) of fit writable few =
    let each = and_parts (fits (Some tables) c) (list_all (fits (Some tables)) cs) fit in
    let can = and_parts (is_change_writable limits c) (list_all (is_change_writable limits) cs) writable in
    let found = found_of limits (table_of c) tables of in
    let one = change_fits limits (find_table (table_of c) tables) c found each.0 can.0 in
    let room = room_for limits (find_table (table_of c) tables) n found (omega (arith, few)) in
    let rest = changes_fit limits tables (n + 1) cs of each.1 can.1 (omega (arith, few)) in
    λ i. or_later (first_cause (one i) (room i)) n (rest i)

entry_taken : (limits : Limits) (tables : List Table) (e : Entry) → AreOf limits tables → entry_fits tables e ≡ true → is_writable limits e ≡ true → Fits tables e.txn
entry_taken limits tables e of fit writable =
    let txn = and_parts (is_number e.gtid.number) (is_txn_writable limits e.txn) writable in
    let changes = and_parts (nat_le (length e.txn.changes) (most_changes limits)) (list_all (is_change_writable limits) e.txn.changes) txn.1 in
    changes_fit limits tables 0 e.txn.changes of fit changes.1 (few_changes (most_changes limits) (length e.txn.changes) changes.0)

-- ---- journals

entries_taken : (limits : Limits) (tables : List Table) (es : List Entry) → AreOf limits tables → list_all (entry_fits tables) es ≡ true → list_all (is_writable limits) es ≡ true → AllByRecursion (λ (e : Entry). Fits tables e.txn) es
entries_taken limits tables [] of fit writable = tt
entries_taken limits tables (e ∷ es) of fit writable =
    let each = and_parts (entry_fits tables e) (list_all (entry_fits tables) es) fit in
    let can = and_parts (is_writable limits e) (list_all (is_writable limits) es) writable in
    (entry_taken limits tables e of each.0 can.0, entries_taken limits tables es of each.1 can.1)

has_room : (n : ℕ) → n ≤ 4294967294 → n ≤ most_received
unfolding most_received
has_room n h = h

all_fit : (limits : Limits) (tables : List Table) (cs : List BundleChannel) (js : List JournalValue) → AreOf limits tables → AreBrought limits tables cs js → AllByRecursion (FitsJournal tables) js × AllByRecursion HasRoom js
all_fit limits tables [] [] of h = (tt, tt)
all_fit limits tables (c ∷ cs) [] of h = absurd h
all_fit limits tables [] (j ∷ js) of h = absurd h
all_fit limits tables (c ∷ cs) (j ∷ js) of h =
    let rest = all_fit limits tables cs js of h.1 in
    ((entries_taken limits tables j.entries of h.0.fitting h.0.written.writable, rest.0), (has_room (length j.entries) h.0.written.few, rest.1))

have_channels : (limits : Limits) (tables : List Table) (before cs : List BundleChannel) (js : List JournalValue) → AreNamed limits before cs → AreBrought limits tables cs js → HaveChannels before cs js
have_channels limits tables before [] [] named h = tt
have_channels limits tables before (c ∷ cs) [] named h = absurd h
have_channels limits tables before [] (j ∷ js) named h = absurd h
have_channels limits tables before (c ∷ cs) (j ∷ js) named h = (named.1, have_channels limits tables (before ++ c ∷ []) cs js named.2 h.1)

as_many : (limits : Limits) (tables : List Table) (cs : List BundleChannel) (js : List JournalValue) → AreBrought limits tables cs js → length js ≤ length cs
as_many limits tables [] [] h = omega arith
as_many limits tables (c ∷ cs) [] h = absurd h
as_many limits tables [] (j ∷ js) h = absurd h
as_many limits tables (c ∷ cs) (j ∷ js) h = let rest = as_many limits tables cs js h.1 in omega (arith, rest)

-- ---- a bundle

servable : (version : Version) (b : BundleValue) → IsWritableBy version b → IsServable b
servable version b written =
    let limits = limits_of version in
    let all = all_fit limits b.start.schema b.channels b.journals (added_of limits [] b.start.schema written.tables) written.brought in
    record {
      few = let many = as_many limits b.start.schema b.channels b.journals written.brought in let most = written.few in omega (arith, many, most);
      have = have_channels limits b.start.schema [] b.channels b.journals written.named written.brought;
      fits = all.0;
      room = all.1;
    }

-- what the type of a bundle keeps is enough to serve it
pub bundle_servable : (b : BundleValue) → IsBundle b → IsServable b
bundle_servable b (limits, written) = servable (newest limits) b written

-- the opening set of every bundle can be written
pub opened_written : (b : BundleValue) → IsBundle b → IsWrittenSet b.opened
opened_written b (Narrow, written) = written.opened
opened_written b (Wide, written) = written.opened
