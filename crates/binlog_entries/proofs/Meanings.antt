-- Each line tells its events, and adds what it means to what the events and the row that is open denote.
use Rattle.std.proofs.Common.{◌≡◌, ℕ, Bool, true, false, cond, List, [], ◌∷◌, ◌++◌, map, length, Option, Some, None, Ok, refl, sym, ap, ◌∙◌, subst, append_assoc, append-nil}
use Rattle.std.specs.List.{flat_map}
use Rattle.std.proofs.lemmas.Grind.{flat_map-append}
use Rattle.lemmas.proofs.Tests.{never}
use Rattle.gtid_text.specs.Canonical.{gtid_text}
use Rattle.gtid_set.specs.Sets.{Gtids}
use Rattle.journal_words.specs.Gtids.{gtid_of_word, set_of_word}
use Rattle.journal.specs.declared.Entry.{Entry}
use Rattle.rows.specs.declared.change.Change.{Change}
use Rattle.txn_journal.proofs.GtidLaws.{gtid_found}
use Rattle.log_transactions.specs.Events.{Event}
use Rattle.log_transactions.specs.Events as logged
use Rattle.log_transactions.specs.Machine.{LogState, is_idle, is_begun, unless, refusal, behind}
use Rattle.log_transactions.specs.Machine as transactions
use Rattle.log_transactions.specs.Meaning.{EventMeaning, Of, Changed, Committed, AreOfLog}
use Rattle.log_transactions.specs.Meaning as denoted
use Rattle.log_transactions.specs.Tables.{joined_name}
use Rattle.log_transactions.specs.declared.fault.EventRefusal.TheVariants as logs
use Rattle.log_transactions.proofs.EventLaws.{events_told}
use Rattle.binlog_text.specs.declared.types.ColumnType.{ColumnType}
use Rattle.binlog_text.specs.Types.{compares_bytes, collation_in, parse_type}
use Rattle.binlog_text.specs.declared.lines.LogEvent.{LogEvent}
use Rattle.binlog_text.specs.declared.lines.LogEvent.TheVariants as events
use Rattle.binlog_text.specs.declared.lines.Mark.{Mark}
use Rattle.binlog_text.specs.declared.lines.Mark.TheVariants as marks
use Rattle.binlog_text.specs.declared.lines.RowOperation.{RowOperation}
use Rattle.binlog_text.specs.Lines.{Column, Content, OfMark, OfHead, OfTable, OfColumn, OfGtid, OfSources, OfRow, OfValue}
use Rattle.binlog_entries.specs.Tables.{Table}
use Rattle.binlog_entries.specs.Unread.{refusal_at}
use Rattle.binlog_entries.specs.Bodies.{kind_of, takes, rows_body, body_of, behind as body_behind, next_body}
use Rattle.binlog_entries.specs.Machine.{Standing, or_refused, tell, with_mapped, table_line, add_column, noted, note_varied, column_line, gtid_line, sources_line, head_line, mark_line, take_content, step, runs, start, is_closed}
use Rattle.binlog_entries.specs.Meaning.{Meaning, Names, Commits, Context, nowhere, means, with_column, context_behind, meaning, meaning_of_change, meaning_of_entry, meaning_of_entries}
use Rattle.binlog_entries.specs.Telling.{column_events, gtid_events, sources_events, events_of, events_in}
use Rattle.binlog_entries.specs.declared.bodies.Body.{Body}
use Rattle.binlog_entries.specs.declared.bodies.Body.TheVariants as bodies
use Rattle.binlog_entries.specs.declared.bodies.BodyKind.{BodyKind}
use Rattle.binlog_entries.specs.declared.bodies.BodyKind.TheVariants as kinds
use Rattle.binlog_entries.specs.declared.fault.EntryRefusal.{EntryRefusal}
use Rattle.binlog_entries.specs.declared.fault.EntryRefusal.TheVariants as refusals
use Rattle.binlog_entries.proofs.TransactionLaws.{bind_ok, same_ok, done, if_ok, test_ok, told_ok, one_event, told_here, runs_more, spelled_row, row_of, event_spelled, events_spelled, context_of, is_rows, Sound, Tells, place_law, automatic_law, plain, told_law, comment_quiet, setting_quiet, frame_quiet, sources_quiet, ended_quiet, statement_quiet, committed_quiet, gtid_quiet, column_quiet, tablemap_quiet, between_only, rows_only, IsQuiet, neutral}
use Rattle.binlog_entries.proofs.RowLaws.{where_law, set_law, value_law, row_law}

-- ---- heads of events, tables and columns

open_body : (ends : Bool) → is_closed (rows_body ends) ≡ false
open_body true = refl
open_body false = refl

-- the head of a rows event
rows_head_law : (s t : Standing) (operation : RowOperation) (ends : Bool) → Sound s → takes s.body kinds.Head ≡ true → head_line s (events.Rows operation ends) ≡ Ok t → Tells s (OfHead (events.Rows operation ends)) (record t { body = rows_body ends })
unfolding head_line
rows_head_law s t operation ends sound at h =
    let e : Event = logged.Rows ends in
    let a = bind_ok (tell s e) (λ u. Ok (record u { is_over = true })) t h in
    let q = told_ok s a.0 e a.1 in
    subst (λ (u : Standing). Tells s (OfHead (events.Rows operation ends)) (record u { body = rows_body ends })) (ap (λ (u : Standing). record u { is_over = true }) q.1 ∙ same_ok _ t a.2)
    (plain s (record s { is_over = true; body = rows_body ends; log = behind s.log e }) (OfHead (events.Rows operation ends)) sound (ap is_rows (between_only s.body kinds.Head at)) refl
    (λ c. absurd (let bad : true ≡ false = sym c ∙ open_body ends in cc)) (one_event s.log e q.0) refl refl)

-- any other head
plain_head : (s t : Standing) (event : LogEvent) → Sound s → takes s.body kinds.Head ≡ true → done s ≡ Ok t → is_rows (body_of event) ≡ false → is_closed (body_of event) ≡ false → events_of (context_of s) (OfHead event) ≡ [] → context_behind (context_of s) (OfHead event) ≡ context_of s → Tells s (OfHead event) (record t { body = body_of event })
plain_head s t event sound at h rows closed told same =
    let between : is_rows s.body ≡ false = ap is_rows (between_only s.body kinds.Head at) in
    subst (λ (u : Standing). Tells s (OfHead event) (record u { body = body_of event })) (same_ok s t h)
    (neutral s (OfHead event) (body_of event) sound (between, rows, (λ c. absurd (let bad : true ≡ false = sym c ∙ closed in cc))) told refl same)

head_law : (s t : Standing) (event : LogEvent) → Sound s → takes s.body kinds.Head ≡ true → head_line s event ≡ Ok t → Tells s (OfHead event) (record t { body = body_of event })
unfolding head_line
head_law s t (events.Rows operation ends) sound at h = rows_head_law s t operation ends sound at h
head_law s t events.Start sound at h = plain_head s t events.Start sound at h refl refl refl refl
head_law s t events.PreviousGtids sound at h =
    told_law s t (OfHead events.PreviousGtids) logged.Opens bodies.PreviousGtids sound (ap is_rows (between_only s.body kinds.Head at)) (λ c m. never c) refl refl refl h
head_law s t events.Gtid sound at h = plain_head s t events.Gtid sound at h refl refl refl refl
head_law s t events.Query sound at h = plain_head s t events.Query sound at h refl refl refl refl
head_law s t events.Xid sound at h = plain_head s t events.Xid sound at h refl refl refl refl
head_law s t events.Payload sound at h = plain_head s t events.Payload sound at h refl refl refl refl
head_law s t events.Rotate sound at h = plain_head s t events.Rotate sound at h refl refl refl refl
head_law s t events.Stop sound at h = plain_head s t events.Stop sound at h refl refl refl refl

table_law : (s t : Standing) (database table : List ℕ) → Sound s → takes s.body kinds.TableMap ≡ true → table_line s database table ≡ Ok t → Tells s (OfTable database table) (record t { body = bodies.TableMap })
unfolding table_line
table_law s t database table sound at h =
    let e : Event = logged.Maps database table in
    let name = joined_name database table in
    let a = bind_ok (tell s e) (λ u. Ok (with_mapped u name)) t h in
    let q = told_ok s a.0 e a.1 in
    subst (λ (u : Standing). Tells s (OfTable database table) (record u { body = bodies.TableMap })) (ap (λ (u : Standing). with_mapped u name) q.1 ∙ same_ok _ t a.2)
    (plain s (record (with_mapped s name) { body = bodies.TableMap; log = behind s.log e }) (OfTable database table) sound (tablemap_quiet s.body at).0 refl (λ c. never c) (one_event s.log e q.0) refl refl)

pub added_is : (s t : Standing) (o : Option Table) (first : Bool) (type : ColumnType) → add_column s o first type ≡ Ok t → (x : Table) × (o ≡ Some x) × (record s { mapping = Some (record { name = x.name; columns = x.columns ++ type ∷ [] }) } ≡ t)
added_is s t None first type e = absurd cc
added_is s t (Some x) first type e = let p = if_ok _ (record s { mapping = Some (record { name = x.name; columns = x.columns ++ type ∷ [] }) }) refusals.Format t e in (x, refl, p.1)

pub refused_is : {A : Type 0} (e : EntryRefusal) (o : Option A) (x : A) → or_refused e o ≡ Ok x → o ≡ Some x
refused_is e None x h = absurd cc
refused_is e (Some y) x h = ap Some (same_ok y x h)

-- what a column tells
column_run : (log : LogState) (o : Option Table) (text : List ℕ) → transactions.runs log (column_events o text) ≡ Ok (noted log o text)
column_run log None text = refl
column_run log (Some t) text = by (compares_bytes text)
  where
    by : (b : Bool) → transactions.runs log (cond b [] (logged.Varies t.name (length t.columns) (collation_in text) ∷ [])) ≡ Ok (cond b log (behind log (logged.Varies t.name (length t.columns) (collation_in text))))
    by true = refl
    by false = refl

column_nothing : (o : Option Table) (text : List ℕ) → [] ≡ events_spelled (column_events o text)
column_nothing None text = refl
column_nothing (Some t) text = by (compares_bytes text)
  where
    by : (b : Bool) → [] ≡ events_spelled (cond b [] (logged.Varies t.name (length t.columns) (collation_in text) ∷ []))
    by true = refl
    by false = refl

column_law : (s t : Standing) (c : Column) → Sound s → takes s.body kinds.Column ≡ true → column_line s c ≡ Ok t → Tells s (OfColumn c) t
unfolding column_line
column_law s t c sound at h =
    let a = bind_ok (or_refused refusals.Type (parse_type c.column_type)) (λ type. add_column (note_varied s c.column_type) s.mapping c.is_first type) t h in
    let type = refused_is refusals.Type (parse_type c.column_type) a.0 a.1 in
    let m = added_is (note_varied s c.column_type) t s.mapping c.is_first a.0 a.2 in
    let q = column_quiet s.body at in
    subst (Tells s (OfColumn c)) m.2
    (plain s (record (note_varied s c.column_type) { mapping = Some (record { name = m.0.name; columns = m.0.columns ++ a.0 ∷ [] }) }) (OfColumn c) sound q.0 refl
    (λ e. absurd (not_closed s.body at e)) (column_run s.log s.mapping c.column_type) (column_nothing s.mapping c.column_type)
    (ap (λ (o : Option Table). record (context_of s) { mapping = o }) (λ i. with_column (sym m.1 i) (sym type i))))
  where
    not_closed : (body : Body) → takes body kinds.Column ≡ true → is_closed body ≡ true → ⊥
    not_closed bodies.TableMap e c = absurd cc
    not_closed _ e c = absurd cc

-- ---- each line

-- a line that changes nothing
unchanged : (s t : Standing) (l : Content) (kind : BodyKind) → Sound s → IsQuiet s.body (body_behind s.body kind) → events_of (context_of s) l ≡ [] → means (context_of s) l ≡ [] → context_behind (context_of s) l ≡ context_of s → done s ≡ Ok t → Tells s l (record t { body = body_behind t.body kind })
unchanged s t l kind sound q told nothing same h = subst (λ (u : Standing). Tells s l (record u { body = body_behind u.body kind })) (same_ok s t h) (neutral s l (body_behind s.body kind) sound q told nothing same)

-- a line within a statement or an Xid, which tells one event
statement_law : (s t : Standing) (mark : Mark) (e : Event) → Sound s → takes s.body kinds.Statement ≡ true → events_of (context_of s) (OfMark mark) ≡ e ∷ [] → means (context_of s) (OfMark mark) ≡ event_spelled e → context_behind (context_of s) (OfMark mark) ≡ context_of s → tell s e ≡ Ok t → Tells s (OfMark mark) (record t { body = bodies.Statement })
statement_law s t mark e sound at told spells same h = told_law s t (OfMark mark) e bodies.Statement sound (statement_quiet s.body at).0 (λ c m. never c) told spells same h

commits_law : (s t : Standing) → Sound s → takes s.body kinds.Committed ≡ true → tell s logged.Commits ≡ Ok t → Tells s (OfMark marks.Committed) (record t { body = bodies.Done })
commits_law s t sound at h = told_law s t (OfMark marks.Committed) logged.Commits bodies.Done sound (committed_quiet s.body at).0 (λ c m. never c) refl refl refl h

idle_at_end : (b : Bool) → unless logs.Transaction b ≡ None → b ≡ true
idle_at_end true e = refl
idle_at_end false e = absurd cc

end_law : (s t : Standing) → Sound s → takes s.body kinds.Closed ≡ true → tell s logged.Ends ≡ Ok t → Tells s (OfMark marks.Closed) (record t { body = bodies.Closed })
end_law s t sound at h = told_law s t (OfMark marks.Closed) logged.Ends bodies.Closed sound (file_end s.body at) (λ c m. idle_at_end (is_idle s.log.stage) m) refl refl refl h
  where
    file_end : (body : Body) → takes body kinds.Closed ≡ true → is_rows body ≡ false
    file_end bodies.FileEnd e = refl
    file_end _ e = absurd cc

gtid_law : (s t : Standing) (word : List ℕ) → Sound s → takes s.body kinds.Gtid ≡ true → gtid_line s word ≡ Ok t → Tells s (OfGtid word) t
unfolding gtid_line
gtid_law s t word sound at h =
    let a = bind_ok (or_refused refusals.Gtid (gtid_of_word word)) (λ gtid. tell s (logged.Names gtid)) t h in
    let named = refused_is refusals.Gtid (gtid_of_word word) a.0 a.1 in
    told_here s t (OfGtid word) (logged.Names a.0) sound (gtid_quiet s.body at).0 (λ c. absurd (not_closed s.body at c)) (ap gtid_events named) (ap (λ (xs : List ℕ). Names xs ∷ []) (gtid_found word a.0 named).0) refl a.2
  where
    not_closed : (body : Body) → takes body kinds.Gtid ≡ true → is_closed body ≡ true → ⊥
    not_closed bodies.Gtid e c = absurd cc
    not_closed _ e c = absurd cc

sources_law : (s t : Standing) (word : List ℕ) (more : Bool) → Sound s → takes s.body kinds.Sources ≡ true → sources_line s word ≡ Ok t → Tells s (OfSources word more) t
unfolding sources_line
sources_law s t word more sound at h =
    let a = bind_ok (or_refused refusals.Gtid (set_of_word word)) (λ gtids. tell s (logged.Precedes gtids)) t h in
    let named = refused_is refusals.Gtid (set_of_word word) a.0 a.1 in
    told_here s t (OfSources word more) (logged.Precedes a.0) sound (sources_quiet s.body at).0 sound.closed (ap sources_events named) refl refl a.2

-- a line of extra row info
extra_law : (s t : Standing) → Sound s → done s ≡ Ok t → Tells s (OfMark marks.Extra) t
extra_law s t sound h = subst (Tells s (OfMark marks.Extra)) (same_ok s t h) (record { events = refl; spells = append-nil (row_of s); context = refl; sound = sound })

-- a mark
mark_law : (s t : Standing) (mark : Mark) → Sound s → takes s.body (kind_of (OfMark mark)) ≡ true → mark_line s mark ≡ Ok t → Tells s (OfMark mark) (record t { body = next_body t.body (OfMark mark) })
mark_law s t marks.Place sound at h = place_law s t sound h
mark_law s t marks.Automatic sound at h = automatic_law s t sound h
mark_law s t marks.Where sound at h = where_law s t sound (rows_only s.body at) h
mark_law s t marks.Set sound at h = set_law s t sound (rows_only s.body at) h
mark_law s t marks.Begin sound at h = statement_law s t marks.Begin logged.Begins sound at refl refl refl h
mark_law s t marks.Commit sound at h = statement_law s t marks.Commit logged.Commits sound at refl refl refl h
mark_law s t marks.Committed sound at h = commits_law s t sound at h
mark_law s t marks.Maintenance sound at h = statement_law s t marks.Maintenance logged.Maintains sound at refl refl refl h
mark_law s t marks.Extra sound at h = extra_law s t sound h
mark_law s t marks.Savepoint sound at h = statement_law s t marks.Savepoint logged.Savepoint sound at refl refl refl h
mark_law s t marks.Closed sound at h = end_law s t sound at h
mark_law s t marks.Ended sound at h = unchanged s t (OfMark marks.Ended) kinds.Ended sound (ended_quiet s.body at) refl refl refl h
mark_law s t marks.Empty sound at h = unchanged s t (OfMark marks.Empty) kinds.Sources sound (sources_quiet s.body at) refl refl refl h
mark_law s t marks.Comment sound at h = unchanged s t (OfMark marks.Comment) kinds.Comment sound (comment_quiet s.body at) refl refl refl h
mark_law s t marks.Setting sound at h = unchanged s t (OfMark marks.Setting) kinds.Setting sound (setting_quiet s.body at) refl refl refl h
mark_law s t marks.Frame sound at h = unchanged s t (OfMark marks.Frame) kinds.Frame sound (frame_quiet s.body at) refl refl refl h

line_law : (s t : Standing) (l : Content) → Sound s → takes s.body (kind_of l) ≡ true → take_content s l ≡ Ok t → Tells s l (record t { body = next_body t.body l })
line_law s t (OfMark mark) sound at h = mark_law s t mark sound at h
line_law s t (OfHead event) sound at h = head_law s t event sound at h
line_law s t (OfTable database table) sound at h = table_law s t database table sound at h
line_law s t (OfColumn c) sound at h = column_law s t c sound at h
line_law s t (OfGtid gtid) sound at h = gtid_law s t gtid sound at h
line_law s t (OfSources sources more) sound at h = sources_law s t sources more sound at h
line_law s t (OfRow operation database table) sound at h = row_law s t operation database table sound (rows_only s.body at) h
line_law s t (OfValue n text) sound at h = value_law s t n text sound (rows_only s.body at) h

pub step_law : (s t : Standing) (l : Content) → Sound s → step s l ≡ Ok t → Tells s l t
unfolding step
step_law s t l sound h =
    let p = test_ok (takes s.body (kind_of l)) _ (refusal_at s.body) t h in
    let a = bind_ok (take_content s l) _ t p.1 in
    subst (Tells s l) (same_ok _ t a.2) (line_law s a.0 l sound p.0 a.1)

-- ---- all lines

pub record AllTold (s : Standing) (ls : List Content) (t : Standing) : Type 0 where
  pub events : transactions.runs s.log (events_in (context_of s) ls) ≡ Ok t.log
  pub spells : row_of s ++ meaning (context_of s) ls ≡ events_spelled (events_in (context_of s) ls) ++ row_of t
  pub sound : Sound t

joined : (row m ms e es next last rest : List Meaning) → row ++ m ≡ e ++ next → next ++ ms ≡ es ++ last → rest ≡ e ++ es → row ++ (m ++ ms) ≡ rest ++ last
joined row m ms e es next last rest first second all =
    sym (append_assoc row m ms)
    ∙ ap (λ (xs : List Meaning). xs ++ ms) first
    ∙ append_assoc e next ms
    ∙ ap (λ (xs : List Meaning). e ++ xs) second
    ∙ sym (append_assoc e es last)
    ∙ ap (λ (xs : List Meaning). xs ++ last) (sym all)

pub runs_law : (s : Standing) (ls : List Content) (t : Standing) → Sound s → runs s ls ≡ Ok t → AllTold s ls t
runs_law s [] t sound h = subst (AllTold s []) (same_ok s t h) (record { events = refl; spells = append-nil (row_of s); sound = sound })
runs_law s (l ∷ ls) t sound h =
    let a = bind_ok (step s l) _ t h in
    let first = step_law s a.0 l sound a.1 in
    let rest = runs_law a.0 ls t first.sound a.2 in
    let c = context_of s in
    let next = context_behind c l in
    record {
      events = runs_more s.log a.0.log t.log (events_of c l) (events_in next ls) first.events
          (subst (λ (k : Context). transactions.runs a.0.log (events_in k ls) ≡ Ok t.log) first.context rest.events);
      spells = joined (row_of s) (means c l) (meaning next ls) (events_spelled (events_of c l)) (events_spelled (events_in next ls)) (row_of a.0) (row_of t) (events_spelled (events_of c l ++ events_in next ls)) first.spells
          (subst (λ (k : Context). row_of a.0 ++ meaning k ls ≡ events_spelled (events_in k ls) ++ row_of t) first.context rest.spells)
          (flat_map-append event_spelled (events_of c l) (events_in next ls));
      sound = rest.sound;
    }

pub sound_start : (opening : Gtids) → Sound (start opening)
sound_start opening = record {
  inside = λ b. refl;
  closed = λ c. never c;
  due = λ d. refl;
  fits = (refl, refl);
}

-- ---- what events mean, and what lines do

abbrev meaning_spelled : EventMeaning → List Meaning
meaning_spelled (Of gtid) = Names (gtid_text gtid) ∷ []
meaning_spelled (Changed change) = meaning_of_change change
meaning_spelled Committed = Commits ∷ []

event_means : (e : Event) → flat_map meaning_spelled (denoted.means e) ≡ event_spelled e
event_means (logged.Names gtid) = refl
event_means (logged.Row change) = append-nil (meaning_of_change change)
event_means logged.Commits = refl
event_means logged.Maintains = refl
event_means _ = refl

events_mean : (es : List Event) → flat_map meaning_spelled (denoted.meaning es) ≡ events_spelled es
events_mean [] = refl
events_mean (e ∷ es) = flat_map-append meaning_spelled (denoted.means e) (denoted.meaning es) ∙ (λ i. event_means e i ++ events_mean es i)

changes_mean : (cs : List Change) → flat_map meaning_spelled (map Changed cs) ≡ flat_map meaning_of_change cs
changes_mean [] = refl
changes_mean (c ∷ cs) = ap (λ (xs : List Meaning). meaning_of_change c ++ xs) (changes_mean cs)

entry_means : (e : Entry) → flat_map meaning_spelled (denoted.meaning_of_entry e) ≡ meaning_of_entry e
entry_means e =
    ap (λ (xs : List Meaning). Names (gtid_text e.gtid) ∷ xs)
    (flat_map-append meaning_spelled (map Changed e.txn.changes) (Committed ∷ []) ∙ ap (λ (xs : List Meaning). xs ++ Commits ∷ []) (changes_mean e.txn.changes))

entries_mean : (es : List Entry) → flat_map meaning_spelled (denoted.meaning_of_entries es) ≡ meaning_of_entries es
entries_mean [] = refl
entries_mean (e ∷ es) = flat_map-append meaning_spelled (denoted.meaning_of_entry e) (denoted.meaning_of_entries es) ∙ (λ i. entry_means e i ++ entries_mean es i)

closed_quiet : (body : Body) → is_closed body ≡ true → is_rows body ≡ false
closed_quiet bodies.Closed e = refl
closed_quiet _ e = absurd cc

-- the lines of a whole log tell the events of one
pub log_told : (opening : Gtids) (ls : List Content) (s : Standing) → runs (start opening) ls ≡ Ok s → is_closed s.body ≡ true → AreOfLog opening (events_in nowhere ls) s.log.previous s.log.entries s.log.varied
log_told opening ls s h closed =
    let all = runs_law (start opening) ls s (sound_start opening) h in
    events_told opening (events_in nowhere ls) s.log all.events (all.sound.closed closed)

-- what the lines of a whole log mean is what its entries denote
pub entries_told : (opening : Gtids) (ls : List Content) (s : Standing) → runs (start opening) ls ≡ Ok s → is_closed s.body ≡ true → meaning nowhere ls ≡ meaning_of_entries s.log.entries
entries_told opening ls s h closed =
    let all = runs_law (start opening) ls s (sound_start opening) h in
    let told = log_told opening ls s h closed in
    all.spells
    ∙ ap (λ (r : Option (List ℕ)). events_spelled (events_in nowhere ls) ++ spelled_row r s.operation s.part s.before s.after) (all.sound.inside (closed_quiet s.body closed))
    ∙ append-nil (events_spelled (events_in nowhere ls))
    ∙ sym (events_mean (events_in nowhere ls))
    ∙ ap (λ (ms : List EventMeaning). flat_map meaning_spelled ms) told.means
    ∙ entries_mean s.log.entries
