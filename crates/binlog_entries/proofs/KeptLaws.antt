-- What each line leaves of what was executed before, of what came, and of the columns that the server compares otherwise than their bytes.
use Rattle.std.proofs.Common.{◌≡◌, ℕ, Bool, true, false, cond, List, [], ◌∷◌, ◌++◌, Option, Some, None, Ok, refl, sym, ap, ◌∙◌, subst, length}
use Rattle.std.specs.FinSet as set
use Rattle.gtid_set.specs.Sets.{Gtids}
use Rattle.gtid_text.specs.declared.Gtid.{Gtid}
use Rattle.journal_words.specs.Gtids.{set_of_word, gtid_of_word}
use Rattle.log_transactions.specs.Events.{Event}
use Rattle.log_transactions.specs.Events as logged
use Rattle.log_transactions.specs.Files.{has_come, come_behind}
use Rattle.log_transactions.specs.Machine.{LogState, unless, refusal, behind, previous_behind}
use Rattle.log_transactions.specs.Machine as transactions
use Rattle.log_transactions.specs.declared.fault.EventRefusal.TheVariants as logs
use Rattle.log_transactions.specs.declared.stages.FileOrder.{FileOrder}
use Rattle.log_transactions.specs.declared.stages.FileOrder.TheVariants as files
use Rattle.log_transactions.specs.declared.varied.Varied.{Varied}
use Rattle.binlog_text.specs.Types.{compares_bytes, collation_in}
use Rattle.binlog_text.specs.declared.lines.LogEvent.{LogEvent}
use Rattle.binlog_text.specs.declared.lines.LogEvent.TheVariants as events
use Rattle.binlog_text.specs.declared.lines.Mark.{Mark}
use Rattle.binlog_text.specs.declared.lines.Mark.TheVariants as marks
use Rattle.binlog_text.specs.Lines.{Content, OfMark, OfHead, OfTable, OfColumn, OfGtid, OfSources, OfRow, OfValue}
use Rattle.binlog_entries.specs.Bodies.{kind_of, takes}
use Rattle.binlog_entries.specs.Machine.{Standing, or_refused, tell, change_of, gtid_line, sources_line, take_content, step, runs, start}
use Rattle.binlog_entries.specs.Meaning.{Context, nowhere, with_sources, executed_before, varied_by, varied_in, file_by, come_with, come_with_gtid, come_by, named_has_come, set_has_come, NoGap, open_by}
use Rattle.binlog_entries.specs.Tables.{Table}
use Rattle.binlog_entries.specs.Telling.{row_events, columns_events, column_events, events_of}
use Rattle.binlog_entries.specs.Unread.{refusal_at}
use Rattle.binlog_entries.specs.Varied.{varied_behind}
use Rattle.binlog_entries.specs.declared.fault.EntryRefusal.TheVariants as refusals
use Rattle.binlog_entries.proofs.TransactionLaws.{bind_ok, same_ok, test_ok, told_ok, events_taken, same_log, context_of, Sound}
use Rattle.binlog_entries.proofs.Meanings.{refused_is, step_law, sound_start}

abbrev Kept : Type 0
Kept = List Varied × (Gtids × Bool) × (FileOrder × Gtids) × Bool

abbrev kept_in : LogState → Kept
kept_in log = (log.varied, (log.previous, log.is_fresh), (log.file, log.come), log.is_open)

abbrev kept : Standing → Kept
kept s = kept_in s.log

-- ---- events

none_told : (log t : LogState) → transactions.runs log [] ≡ Ok t → kept_in t ≡ kept_in log
none_told log t h = ap kept_in (sym (same_log log t h))

one_told : (log t : LogState) (e : Event) → transactions.runs log (e ∷ []) ≡ Ok t → (refusal log e ≡ None) × (kept_in t ≡ kept_in (behind log e))
one_told log t e h =
    let p = events_taken (refusal log e) (behind log e) (λ u. transactions.runs u []) t h in
    (p.0, ap kept_in (sym (same_log (behind log e) t p.1)))

-- the end of an event leaves all
columns_keep : (log t : LogState) (o : Option Table) → transactions.runs log (columns_events o) ≡ Ok t → kept_in t ≡ kept_in log
columns_keep log t None h = none_told log t h
columns_keep log t (Some m) h = (one_told log t (logged.Columns (length m.columns)) h).1

row_keeps : (log t : LogState) (c : Context) (o : Option (List ℕ)) → transactions.runs log (row_events c o) ≡ Ok t → kept_in t ≡ kept_in log
row_keeps log t c None h = none_told log t h
row_keeps log t c (Some table) h = (one_told log t (logged.Row (change_of c.operation table c.before c.after)) h).1

place_keeps : (log t : LogState) (c : Context) (o : Option (List ℕ)) → transactions.runs log (row_events c o ++ columns_events c.mapping) ≡ Ok t → kept_in t ≡ kept_in log
place_keeps log t c None h = columns_keep log t c.mapping h
place_keeps log t c (Some table) h =
    let e : Event = logged.Row (change_of c.operation table c.before c.after) in
    let p = events_taken (refusal log e) (behind log e) (λ u. transactions.runs u (columns_events c.mapping)) t h in
    columns_keep (behind log e) t c.mapping p.1

-- the columns that the server compares otherwise, after one
column_keeps : (log t : LogState) (o : Option Table) (text : List ℕ) → transactions.runs log (column_events o text) ≡ Ok t → kept_in t ≡ (varied_behind log.varied o text, (log.previous, log.is_fresh), (log.file, log.come), log.is_open)
column_keeps log t None text h = none_told log t h
column_keeps log t (Some m) text h = by (compares_bytes text) h
  where
    by : (b : Bool) → transactions.runs log (cond b [] (logged.Varies m.name (length m.columns) (collation_in text) ∷ [])) ≡ Ok t → kept_in t ≡ (cond b log.varied (behind log (logged.Varies m.name (length m.columns) (collation_in text))).varied, (log.previous, log.is_fresh), (log.file, log.come), log.is_open)
    by true h = none_told log t h
    by false h = (one_told log t (logged.Varies m.name (length m.columns) (collation_in text)) h).1

-- ---- lines

-- what is executed before, where sets are read
abbrev joined : Bool → Gtids → Option Gtids → Gtids
joined true before more = with_sources before more
joined false before more = before

-- whether sets are read, and what was executed before, after a line
abbrev before_by : Gtids × Bool → Content → Gtids × Bool
before_by b (OfGtid gtid) = (b.0, false)
before_by b (OfSources sources more) = (joined b.1 b.0 (set_of_word sources), b.1)
before_by b (OfMark mark) = b
before_by b (OfHead event) = b
before_by b (OfTable database table) = b
before_by b (OfColumn column) = b
before_by b (OfRow operation database table) = b
before_by b (OfValue n text) = b

abbrev kept_by : Standing → Content → Kept
kept_by s l = (varied_by (context_of s) s.log.varied l, before_by (s.log.previous, s.log.is_fresh) l, (file_by s.log.file l, come_by s.log.file s.log.come l), open_by s.log.is_open l)

joined_by : (fresh : Bool) (previous gtids : Gtids) → previous_behind fresh previous gtids ≡ joined fresh previous (Some gtids)
joined_by true previous gtids = refl
joined_by false previous gtids = refl

-- no set that comes after a GTID joins what was executed before
gtid_ends : (s t : Standing) (word : List ℕ) → gtid_line s word ≡ Ok t → kept t ≡ (s.log.varied, (s.log.previous, false), (files.Later, come_with_gtid s.log.come (gtid_of_word word)), s.log.is_open)
unfolding gtid_line
gtid_ends s t word h =
    let a = bind_ok (or_refused refusals.Gtid (gtid_of_word word)) (λ gtid. tell s (logged.Names gtid)) t h in
    let named = refused_is refusals.Gtid (gtid_of_word word) a.0 a.1 in
    let q = told_ok s t (logged.Names a.0) a.2 in
    ap kept (sym q.1)
    ∙ ap (λ (o : Option Gtid). (s.log.varied, (s.log.previous, false), (files.Later, come_with_gtid s.log.come o), s.log.is_open)) (sym named)

-- a set that is read, and what it leaves
record Joins (s t : Standing) (word : List ℕ) : Type 0 where
  keeps : kept t ≡ (s.log.varied, (joined s.log.is_fresh s.log.previous (set_of_word word), s.log.is_fresh), (s.log.file, come_with s.log.file s.log.come (set_of_word word)), s.log.is_open)
  came : named_has_come s.log.file s.log.come (set_of_word word) ≡ true

no_gap : (b : Bool) → unless logs.Gap b ≡ None → b ≡ true
no_gap true e = refl
no_gap false e = absurd cc

sources_join : (s t : Standing) (word : List ℕ) → sources_line s word ≡ Ok t → Joins s t word
unfolding sources_line
sources_join s t word h =
    let a = bind_ok (or_refused refusals.Gtid (set_of_word word)) (λ gtids. tell s (logged.Precedes gtids)) t h in
    let named = refused_is refusals.Gtid (set_of_word word) a.0 a.1 in
    let q = told_ok s t (logged.Precedes a.0) a.2 in
    record {
      keeps =
          ap kept (sym q.1)
          ∙ ap (λ (x : Gtids). (s.log.varied, (x, s.log.is_fresh), (s.log.file, come_behind s.log.file s.log.come a.0), s.log.is_open)) (joined_by s.log.is_fresh s.log.previous a.0)
          ∙ ap (λ (o : Option Gtids). (s.log.varied, (joined s.log.is_fresh s.log.previous o, s.log.is_fresh), (s.log.file, come_with s.log.file s.log.come o), s.log.is_open)) (sym named);
      came = ap (named_has_come s.log.file s.log.come) named ∙ no_gap (has_come s.log.file s.log.come a.0) q.0;
    }

mark_keeps : (s t : Standing) (mark : Mark) → transactions.runs s.log (events_of (context_of s) (OfMark mark)) ≡ Ok t.log → kept t ≡ kept s
mark_keeps s t marks.Place h = place_keeps s.log t.log (context_of s) s.row h
mark_keeps s t marks.Automatic h = place_keeps s.log t.log (context_of s) s.row h
mark_keeps s t marks.Begin h = (one_told s.log t.log logged.Begins h).1
mark_keeps s t marks.Commit h = (one_told s.log t.log logged.Commits h).1
mark_keeps s t marks.Committed h = (one_told s.log t.log logged.Commits h).1
mark_keeps s t marks.Savepoint h = (one_told s.log t.log logged.Savepoint h).1
mark_keeps s t marks.Closed h = (one_told s.log t.log logged.Ends h).1
mark_keeps s t marks.Maintenance h = (one_told s.log t.log logged.Maintains h).1
mark_keeps s t _ h = none_told s.log t.log h

head_keeps : (s t : Standing) (event : LogEvent) → transactions.runs s.log (events_of (context_of s) (OfHead event)) ≡ Ok t.log → kept t ≡ kept_by s (OfHead event)
head_keeps s t (events.Rows operation ends) h = (one_told s.log t.log (logged.Rows ends) h).1
head_keeps s t events.PreviousGtids h = (one_told s.log t.log logged.Opens h).1
head_keeps s t events.Start h = none_told s.log t.log h
head_keeps s t events.Gtid h = none_told s.log t.log h
head_keeps s t events.Query h = none_told s.log t.log h
head_keeps s t events.Xid h = none_told s.log t.log h
head_keeps s t events.Payload h = none_told s.log t.log h
head_keeps s t events.Rotate h = none_told s.log t.log h
head_keeps s t events.Stop h = none_told s.log t.log h

told_keeps : (s t u : Standing) (l : Content) → transactions.runs s.log (events_of (context_of s) l) ≡ Ok t.log → take_content s l ≡ Ok u → u.log ≡ t.log → kept t ≡ kept_by s l
told_keeps s t u (OfMark mark) h taken same = mark_keeps s t mark h
told_keeps s t u (OfHead event) h taken same = head_keeps s t event h
told_keeps s t u (OfTable database table) h taken same = (one_told s.log t.log (logged.Maps database table) h).1
told_keeps s t u (OfColumn c) h taken same = column_keeps s.log t.log s.mapping c.column_type h
told_keeps s t u (OfGtid gtid) h taken same = ap kept_in (sym same) ∙ gtid_ends s u gtid taken
told_keeps s t u (OfSources sources more) h taken same = ap kept_in (sym same) ∙ (sources_join s u sources taken).keeps
told_keeps s t u (OfRow operation database table) h taken same = row_keeps s.log t.log (context_of s) s.row h
told_keeps s t u (OfValue n text) h taken same = none_told s.log t.log h

step_keeps : (s t : Standing) (l : Content) → Sound s → step s l ≡ Ok t → kept t ≡ kept_by s l
unfolding step
step_keeps s t l sound h =
    let p = test_ok (takes s.body (kind_of l)) _ (refusal_at s.body) t h in
    let a = bind_ok (take_content s l) _ t p.1 in
    told_keeps s t a.0 l (step_law s t l sound h).events a.1 (ap (λ (u : Standing). u.log) (same_ok _ t a.2))

-- whether a statement is open
pub step_open : (s t : Standing) (l : Content) → Sound s → step s l ≡ Ok t → t.log.is_open ≡ open_by s.log.is_open l
step_open s t l sound h = ap (λ (k : Kept). k.3) (step_keeps s t l sound h)

-- ---- columns

runs_vary : (s : Standing) (ls : List Content) (t : Standing) → Sound s → runs s ls ≡ Ok t → t.log.varied ≡ varied_in (context_of s) s.log.varied ls
runs_vary s [] t sound h = ap (λ (u : Standing). u.log.varied) (sym (same_ok s t h))
runs_vary s (l ∷ ls) t sound h =
    let a = bind_ok (step s l) _ t h in
    let first = step_law s a.0 l sound a.1 in
    let keeps = ap (λ (k : Kept). k.0) (step_keeps s a.0 l sound a.1) in
    runs_vary a.0 ls t first.sound a.2
    ∙ (λ i. varied_in (first.context i) (keeps i) ls)

-- those of the lines of a log
pub varied_told : (opening : Gtids) (ls : List Content) (s : Standing) → runs (start opening) ls ≡ Ok s → s.log.varied ≡ varied_in nowhere [] ls
varied_told opening ls s h = runs_vary (start opening) ls s (sound_start opening) h

-- ---- what was executed before

-- by the contents of lines, where their sets are read
abbrev before_in : Gtids × Bool → List Content → Gtids
before_in b ls = cond b.1 (executed_before b.0 ls) b.0

passed : (before : Gtids) (fresh : Bool) (l : Content) (ls : List Content) → before_in (before_by (before, fresh) l) ls ≡ before_in (before, fresh) (l ∷ ls)
passed before true (OfGtid gtid) ls = refl
passed before false (OfGtid gtid) ls = refl
passed before true (OfSources sources more) ls = refl
passed before false (OfSources sources more) ls = refl
passed before true (OfMark mark) ls = refl
passed before false (OfMark mark) ls = refl
passed before true (OfHead event) ls = refl
passed before false (OfHead event) ls = refl
passed before true (OfTable database table) ls = refl
passed before false (OfTable database table) ls = refl
passed before true (OfColumn column) ls = refl
passed before false (OfColumn column) ls = refl
passed before true (OfRow operation database table) ls = refl
passed before false (OfRow operation database table) ls = refl
passed before true (OfValue n text) ls = refl
passed before false (OfValue n text) ls = refl

none_left : (before : Gtids) (fresh : Bool) → before ≡ before_in (before, fresh) []
none_left before true = refl
none_left before false = refl

runs_before : (s : Standing) (ls : List Content) (t : Standing) → Sound s → runs s ls ≡ Ok t → t.log.previous ≡ before_in (s.log.previous, s.log.is_fresh) ls
runs_before s [] t sound h = ap (λ (u : Standing). u.log.previous) (sym (same_ok s t h)) ∙ none_left s.log.previous s.log.is_fresh
runs_before s (l ∷ ls) t sound h =
    let a = bind_ok (step s l) _ t h in
    let keeps = ap (λ (k : Kept). k.1) (step_keeps s a.0 l sound a.1) in
    runs_before a.0 ls t (step_law s a.0 l sound a.1).sound a.2
    ∙ ap (λ (b : Gtids × Bool). before_in b ls) keeps
    ∙ passed s.log.previous s.log.is_fresh l ls

-- that of the lines of a log
pub before_told : (opening : Gtids) (ls : List Content) (s : Standing) → runs (start opening) ls ≡ Ok s → s.log.previous ≡ executed_before set.empty ls
before_told opening ls s h = runs_before (start opening) ls s (sound_start opening) h

-- ---- what came

set_came : (s t : Standing) (l : Content) → take_content s l ≡ Ok t → set_has_come s.log.file s.log.come l ≡ true
set_came s t (OfSources sources more) h = (sources_join s t sources h).came
set_came s t (OfGtid gtid) h = refl
set_came s t (OfMark mark) h = refl
set_came s t (OfHead event) h = refl
set_came s t (OfTable database table) h = refl
set_came s t (OfColumn c) h = refl
set_came s t (OfRow operation database table) h = refl
set_came s t (OfValue n text) h = refl

step_came : (s t : Standing) (l : Content) → step s l ≡ Ok t → set_has_come s.log.file s.log.come l ≡ true
unfolding step
step_came s t l h =
    let p = test_ok (takes s.body (kind_of l)) _ (refusal_at s.body) t h in
    let a = bind_ok (take_content s l) _ t p.1 in
    set_came s a.0 l a.1

runs_gapless : (s : Standing) (ls : List Content) (t : Standing) → Sound s → runs s ls ≡ Ok t → NoGap s.log.file s.log.come ls
runs_gapless s [] t sound h = tt
runs_gapless s (l ∷ ls) t sound h =
    let a = bind_ok (step s l) _ t h in
    let keeps = ap (λ (k : Kept). k.2) (step_keeps s a.0 l sound a.1) in
    (step_came s a.0 l a.1, subst (λ (c : FileOrder × Gtids). NoGap c.0 c.1 ls) keeps (runs_gapless a.0 ls t (step_law s a.0 l sound a.1).sound a.2))

-- that of the lines of a log
pub gapless_told : (opening : Gtids) (ls : List Content) (s : Standing) → runs (start opening) ls ≡ Ok s → NoGap files.Unread opening ls
gapless_told opening ls s h = runs_gapless (start opening) ls s (sound_start opening) h
