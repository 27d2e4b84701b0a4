-- Each statement of rows ends before its transaction does, and the event that ends it has a row behind it.
use Rattle.std.specs.Prelude.{◌&&◌, ◌||◌, not, is_some}
use Rattle.std.proofs.Common.{◌≡◌, ℕ, Bool, true, false, List, [], ◌∷◌, Option, Some, None, Ok, refl, sym, ap, ◌∙◌, subst, length}
use Rattle.std.proofs.lemmas.Bool.{and_parts}
use Rattle.lemmas.proofs.Tests.{never}
use Rattle.gtid_set.specs.Sets.{Gtids}
use Rattle.binlog_text.specs.declared.lines.LogEvent.{LogEvent}
use Rattle.binlog_text.specs.declared.lines.LogEvent.TheVariants as events
use Rattle.binlog_text.specs.declared.lines.Mark.{Mark}
use Rattle.binlog_text.specs.declared.lines.Mark.TheVariants as marks
use Rattle.binlog_text.specs.Lines.{Content, OfMark, OfHead, OfTable, OfColumn, OfGtid, OfSources, OfRow, OfValue}
use Rattle.binlog_entries.specs.Bodies.{kind_of, takes, rows_body, body_of, is_row_due, next_body}
use Rattle.binlog_entries.specs.Machine.{Standing, before_due, after_due, where_line, set_line, next_value, value_in, value_line, tell, mark_line, take_content, step, runs, start, is_closed}
use Rattle.binlog_entries.specs.Meaning.{row_comes, head_has_rows, may_commit, has_rows, HaveRows}
use Rattle.binlog_entries.proofs.KeptLaws.{step_open}
use Rattle.binlog_entries.specs.Unread.{refusal_at}
use Rattle.binlog_entries.specs.declared.bodies.Body.{Body}
use Rattle.binlog_entries.specs.declared.bodies.Body.TheVariants as bodies
use Rattle.binlog_entries.specs.declared.bodies.BodyKind.{BodyKind}
use Rattle.binlog_entries.specs.declared.bodies.BodyKind.TheVariants as kinds
use Rattle.binlog_entries.specs.declared.draft.RowPart.{RowPart}
use Rattle.binlog_entries.specs.declared.draft.RowPart.TheVariants as parts
use Rattle.binlog_entries.specs.declared.fault.EntryRefusal.TheVariants as refusals
use Rattle.log_transactions.specs.Events as logged
use Rattle.log_transactions.specs.Machine.{is_begun, unless}
use Rattle.log_transactions.specs.declared.fault.EventRefusal.TheVariants as logs
use Rattle.binlog_entries.proofs.TransactionLaws.{bind_ok, same_ok, if_ok, test_ok, told_ok, Sound}
use Rattle.binlog_entries.proofs.RowLaws.{next_found}
use Rattle.binlog_entries.proofs.Meanings.{step_law, sound_start}

-- ---- where a row is owed

abbrev is_row_kind : BodyKind → Bool
is_row_kind kinds.Row = true
is_row_kind kinds.Extra = true
is_row_kind _ = false

only_rows : (body : Body) (kind : BodyKind) → is_row_due body ≡ true → takes body kind ≡ true → is_row_kind kind ≡ true
only_rows bodies.RowsDue kinds.Row d e = refl
only_rows bodies.RowsDue kinds.Extra d e = refl
only_rows bodies.RowsDue _ d e = absurd cc
only_rows _ kind d e = absurd cc

-- none is open
no_row : {A : Type 0} (o : Option (List ℕ)) → o ≡ None → is_some o ≡ true → A
no_row None n e = never e
no_row (Some table) n e = absurd cc

no_value : {A : Type 0} (s t : Standing) (part : RowPart) (n : ℕ) (text : List ℕ) → s.row ≡ None → value_in s part n text ≡ Ok t → A
no_value s t parts.Head n text none h = absurd cc
no_value s t parts.Before n text none h =
    let a = bind_ok (next_value s (length s.before) n text) _ t h in
    let row = (next_found s (length s.before) n text a.0 a.1).row in
    no_row s.row none (ap is_some row.1)
no_value s t parts.After n text none h =
    let a = bind_ok (next_value s (length s.after) n text) _ t h in
    let row = (next_found s (length s.after) n text a.0 a.1).row in
    no_row s.row none (ap is_some row.1)

-- a line that is taken where a row is owed is its first, or extra row info, behind which it is still owed
abbrev Owes : Standing → Standing → Content → List Content → Type 0
Owes s u l ls = (is_row_due (next_body u.body l) ≡ true → row_comes ls ≡ true) → row_comes (l ∷ ls) ≡ true

mark_owes : (s u : Standing) (mark : Mark) (ls : List Content) → s.row ≡ None → is_row_due s.body ≡ true → takes s.body (kind_of (OfMark mark)) ≡ true → take_content s (OfMark mark) ≡ Ok u → Owes s u (OfMark mark) ls
unfolding where_line set_line
mark_owes s u marks.Extra ls none due at h next = next (ap (λ (v : Standing). is_row_due v.body) (sym (same_ok s u h)) ∙ due)
mark_owes s u marks.Where ls none due at h next = no_row s.row none (and_parts (is_some s.row) (before_due s.operation s.part) (if_ok (is_some s.row && before_due s.operation s.part) (record s { part = parts.Before }) refusals.Columns u h).0).0
mark_owes s u marks.Set ls none due at h next = no_row s.row none (and_parts (is_some s.row) (after_due s.operation s.part) (if_ok (is_some s.row && after_due s.operation s.part) (record s { part = parts.After }) refusals.Columns u h).0).0
mark_owes s u marks.Place ls none due at h next = never (only_rows s.body kinds.Place due at)
mark_owes s u marks.Begin ls none due at h next = never (only_rows s.body kinds.Statement due at)
mark_owes s u marks.Commit ls none due at h next = never (only_rows s.body kinds.Statement due at)
mark_owes s u marks.Ended ls none due at h next = never (only_rows s.body kinds.Ended due at)
mark_owes s u marks.Committed ls none due at h next = never (only_rows s.body kinds.Committed due at)
mark_owes s u marks.Savepoint ls none due at h next = never (only_rows s.body kinds.Statement due at)
mark_owes s u marks.Automatic ls none due at h next = never (only_rows s.body kinds.Automatic due at)
mark_owes s u marks.Empty ls none due at h next = never (only_rows s.body kinds.Sources due at)
mark_owes s u marks.Closed ls none due at h next = never (only_rows s.body kinds.Closed due at)
mark_owes s u marks.Comment ls none due at h next = never (only_rows s.body kinds.Comment due at)
mark_owes s u marks.Setting ls none due at h next = never (only_rows s.body kinds.Setting due at)
mark_owes s u marks.Frame ls none due at h next = never (only_rows s.body kinds.Frame due at)
mark_owes s u marks.Maintenance ls none due at h next = never (only_rows s.body kinds.Statement due at)

line_owes : (s u : Standing) (l : Content) (ls : List Content) → s.row ≡ None → is_row_due s.body ≡ true → takes s.body (kind_of l) ≡ true → take_content s l ≡ Ok u → Owes s u l ls
unfolding value_line
line_owes s u (OfMark mark) ls none due at h next = mark_owes s u mark ls none due at h next
line_owes s u (OfRow operation database table) ls none due at h next = refl
line_owes s u (OfValue n text) ls none due at h next = no_value s u s.part n text none h
line_owes s u (OfHead event) ls none due at h next = never (only_rows s.body kinds.Head due at)
line_owes s u (OfTable database table) ls none due at h next = never (only_rows s.body kinds.TableMap due at)
line_owes s u (OfColumn c) ls none due at h next = never (only_rows s.body kinds.Column due at)
line_owes s u (OfGtid gtid) ls none due at h next = never (only_rows s.body kinds.Gtid due at)
line_owes s u (OfSources sources more) ls none due at h next = never (only_rows s.body kinds.Sources due at)

step_owes : (s t : Standing) (l : Content) (ls : List Content) → Sound s → is_row_due s.body ≡ true → step s l ≡ Ok t → (is_row_due t.body ≡ true → row_comes ls ≡ true) → row_comes (l ∷ ls) ≡ true
unfolding step
step_owes s t l ls sound due h next =
    let p = test_ok (takes s.body (kind_of l)) _ (refusal_at s.body) t h in
    let a = bind_ok (take_content s l) _ t p.1 in
    line_owes s a.0 l ls (sound.due due) due p.0 a.1 (λ d. next (ap (λ (u : Standing). is_row_due u.body) (sym (same_ok _ t a.2)) ∙ d))

closed_owes : {A : Type 0} (body : Body) → is_closed body ≡ true → is_row_due body ≡ true → A
closed_owes bodies.Closed c d = never d
closed_owes _ c d = absurd cc

runs_owe : (s : Standing) (ls : List Content) (t : Standing) → Sound s → runs s ls ≡ Ok t → is_closed t.body ≡ true → is_row_due s.body ≡ true → row_comes ls ≡ true
runs_owe s [] t sound h closed due = closed_owes s.body (ap (λ (u : Standing). is_closed u.body) (same_ok s t h) ∙ closed) due
runs_owe s (l ∷ ls) t sound h closed due =
    let a = bind_ok (step s l) _ t h in
    step_owes s a.0 l ls sound due a.1 (runs_owe a.0 ls t (step_law s a.0 l sound a.1).sound a.2 closed)

-- ---- each statement of rows

ends_owed : (ends comes : Bool) → (is_row_due (rows_body ends) ≡ true → comes ≡ true) → (not ends || comes) ≡ true
ends_owed true comes next = next refl
ends_owed false comes next = refl

head_filled : (event : LogEvent) (ls : List Content) → (is_row_due (body_of event) ≡ true → row_comes ls ≡ true) → head_has_rows event ls ≡ true
head_filled (events.Rows operation ends) ls next = ends_owed ends (row_comes ls) next
head_filled _ ls next = refl

-- a transaction that ends has no open statement
commit_closed : (s t : Standing) → tell s logged.Commits ≡ Ok t → not s.log.is_open ≡ true
commit_closed s t h = (and_parts (not s.log.is_open) (is_begun s.log.stage) (may (not s.log.is_open && is_begun s.log.stage) (told_ok s t logged.Commits h).0)).0
  where
    may : (b : Bool) → unless logs.Transaction b ≡ None → b ≡ true
    may true e = refl
    may false e = absurd cc

mark_filled : (s u : Standing) (mark : Mark) → mark_line s mark ≡ Ok u → may_commit s.log.is_open mark ≡ true
mark_filled s u marks.Commit h = commit_closed s u h
mark_filled s u marks.Committed h = commit_closed s u h
mark_filled s u _ h = refl

line_filled : (s u : Standing) (l : Content) (ls : List Content) → take_content s l ≡ Ok u → (is_row_due (next_body u.body l) ≡ true → row_comes ls ≡ true) → has_rows s.log.is_open l ls ≡ true
line_filled s u (OfHead event) ls h next = head_filled event ls next
line_filled s u (OfMark mark) ls h next = mark_filled s u mark h
line_filled s u _ ls h next = refl

step_filled : (s t : Standing) (l : Content) (ls : List Content) → step s l ≡ Ok t → (is_row_due t.body ≡ true → row_comes ls ≡ true) → has_rows s.log.is_open l ls ≡ true
unfolding step
step_filled s t l ls h next =
    let p = test_ok (takes s.body (kind_of l)) _ (refusal_at s.body) t h in
    let a = bind_ok (take_content s l) _ t p.1 in
    line_filled s a.0 l ls a.1 (λ d. next (ap (λ (u : Standing). is_row_due u.body) (sym (same_ok _ t a.2)) ∙ d))

runs_filled : (s : Standing) (ls : List Content) (t : Standing) → Sound s → runs s ls ≡ Ok t → is_closed t.body ≡ true → HaveRows s.log.is_open ls
runs_filled s [] t sound h closed = tt
runs_filled s (l ∷ ls) t sound h closed =
    let a = bind_ok (step s l) _ t h in
    let first = step_law s a.0 l sound a.1 in (
      step_filled s a.0 l ls a.1 (runs_owe a.0 ls t first.sound a.2 closed),
      subst (λ (b : Bool). HaveRows b ls) (step_open s a.0 l sound a.1) (runs_filled a.0 ls t first.sound a.2 closed),
    )

-- that of the lines of a log
pub rows_told : (opening : Gtids) (ls : List Content) (s : Standing) → runs (start opening) ls ≡ Ok s → is_closed s.body ≡ true → HaveRows false ls
rows_told opening ls s h closed = runs_filled (start opening) ls s (sound_start opening) h closed
