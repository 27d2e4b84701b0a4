-- What a row that is open denotes, and the lines of events and transactions.
use Rattle.std.proofs.lemmas.Grind.{flat_map-append}
use Rattle.std.proofs.Common.{◌≡◌, ℕ, Bool, true, false, cond, List, [], ◌∷◌, ◌++◌, length, Option, Some, None, Result, Ok, Err, refl, sym, ap, ◌∙◌, subst, append_assoc, append-nil}
use Rattle.std.specs.List.{flat_map}
use Rattle.lemmas.proofs.Tests.{never}
use Rattle.gtid_text.specs.Canonical.{gtid_text}
use Rattle.row_images.specs.declared.value.Value.{Value}
use Rattle.rows.specs.declared.change.Change.{Change}
use Rattle.log_transactions.specs.Events.{Event}
use Rattle.log_transactions.specs.Events as logged
use Rattle.log_transactions.specs.Machine.{LogState, is_idle, behind, refusal, taken, and_then}
use Rattle.log_transactions.specs.Machine as transactions
use Rattle.log_transactions.specs.declared.fault.EventRefusal.{EventRefusal}
use Rattle.binlog_text.specs.declared.lines.Mark.TheVariants as marks
use Rattle.binlog_text.specs.declared.lines.RowOperation.{RowOperation}
use Rattle.binlog_text.specs.declared.lines.RowOperation.TheVariants as operations
use Rattle.binlog_text.specs.Lines.{Content, OfMark}
use Rattle.binlog_entries.specs.Tables.{Table, find_table, with_mapping}
use Rattle.binlog_entries.specs.Bodies.{is_row_due, takes, behind as body_behind}
use Rattle.binlog_entries.specs.Machine.{Standing, ◌>>=◌, told_by, tell, is_whole, change_of, without_row, tell_row, finish_in, finish_by, finish_row, end_mapping, place_line, is_closed}
use Rattle.binlog_entries.specs.Meaning.{Meaning, Names, Row, Before, After, Commits, Context, means, behind_place, context_behind, meaning_of_values, meaning_of_change}
use Rattle.binlog_entries.specs.Telling.{row_events, columns_events, place_events, events_of}
use Rattle.binlog_entries.specs.declared.bodies.Body.{Body}
use Rattle.binlog_entries.specs.declared.bodies.Body.TheVariants as bodies
use Rattle.binlog_entries.specs.declared.bodies.BodyKind.{BodyKind}
use Rattle.binlog_entries.specs.declared.bodies.BodyKind.TheVariants as kinds
use Rattle.binlog_entries.specs.declared.draft.RowPart.{RowPart}
use Rattle.binlog_entries.specs.declared.draft.RowPart.TheVariants as parts
use Rattle.binlog_entries.specs.declared.fault.EntryRefusal.{EntryRefusal}
use Rattle.binlog_entries.specs.declared.fault.EntryRefusal.TheVariants as refusals

-- ---- results

pub bind_ok : {A B : Type 0} (r : Result A EntryRefusal) (f : A → Result B EntryRefusal) (y : B) → (r >>= f) ≡ Ok y → (x : A) × (r ≡ Ok x) × (f x ≡ Ok y)
bind_ok (Err e) f y h = absurd cc
bind_ok (Ok x) f y h = (x, refl, h)

pub same_ok : {A : Type 0} (x y : A) → (let r : Result A EntryRefusal = Ok x in r) ≡ Ok y → x ≡ y
same_ok x y e = cc

abbrev pub done : Standing → Result Standing EntryRefusal
done s = Ok s

-- where the test passes, it is this
pub if_ok : {A : Type 0} (b : Bool) (x : A) (e : EntryRefusal) (y : A) → cond b (Ok x) (Err e) ≡ Ok y → (b ≡ true) × (x ≡ y)
if_ok true x e y h = (refl, same_ok x y h)
if_ok false x e y h = absurd cc

pub test_ok : {A : Type 0} (b : Bool) (r : Result A EntryRefusal) (e : EntryRefusal) (x : A) → cond b r (Err e) ≡ Ok x → (b ≡ true) × (r ≡ Ok x)
test_ok true r e x h = (refl, h)
test_ok false r e x h = absurd cc

-- ---- the log

-- the log was told an event
pub told_ok : (s t : Standing) (e : Event) → tell s e ≡ Ok t → (refusal s.log e ≡ None) × (record s { log = behind s.log e } ≡ t)
told_ok s t e h = by (refusal s.log e) h
  where
    by : (o : Option EventRefusal) → told_by o s e ≡ Ok t → (o ≡ None) × (record s { log = behind s.log e } ≡ t)
    by None h = (refl, same_ok _ t h)
    by (Some reason) h = absurd cc

pub one_event : (log : LogState) (e : Event) → refusal log e ≡ None → transactions.runs log (e ∷ []) ≡ Ok (behind log e)
one_event log e may = ap (λ (o : Option EventRefusal). and_then (taken o (behind log e)) (λ t. transactions.runs t [])) may

pub events_taken : (o : Option EventRefusal) (u : LogState) (next : LogState → Result LogState EventRefusal) (t : LogState) → and_then (taken o u) next ≡ Ok t → (o ≡ None) × (next u ≡ Ok t)
events_taken None u next t h = (refl, h)
events_taken (Some reason) u next t h = absurd cc

pub same_log : (s t : LogState) → (let r : Result LogState EventRefusal = Ok s in r) ≡ Ok t → s ≡ t
same_log s t e = cc

pub runs_more : (log u t : LogState) (xs ys : List Event) → transactions.runs log xs ≡ Ok u → transactions.runs u ys ≡ Ok t → transactions.runs log (xs ++ ys) ≡ Ok t
runs_more log u t [] ys h k = ap (λ (v : LogState). transactions.runs v ys) (same_log log u h) ∙ k
runs_more log u t (x ∷ xs) ys h k =
    let p = events_taken (refusal log x) (behind log x) (λ v. transactions.runs v xs) u h in
    ap (λ (o : Option EventRefusal). and_then (taken o (behind log x)) (λ v. transactions.runs v (xs ++ ys))) p.0
    ∙ runs_more (behind log x) u t xs ys p.1 k

-- ---- what a row that is open, and events, denote

abbrev pub spelled_parts : RowOperation → RowPart → List Value → List Value → List Meaning
spelled_parts operation parts.Head before after = []
spelled_parts operation parts.Before before after = Before ∷ meaning_of_values 1 before
spelled_parts operations.Insert parts.After before after = After ∷ meaning_of_values 1 after
spelled_parts operations.Update parts.After before after = Before ∷ (meaning_of_values 1 before ++ After ∷ meaning_of_values 1 after)
spelled_parts operations.Delete parts.After before after = Before ∷ (meaning_of_values 1 before ++ After ∷ meaning_of_values 1 after)

abbrev pub spelled_row : Option (List ℕ) → RowOperation → RowPart → List Value → List Value → List Meaning
spelled_row None operation part before after = []
spelled_row (Some table) operation part before after = Row operation table ∷ spelled_parts operation part before after

abbrev pub row_of : Standing → List Meaning
row_of s = spelled_row s.row s.operation s.part s.before s.after

abbrev pub event_spelled : Event → List Meaning
event_spelled (logged.Names gtid) = Names (gtid_text gtid) ∷ []
event_spelled (logged.Row change) = meaning_of_change change
event_spelled logged.Commits = Commits ∷ []
event_spelled logged.Maintains = Commits ∷ []
event_spelled _ = []

abbrev pub events_spelled : List Event → List Meaning
events_spelled es = flat_map event_spelled es

abbrev pub context_of : Standing → Context
context_of s = record { is_over = s.is_over; mapping = s.mapping; tables = s.tables; row = s.row; operation = s.operation; part = s.part; before = s.before; after = s.after }

-- ---- what holds of a state

abbrev pub is_rows : Body → Bool
is_rows bodies.Rows = true
is_rows bodies.RowsDue = true
is_rows _ = false

abbrev pub RowFits : Option (List ℕ) → RowPart → List Value → List Value → Type 0
RowFits None part before after = (before ≡ []) × (after ≡ [])
RowFits (Some table) parts.Head before after = (before ≡ []) × (after ≡ [])
RowFits (Some table) parts.Before before after = after ≡ []
RowFits (Some table) parts.After before after = Unit {0}

pub record Sound (s : Standing) : Type 0 where
  pub inside : is_rows s.body ≡ false → s.row ≡ None
  pub closed : is_closed s.body ≡ true → is_idle s.log.stage ≡ true
  pub due : is_row_due s.body ≡ true → s.row ≡ None
  pub fits : RowFits s.row s.part s.before s.after

-- the line was taken
pub record Tells (s : Standing) (l : Content) (t : Standing) : Type 0 where
  pub events : transactions.runs s.log (events_of (context_of s) l) ≡ Ok t.log
  pub spells : row_of s ++ means (context_of s) l ≡ events_spelled (events_of (context_of s) l) ++ row_of t
  pub context : context_of t ≡ context_behind (context_of s) l
  pub sound : Sound t

-- ---- a row is finished

-- what denotes the row that is open denotes the change that it becomes
pub change_spelled : (operation : RowOperation) (part : RowPart) (table : List ℕ) (before after : List Value) (n : ℕ) → is_whole operation part (length before) (length after) n ≡ true → spelled_row (Some table) operation part before after ≡ meaning_of_change (change_of operation table before after)
change_spelled operations.Insert parts.After table before after n e = refl
change_spelled operations.Delete parts.Before table before after n e = refl
change_spelled operations.Update parts.After table before after n e = refl
change_spelled _ _ table before after n e = absurd cc

pub flat_map_more : {A B : Type 0} (f : A → List B) (xs : List A) (x : A) → flat_map f (xs ++ x ∷ []) ≡ flat_map f xs ++ f x
flat_map_more f [] x = append-nil (f x)
flat_map_more f (y ∷ ys) x = ap (λ zs. f y ++ zs) (flat_map_more f ys x) ∙ sym (append_assoc (f y) (flat_map f ys) (f x))

-- a state without an open row
abbrev pub bare : Standing → LogState → Standing
bare s log = record s { row = None; before = []; after = []; log = log }

abbrev pub finished : Standing → List Event
finished s = row_events (context_of s) s.row

pub record Finishes (s u : Standing) : Type 0 where
  pub is : u ≡ bare s u.log
  pub run : transactions.runs s.log (finished s) ≡ Ok u.log
  pub spells : row_of s ≡ events_spelled (finished s)

pub finish_none : (s : Standing) → Sound s → s.row ≡ None → Finishes s s
finish_none s sound e =
    let fits : RowFits None s.part s.before s.after = subst (λ (r : Option (List ℕ)). RowFits r s.part s.before s.after) e sound.fits in record {
      is = λ i. record s { row = e i; before = fits.0 i; after = fits.1 i };
      run = ap (λ (r : Option (List ℕ)). transactions.runs s.log (row_events (context_of s) r)) e;
      spells =
          ap (λ (r : Option (List ℕ)). spelled_row r s.operation s.part s.before s.after) e
          ∙ sym (ap (λ (r : Option (List ℕ)). events_spelled (row_events (context_of s) r)) e);
    }

abbrev change_in : Standing → List ℕ → Change
change_in s table = change_of s.operation table s.before s.after

pub finish_some : (s u : Standing) (table : List ℕ) (n : ℕ) → s.row ≡ Some table → is_whole s.operation s.part (length s.before) (length s.after) n ≡ true → tell_row s table ≡ Ok u → Finishes s u
finish_some s u table n e whole h =
    let a = bind_ok (tell s (logged.Row (change_in s table))) (λ t. Ok (without_row t)) u h in
    let q = told_ok s a.0 (logged.Row (change_in s table)) a.1 in
    subst (Finishes s) (ap without_row q.1 ∙ same_ok _ u a.2) (record {
      is = refl;
      run = ap (λ (r : Option (List ℕ)). transactions.runs s.log (row_events (context_of s) r)) e ∙ one_event s.log (logged.Row (change_in s table)) q.0;
      spells =
          ap (λ (r : Option (List ℕ)). spelled_row r s.operation s.part s.before s.after) e
          ∙ change_spelled s.operation s.part table s.before s.after n whole
          ∙ sym (append-nil (meaning_of_change (change_in s table)))
          ∙ sym (ap (λ (r : Option (List ℕ)). events_spelled (row_events (context_of s) r)) e);
    })

pub finish_named : (s u : Standing) (table : List ℕ) (o : Option Table) → s.row ≡ Some table → finish_in s table o ≡ Ok u → Finishes s u
finish_named s u table None e h = absurd cc
finish_named s u table (Some t) e h =
    let p = test_ok (is_whole s.operation s.part (length s.before) (length s.after) (length t.columns)) (tell_row s table) refusals.Columns u h in
    finish_some s u table (length t.columns) e p.0 p.1

pub finish_either : (s u : Standing) (r : Option (List ℕ)) → Sound s → s.row ≡ r → finish_by s r ≡ Ok u → Finishes s u
finish_either s u None sound e h = subst (Finishes s) (same_ok s u h) (finish_none s sound e)
finish_either s u (Some table) sound e h = finish_named s u table (find_table table s.tables) e h

pub finish_law : (s u : Standing) → Sound s → finish_row s ≡ Ok u → Finishes s u
unfolding finish_row
finish_law s u sound h = finish_either s u s.row sound refl h

-- ---- a table joins the others

pub record Maps (u t : Standing) : Type 0 where
  pub is : t ≡ record u { tables = with_mapping u.tables u.mapping; mapping = None; log = t.log }
  pub run : transactions.runs u.log (columns_events u.mapping) ≡ Ok t.log

map_either : (u t : Standing) (o : Option Table) → u.mapping ≡ o → end_mapping u o ≡ Ok t → Maps u t
map_either u t None e h = subst (Maps u) (same_ok u t h) (record {
  is = λ i. record u { mapping = e i; tables = sym (ap (with_mapping u.tables) e) i };
  run = ap (λ (o : Option Table). transactions.runs u.log (columns_events o)) e;
})
map_either u t (Some m) e h =
    let columns : Event = logged.Columns (length m.columns) in
    let a = bind_ok (tell u columns) (λ v. Ok (record v { tables = v.tables ++ m ∷ []; mapping = None })) t h in
    let q = told_ok u a.0 columns a.1 in
    subst (Maps u) (ap (λ (v : Standing). record v { tables = v.tables ++ m ∷ []; mapping = None }) q.1 ∙ same_ok _ t a.2) (record {
      is = λ i. record u { tables = sym (ap (with_mapping u.tables) e) i; mapping = None; log = behind u.log columns };
      run = ap (λ (o : Option Table). transactions.runs u.log (columns_events o)) e ∙ one_event u.log columns q.0;
    })

columns_nothing : (o : Option Table) → events_spelled (columns_events o) ≡ []
columns_nothing None = refl
columns_nothing (Some t) = refl

-- ---- lines that begin and end events

-- an event has ended
abbrev pub rests : Standing → LogState → Body → Standing
rests s log body = record (bare s log) { tables = with_mapping s.tables s.mapping; mapping = None; body = body }

-- a row is owed in the body of a rows event alone
pub due_rows : (body : Body) → is_row_due body ≡ true → is_rows body ≡ true
due_rows bodies.RowsDue d = refl
due_rows _ d = absurd cc

pub rest_law : (s t : Standing) (body : Body) (l : Content) → Sound s → place_line s ≡ Ok t → is_closed body ≡ false → events_of (context_of s) l ≡ place_events (context_of s) → means (context_of s) l ≡ [] → context_behind (context_of s) l ≡ behind_place (context_of s) → Tells s l (record t { body = body })
unfolding place_line
rest_law s t body l sound h closed told nothing behind_is =
    let a = bind_ok (finish_row s) (λ u. end_mapping u u.mapping) t h in
    let f = finish_law s a.0 sound a.1 in
    let m = map_either a.0 t a.0.mapping refl a.2 in
    let mapping : a.0.mapping ≡ s.mapping = ap (λ (v : Standing). v.mapping) f.is in
    let run = runs_more s.log a.0.log t.log (finished s) (columns_events s.mapping) f.run (subst (λ (o : Option Table). transactions.runs a.0.log (columns_events o) ≡ Ok t.log) mapping m.run) in
    let is : t ≡ record (rests s t.log body) { body = s.body } = m.is ∙ ap (λ (v : Standing). record v { tables = with_mapping v.tables v.mapping; mapping = None; log = t.log }) f.is in
    let all : events_spelled (place_events (context_of s)) ++ [] ≡ row_of s =
    append-nil (events_spelled (place_events (context_of s)))
    ∙ flat_map-append event_spelled (finished s) (columns_events s.mapping)
    ∙ ap (λ (xs : List Meaning). events_spelled (finished s) ++ xs) (columns_nothing s.mapping)
    ∙ append-nil (events_spelled (finished s))
    ∙ sym f.spells in
    subst (λ (u : Standing). Tells s l (record u { body = body })) (sym is) (record {
      events = ap (transactions.runs s.log) told ∙ run;
      spells =
          ap (λ (xs : List Meaning). row_of s ++ xs) nothing
          ∙ append-nil (row_of s)
          ∙ sym all
          ∙ ap (λ (es : List Event). events_spelled es ++ []) (sym told);
      context = sym behind_is;
      sound = record {
        inside = λ b. refl;
        closed = λ c. absurd (let bad : true ≡ false = sym c ∙ closed in cc);
        due = λ d. refl;
        fits = (refl, refl);
      };
    })

pub place_law : (s t : Standing) → Sound s → place_line s ≡ Ok t → Tells s (OfMark marks.Place) (record t { body = bodies.Between })
place_law s t sound h = rest_law s t bodies.Between (OfMark marks.Place) sound h refl refl refl refl

pub automatic_law : (s t : Standing) → Sound s → place_line s ≡ Ok t → Tells s (OfMark marks.Automatic) (record t { body = bodies.FileEnd })
automatic_law s t sound h = rest_law s t bodies.FileEnd (OfMark marks.Automatic) sound h refl refl refl refl

-- ---- lines that change no row

abbrev pub RowParts : Type 0
RowParts = Option (List ℕ) × RowPart × List Value × List Value

abbrev pub row_parts : Standing → RowParts
row_parts s = (s.row, s.part, s.before, s.after)

-- a line that is in no rows event means what its events do
pub plain : (s t : Standing) (l : Content) → Sound s → is_rows s.body ≡ false → row_parts t ≡ row_parts s → (is_closed t.body ≡ true → is_idle t.log.stage ≡ true)
    → transactions.runs s.log (events_of (context_of s) l) ≡ Ok t.log → means (context_of s) l ≡ events_spelled (events_of (context_of s) l) → context_of t ≡ context_behind (context_of s) l → Tells s l t
plain s t l sound outside same closed run spells context =
    let none = sound.inside outside in
    let empty : t.row ≡ None = ap (λ (p : RowParts). p.0) same ∙ none in
    record {
      events = run;
      spells =
          ap (λ (r : Option (List ℕ)). spelled_row r s.operation s.part s.before s.after ++ means (context_of s) l) none
          ∙ spells
          ∙ sym (append-nil (events_spelled (events_of (context_of s) l)))
          ∙ ap (λ (r : Option (List ℕ)). events_spelled (events_of (context_of s) l) ++ spelled_row r t.operation t.part t.before t.after) (sym empty);
      context = context;
      sound = record {
        inside = λ b. empty;
        closed = closed;
        due = λ d. empty;
        fits = subst (λ (p : RowParts). RowFits p.0 p.1 p.2 p.3) (sym same) sound.fits;
      };
    }

-- a line that tells one event
pub told_law : (s t : Standing) (l : Content) (e : Event) (body : Body) → Sound s → is_rows s.body ≡ false → (is_closed body ≡ true → refusal s.log e ≡ None → is_idle (behind s.log e).stage ≡ true)
    → events_of (context_of s) l ≡ e ∷ [] → means (context_of s) l ≡ event_spelled e → context_behind (context_of s) l ≡ context_of s → tell s e ≡ Ok t → Tells s l (record t { body = body })
told_law s t l e body sound outside closed told spells same h =
    let q = told_ok s t e h in
    subst (λ (u : Standing). Tells s l (record u { body = body })) q.1
    (plain s (record s { body = body; log = behind s.log e }) l sound outside refl (λ c. closed c q.0)
    (ap (transactions.runs s.log) told ∙ one_event s.log e q.0)
    (spells ∙ sym (append-nil (event_spelled e)) ∙ ap events_spelled (sym told))
    (sym same))

-- the same of a line behind which the same may come
pub told_here : (s t : Standing) (l : Content) (e : Event) → Sound s → is_rows s.body ≡ false → (is_closed s.body ≡ true → is_idle (behind s.log e).stage ≡ true)
    → events_of (context_of s) l ≡ e ∷ [] → means (context_of s) l ≡ event_spelled e → context_behind (context_of s) l ≡ context_of s → tell s e ≡ Ok t → Tells s l t
told_here s t l e sound outside closed told spells same h =
    let q = told_ok s t e h in
    subst (Tells s l) q.1
    (plain s (record s { log = behind s.log e }) l sound outside refl closed
    (ap (transactions.runs s.log) told ∙ one_event s.log e q.0)
    (spells ∙ sym (append-nil (event_spelled e)) ∙ ap events_spelled (sym told))
    (sym same))

-- ---- bodies

abbrev pub IsQuiet : Body → Body → Type 0
IsQuiet old new = (is_rows old ≡ false) × (is_rows new ≡ false) × (is_closed new ≡ true → is_closed old ≡ true)

pub comment_quiet : (body : Body) → takes body kinds.Comment ≡ true → IsQuiet body (body_behind body kinds.Comment)
comment_quiet bodies.Preamble e = (refl, refl, never)
comment_quiet bodies.Start e = (refl, refl, never)
comment_quiet bodies.Gtid e = (refl, refl, never)
comment_quiet bodies.TableMap e = (refl, refl, never)
comment_quiet bodies.Payload e = (refl, refl, never)
comment_quiet bodies.Done e = (refl, refl, never)
comment_quiet _ e = absurd cc

pub setting_quiet : (body : Body) → takes body kinds.Setting ≡ true → IsQuiet body (body_behind body kinds.Setting)
setting_quiet bodies.Gtid e = (refl, refl, never)
setting_quiet bodies.Query e = (refl, refl, never)
setting_quiet _ e = absurd cc

pub frame_quiet : (body : Body) → takes body kinds.Frame ≡ true → IsQuiet body (body_behind body kinds.Frame)
frame_quiet bodies.Preamble e = (refl, refl, never)
frame_quiet bodies.Start e = (refl, refl, never)
frame_quiet bodies.FileEnd e = (refl, refl, never)
frame_quiet bodies.Closed e = (refl, refl, (λ e. e))
frame_quiet _ e = absurd cc

pub sources_quiet : (body : Body) → takes body kinds.Sources ≡ true → IsQuiet body (body_behind body kinds.Sources)
sources_quiet bodies.PreviousGtids e = (refl, refl, never)
sources_quiet _ e = absurd cc

pub ended_quiet : (body : Body) → takes body kinds.Ended ≡ true → IsQuiet body (body_behind body kinds.Ended)
ended_quiet bodies.Statement e = (refl, refl, never)
ended_quiet _ e = absurd cc

pub statement_quiet : (body : Body) → takes body kinds.Statement ≡ true → IsQuiet body (body_behind body kinds.Statement)
statement_quiet bodies.Query e = (refl, refl, never)
statement_quiet _ e = absurd cc

pub committed_quiet : (body : Body) → takes body kinds.Committed ≡ true → IsQuiet body (body_behind body kinds.Committed)
committed_quiet bodies.Xid e = (refl, refl, never)
committed_quiet _ e = absurd cc

pub gtid_quiet : (body : Body) → takes body kinds.Gtid ≡ true → IsQuiet body (body_behind body kinds.Gtid)
gtid_quiet bodies.Gtid e = (refl, refl, never)
gtid_quiet _ e = absurd cc

pub column_quiet : (body : Body) → takes body kinds.Column ≡ true → IsQuiet body (body_behind body kinds.Column)
column_quiet bodies.TableMap e = (refl, refl, never)
column_quiet _ e = absurd cc

pub tablemap_quiet : (body : Body) → takes body kinds.TableMap ≡ true → IsQuiet body (body_behind body kinds.TableMap)
tablemap_quiet bodies.Between e = (refl, refl, never)
tablemap_quiet _ e = absurd cc

pub between_only : (body : Body) (kind : BodyKind) → takes body kinds.Head ≡ true → body ≡ bodies.Between
between_only bodies.Between kind e = refl
between_only _ kind e = absurd cc

pub rows_only : (body : Body) → takes body kinds.Row ≡ true → is_rows body ≡ true
rows_only bodies.Rows e = refl
rows_only bodies.RowsDue e = refl
rows_only _ e = absurd cc

-- ---- lines that change nothing

-- a line that means nothing, and changes nothing but the place of the next one
pub neutral : (s : Standing) (l : Content) (body : Body) → Sound s → IsQuiet s.body body → events_of (context_of s) l ≡ [] → means (context_of s) l ≡ [] → context_behind (context_of s) l ≡ context_of s → Tells s l (record s { body = body })
neutral s l body sound q told nothing same = plain s (record s { body = body }) l sound q.0 refl (λ c. sound.closed (q.2 c)) (ap (transactions.runs s.log) told) (nothing ∙ ap events_spelled (sym told)) (sym same)
