-- What the files of a whole log tell.
use Rattle.std.proofs.Common.{◌≡◌, ℕ, Bool, true, false, cond, List, [], ◌∷◌, ◌++◌, Option, Some, None, Result, Ok, Err, refl, sym, ap, subst, ◌∙◌, inr}
use Rattle.std.specs.Prelude.{◌==◌, ◌&&◌, not}
use Rattle.std.specs.FinSet as set
use Rattle.gtid_text.specs.declared.Gtid.{Gtid}
use Rattle.gtid_set.specs.Sets.{Gtids}
use Rattle.binlog_events.specs.Gtids.{gtid_of}
use Rattle.binlog_frames.specs.Spelling.{Framed}
use Rattle.binlog_frames.specs.Standing.{Standing, front_at, opening_at, unfinished, before}
use Rattle.binlog_frames.specs.Standing as frames
use Rattle.binlog_frames.specs.declared.fault.FrameFault.{FrameFault}
use Rattle.log_transactions.specs.Events.{Event, Names, Ends}
use Rattle.log_transactions.specs.Machine.{LogState, runs, step, is_idle, Takes}
use Rattle.log_transactions.specs.Machine as machine
use Rattle.journal.specs.declared.Entry.{Entry}
use Rattle.log_transactions.specs.Meaning.{AreOfLog, EventsMeanEntries}
use Rattle.log_transactions.specs.declared.varied.Varied.{Varied}
use Rattle.log_transactions.specs.declared.fault.EventFault.{EventFault}
use Rattle.log_transactions.specs.declared.fault.EventFault.TheVariants as events
use Rattle.log_transactions.specs.declared.fault.EventRefusal.{EventRefusal}
use Rattle.log_transactions.specs.declared.fault.EventRefusal.TheVariants.{Transaction}
use Rattle.binlog_files.specs.Given.{Given}
use Rattle.binlog_files.specs.Files.{HasTaken, IsDamaged}
use Rattle.binlog_files.specs.Taking.{FilesState, of_log, told_to, with_log, with_name, begin_transaction, is_outside, is_accepted, start, take_event, and_then, take_events}
use Rattle.binlog_files.specs.Told.{told}
use Rattle.binlog_files.specs.Whole.{name_told, events_told, event_told, told_behind, told_by, TakesFile, TakesFiles, NoFile, AndFile, IsLogOfFiles}
use Rattle.binlog_files.specs.declared.fault.FileRefusal.{FileRefusal}

-- ---- runs

two_behind : (t u : LogState) (es b : List Event) (r : Result LogState EventRefusal) → ((m : LogState) → runs m es ≡ Ok t → runs m (es ++ b) ≡ Ok u)
    → machine.and_then r (λ m. runs m es) ≡ Ok t → machine.and_then r (λ m. runs m (es ++ b)) ≡ Ok u
two_behind t u es b (Ok m) again h = again m h
two_behind t u es b (Err x) again h = absurd cc

runs_two : (s t u : LogState) (a b : List Event) → runs s a ≡ Ok t → runs t b ≡ Ok u → runs s (a ++ b) ≡ Ok u
runs_two s t u [] b h k =
    let same : s ≡ t = cc in
    ap (λ (x : LogState). runs x b) same ∙ k
runs_two s t u (e ∷ es) b h k = two_behind t u es b (step s e) (λ m g. runs_two m t u es b g k) h

-- ---- an event

log_named : (s m : FilesState) (r : Result LogState EventRefusal) → with_name s (of_log r) ≡ Ok m → r ≡ Ok m.log
log_named s m (Ok l) h =
    let same : record { tables = s.tables; is_passed = false; log = l } ≡ m = cc in
    ap (λ (x : FilesState). Ok x.log) same
log_named s m (Err x) h = absurd cc

named_in : (given : Given) (s m : FilesState) (gtid : Gtid) (b : Bool)
    → cond b (Ok (record { tables = s.tables; is_passed = true; log = s.log })) (with_name s (told_to s.log (Ok (Names gtid ∷ [])))) ≡ Ok m
    → runs s.log (cond b [] (Names gtid ∷ [])) ≡ Ok m.log
named_in given s m gtid true h =
    let same : record { tables = s.tables; is_passed = true; log = s.log } ≡ m = cc in
    ap (λ (x : FilesState). Ok x.log) same
named_in given s m gtid false h = log_named s m (runs s.log (Names gtid ∷ [])) h

begun : (given : Given) (s m : FilesState) (found : Option Gtid) → begin_transaction given s found ≡ Ok m → runs s.log (name_told given found) ≡ Ok m.log
begun given s m None h = absurd cc
begun given s m (Some gtid) h = named_in given s m gtid (set.contains given.opening gtid) h

log_told : (s m : FilesState) (e : Framed) (r : Result LogState EventRefusal) → with_log s e (of_log r) ≡ Ok m → r ≡ Ok m.log
log_told s m e (Ok l) h = ap (λ (x : Result FilesState FileRefusal). of_result x) h
  where
    of_result : Result FilesState FileRefusal → Result LogState EventRefusal
    of_result (Ok x) = Ok x.log
    of_result (Err x) = Ok s.log
log_told s m e (Err x) h = absurd cc

told_in : (s m : FilesState) (e : Framed) (t : Result (List Event) FileRefusal) → with_log s e (told_to s.log t) ≡ Ok m → runs s.log (events_told t) ≡ Ok m.log
told_in s m e (Ok es) h = log_told s m e (runs s.log es) h
told_in s m e (Err x) h = absurd cc

by_tests : (s m : FilesState) (b p : Bool) (first other : Result FilesState FileRefusal) (es ds : List Event)
    → (first ≡ Ok m → runs s.log es ≡ Ok m.log) → (other ≡ Ok m → runs s.log ds ≡ Ok m.log)
    → cond b first (cond p (Ok s) other) ≡ Ok m → runs s.log (cond b es (cond p [] ds)) ≡ Ok m.log
by_tests s m true p first other es ds f g h = f h
by_tests s m false true first other es ds f g h =
    let same : s ≡ m = cc in
    ap (λ (x : FilesState). Ok x.log) same
by_tests s m false false first other es ds f g h = g h

runs_event : (given : Given) (s m : FilesState) (e : Framed) → take_event given s e ≡ Ok m → runs s.log (event_told given s e) ≡ Ok m.log
unfolding take_event
runs_event given s m e h =
    by_tests s m (e.kind == 33) (s.is_passed && not (is_outside e.kind)) (begin_transaction given s (gtid_of e.body)) (with_log s e (told_to s.log (told s.tables (is_accepted given s) e)))
    (name_told given (gtid_of e.body)) (events_told (told s.tables (is_accepted given s) e)) (begun given s m (gtid_of e.body)) (told_in s m e (told s.tables (is_accepted given s) e)) h

-- ---- events

events_behind : (given : Given) (s t : FilesState) (e : Framed) (es : List Framed) (r : Result FilesState FileRefusal)
    → ((m : FilesState) → take_events given m es ≡ Ok t → runs m.log (told_by given m es) ≡ Ok t.log)
    → take_event given s e ≡ r → and_then r (λ m. take_events given m es) ≡ Ok t
    → runs s.log (event_told given s e ++ told_behind r (λ m. told_by given m es)) ≡ Ok t.log
events_behind given s t e es (Ok m) again k h = runs_two s.log m.log t.log (event_told given s e) (told_by given m es) (runs_event given s m e k) (again m h)
events_behind given s t e es (Err x) again k h = absurd cc

runs_events : (given : Given) (s t : FilesState) (es : List Framed) → take_events given s es ≡ Ok t → runs s.log (told_by given s es) ≡ Ok t.log
runs_events given s t [] h =
    let same : s ≡ t = cc in
    ap (λ (x : FilesState). Ok x.log) same
runs_events given s t (e ∷ es) h = events_behind given s t e es (take_event given s e) (λ m g. runs_events given m t es g) refl h

-- ---- files

file_runs : (given : Given) (s t : FilesState) (bytes : List ℕ) (tells : List Event) → TakesFile given s bytes tells t → runs s.log tells ≡ Ok t.log
file_runs given s t bytes tells f = ap (λ x. runs s.log x) f.tell ∙ runs_events given s t f.events f.taken

pub files_run : (given : Given) (s t : FilesState) (files : List (List ℕ)) (tells : List Event) → TakesFiles given s files tells t → runs s.log tells ≡ Ok t.log
files_run given s t files tells NoFile = refl
files_run given s t files tells (AndFile before bytes told more mid to first last) =
    runs_two s.log mid.log to.log told more (files_run given s mid before told first) (file_runs given mid to bytes more last)

pub files_idle : (given : Given) (s t : FilesState) (files : List (List ℕ)) (tells : List Event) → is_idle s.log.stage ≡ true → TakesFiles given s files tells t
    → is_idle t.log.stage ≡ true
files_idle given s t files tells idle NoFile = idle
files_idle given s t files tells idle (AndFile before bytes told more mid to first last) = last.idle

pub log_of_files : EventsMeanEntries → (to : FilesState) (previous : Gtids) (entries : List Entry) (varied : List Varied)
    → previous ≡ to.log.previous → entries ≡ to.log.entries → varied ≡ to.log.varied → IsLogOfFiles to previous entries varied
log_of_files law to previous entries varied e f g = λ given files tells t.
    let whole = law given.opening tells to.log (files_run given (start given.opening) to files tells t) (files_idle given (start given.opening) to files tells refl t) in
    subst (λ (p : Gtids). AreOfLog given.opening tells p entries varied) (sym e)
    (subst (λ (es : List Entry). AreOfLog given.opening tells to.log.previous es varied) (sym f)
    (subst (λ (vs : List Varied). AreOfLog given.opening tells to.log.previous to.log.entries vs) (sym g) whole))

-- ---- the ends of files

some_refusal : (r : EventRefusal) (b : Bool) → cond b None (Some Transaction) ≡ Some r → b ≡ false
some_refusal r true e = absurd cc
some_refusal r false e = refl

pub not_idle : (fault : EventFault) (s t : LogState) → Takes (Err fault) s Ends t → is_idle s.stage ≡ false
not_idle (events.Set fault) s t h = absurd h
not_idle (events.Refused r) s t h = some_refusal r (is_idle s.stage) h.0

no_refusal : (b : Bool) → cond b None (Some Transaction) ≡ None → b ≡ true
no_refusal true e = refl
no_refusal false e = absurd cc

pub idle : (u : Unit {0}) (s t : LogState) → Takes (Ok u) s Ends t → is_idle s.stage ≡ true
idle u s t h = no_refusal (is_idle s.stage) h.0

start_none : front_at frames.start ≡ Ok None
unfolding opening_at
start_none = refl

pub at_start : (given : Given) (s : Standing) (from to : FilesState) → s ≡ frames.start → to ≡ from → HasTaken given from [] s to × (front_at s ≡ Ok None)
at_start given s from to e f = (record { events = []; follows = sym e; taken = ap Ok (sym f) }, ap front_at e ∙ start_none)

pub cut_short : (given : Given) (from to : FilesState) (bytes : List ℕ) (s : Standing) (fault : FrameFault) → unfinished s ≡ Some fault
    → HasTaken given from bytes s to × (front_at s ≡ Ok None) → IsDamaged given from bytes fault
cut_short given from to bytes s fault e h =
    record { events = h.0.events; ends = record { last = s; follows = h.0.follows; wrong = inr (h.1, e) }; state = to; taken = h.0.taken }
