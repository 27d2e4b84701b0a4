-- What is told to a log, event by event.
use Rattle.std.proofs.Common.{◌≡◌, ℕ, ◌+◌, ◌<◌, Bool, List, [], ◌∷◌, length, map, drop, get_or, Option, Some, None, Result, Ok, Err, refl, sym, ap, subst, ◌∙◌}
use Rattle.std.specs.Prelude.{◌&&◌}
use Rattle.std.specs.FinSet as set
use Rattle.std.specs.List.{list_all}
use Rattle.std.proofs.lemmas.List.{at_drop_more}
use Rattle.std.proofs.lemmas.Option.{same_Some}
use Rattle.gtid_set.specs.Laws.{HaveNumbers}
use Rattle.gtid_set.specs.Sets.{Gtids}
use Rattle.journal.proofs.EntryLemmas.{no_numbers}
use Rattle.txn_journal.proofs.GtidLaws.{set_found, written_numbers}
use Rattle.binlog_files.specs.Told.{set_said, varies}
use Rattle.binlog_rows.specs.declared.comparisons.VariedPlace.{VariedPlace}
use Rattle.binlog_files.specs.declared.fault.FileRefusal.{FileRefusal}
use Rattle.gtid_set.specs.declared.fault.SetFault.{SetFault}
use Rattle.log_transactions.specs.Events.{Event, Row, Varies}
use Rattle.log_transactions.specs.Machine.{LogState, behind, refusal, taken, and_then, runs, TakesOr}
use Rattle.log_transactions.specs.declared.fault.EventFault.{EventFault}
use Rattle.log_transactions.specs.declared.fault.EventFault.TheVariants as events
use Rattle.log_transactions.specs.declared.fault.EventRefusal.{EventRefusal}
use Rattle.binlog_files.specs.Settled.{settled}
use Rattle.binlog_files.specs.Taking.{of_log, told_to, Tells, TellsOr}
use Rattle.binlog_files.specs.Rows.{change_of, row_events}
use Rattle.binlog_rows.specs.Reading.{row_view}
use Rattle.binlog_rows.specs.declared.reading.LoggedRow.{LoggedRow}
use Rattle.binlog_files.specs.declared.fault.FileFault.{FileFault}
use Rattle.binlog_files.specs.declared.fault.FileFault.TheVariants as faults
use Rattle.binlog_files.specs.declared.fault.FileRefusal.TheVariants as refusals

-- an event that is taken leaves the others to tell
pub taken_first : (old mid : LogState) (e : Event) (es : List Event) → refusal old e ≡ None → mid ≡ behind old e → told_to old (Ok (e ∷ es)) ≡ told_to mid (Ok es)
taken_first old mid e es none is =
    ap (λ (x : Option EventRefusal). of_log (and_then (taken x (behind old e)) (λ t. runs t es))) none
    ∙ ap (λ (x : LogState). of_log (runs x es)) (sym is)

pub refused_first : (old : LogState) (e : Event) (es : List Event) (reason : EventRefusal) → refusal old e ≡ Some reason → told_to old (Ok (e ∷ es)) ≡ Err (refusals.Event reason)
refused_first old e es reason is = ap (λ (x : Option EventRefusal). of_log (and_then (taken x (behind old e)) (λ t. runs t es))) is

-- a call with one event
pub tells_one : (may wide : SetFault → Type 0) (r : Result (Unit {0}) EventFault) (old new : LogState) (e : Event) → ((f : SetFault) → may f → wide f)
    → TakesOr may r old e new → TellsOr wide (settled r) old (Ok (e ∷ [])) new
tells_one may wide (Ok u) old new e w t = taken_first old new e [] t.0 t.1
tells_one may wide (Err (events.Set fault)) old new e w t = w fault t
tells_one may wide (Err (events.Refused reason)) old new e w t = refused_first old e [] reason t.0

-- ---- rows

pub all_mapped : {A B : Type 0} (p : B → Bool) (f : A → B) (xs : List A) → list_all p (map f xs) ≡ list_all (λ x. p (f x)) xs
all_mapped p f [] = refl
all_mapped p f (x ∷ xs) = ap (λ (b : Bool). p (f x) && b) (all_mapped p f xs)

first_told : (o : Option EventRefusal) (b new : LogState) (es : List Event) → of_log (and_then (taken o b) (λ t. Ok t)) ≡ Ok new
    → of_log (and_then (taken o b) (λ t. runs t es)) ≡ of_log (runs new es)
first_told None b new es h =
    let same : b ≡ new = cc in
    ap (λ (x : LogState). of_log (runs x es)) same
first_told (Some reason) b new es h = absurd cc

-- an event that was told leaves the others to tell
pub told_first : (old new : LogState) (e : Event) (es : List Event) → told_to old (Ok (e ∷ [])) ≡ Ok new → told_to old (Ok (e ∷ es)) ≡ told_to new (Ok es)
told_first old new e es h = first_told (refusal old e) (behind old e) new es h

first_refused : (o : Option EventRefusal) (b : LogState) (r : FileRefusal) (es : List Event) → of_log (and_then (taken o b) (λ t. Ok t)) ≡ Err r
    → of_log (and_then (taken o b) (λ t. runs t es)) ≡ Err r
first_refused None b r es h = absurd cc
first_refused (Some reason) b r es h = h

pub told_refused : (old : LogState) (e : Event) (es : List Event) (r : FileRefusal) → told_to old (Ok (e ∷ [])) ≡ Err r → told_to old (Ok (e ∷ es)) ≡ Err r
told_refused old e es r h = first_refused (refusal old e) (behind old e) r es h

-- what is left of rows from a place on begins with the row there
pub left_told : (log : LogState) (kind : ℕ) (table : List ℕ) (rows : List LoggedRow) (i : ℕ) (row : LoggedRow) → i < length rows → row ≡ get_or rows i row
    → told_to log (Ok (row_events kind table (map row_view (drop i rows))))
    ≡ told_to log (Ok (Row (change_of kind table (row_view row)) ∷ row_events kind table (map row_view (drop (i + 1) rows))))
left_told log kind table rows i row below is =
    at_drop_more (λ rs. told_to log (Ok (row_events kind table (map row_view rs)))) rows i row below
    ∙ ap (λ (x : LoggedRow). told_to log (Ok (row_events kind table (map row_view (x ∷ drop (i + 1) rows))))) (sym is)

pub err_told : (fault : FileFault) (old first new : LogState) (e : Event) (es all : List Event) → told_to old (Ok (e ∷ es)) ≡ told_to first (Ok all)
    → Tells (Err fault) old (Ok (e ∷ [])) new → Tells (Err fault) first (Ok all) new
err_told (faults.Set fault) old first new e es all same h = h
err_told (faults.Refused refusal) old first new e es all same h = sym same ∙ told_refused old e es refusal h

-- ---- varied columns

-- what is left of columns from a place on begins with the column there
pub left_varied : (log : LogState) (table : List ℕ) (columns : List VariedPlace) (i : ℕ) (d : VariedPlace) → i < length columns
    → told_to log (Ok (varies table (drop i columns)))
    ≡ told_to log (Ok (Varies table (get_or columns i d).place (get_or columns i d).collation ∷ varies table (drop (i + 1) columns)))
left_varied log table columns i d below = at_drop_more (λ (cs : List VariedPlace). told_to log (Ok (varies table cs))) columns i d below

-- what a call told behind an event that was taken
pub told_behind : (r : Result (Unit {0}) FileFault) (old mid new : LogState) (e : Event) (es : List Event) → refusal old e ≡ None → mid ≡ behind old e
    → Tells r mid (Ok es) new → Tells r old (Ok (e ∷ es)) new
told_behind (Ok u) old mid new e es none is h = taken_first old mid e es none is ∙ h
told_behind (Err (faults.Refused x)) old mid new e es none is h = taken_first old mid e es none is ∙ h
told_behind (Err (faults.Set f)) old mid new e es none is h = h

-- ---- a previous set

pub said_numbers : (text : List ℕ) (gtids : Gtids) → set_said text ≡ Some gtids → HaveNumbers gtids
said_numbers [] gtids e = subst HaveNumbers (same_Some set.empty gtids e) no_numbers
said_numbers (blank ∷ word) gtids e = written_numbers gtids (set_found word gtids e).1
