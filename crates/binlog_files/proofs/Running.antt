-- Events of a file are taken, one after another.
use Rattle.std.proofs.Common.{◌≡◌, ℕ, Bool, true, false, List, [], ◌∷◌, ◌++◌, Some, Result, Ok, Err, OnOk, ap, subst, ◌∙◌, inr}
use Rattle.std.proofs.lemmas.List.{append-nil}
use Rattle.binlog_frames.specs.Spelling.{Framed}
use Rattle.binlog_frames.specs.Standing.{Standing, front_at, EndsBadly}
use Rattle.binlog_frames.specs.Placed.{StaysRead, ReadsOn}
use Rattle.binlog_files.specs.Given.{Given}
use Rattle.binlog_files.specs.Taking.{FilesState, and_then, take_event, take_events}
use Rattle.binlog_files.specs.Files.{HasTaken, NextTaken, NextStops, TakenOne, AllTaken, AllStop, TakesOn}
use Rattle.binlog_files.specs.Moved.{files_state}
use Rattle.binlog_files.specs.declared.files.LogFiles.{LogFiles}
use Rattle.binlog_files.specs.declared.fault.FileRefusal.{FileRefusal}
use Rattle.binlog_files.specs.declared.files.FilesFault.{FilesFault}
use Rattle.binlog_files.specs.declared.files.FilesFault.TheVariants as faults

-- ---- one event more

behind_first : (given : Given) (t u : FilesState) (es : List Framed) (e : Framed) (r : Result FilesState FileRefusal)
    → ((m : FilesState) → take_events given m es ≡ Ok t → take_events given m (es ++ e ∷ []) ≡ Ok u)
    → and_then r (λ m. take_events given m es) ≡ Ok t → and_then r (λ m. take_events given m (es ++ e ∷ [])) ≡ Ok u
behind_first given t u es e (Ok m) again h = again m h
behind_first given t u es e (Err x) again h = absurd cc

last_taken : (given : Given) (s t u : FilesState) (es : List Framed) (e : Framed) → take_events given s es ≡ Ok t → take_event given t e ≡ Ok u
    → take_events given s (es ++ e ∷ []) ≡ Ok u
last_taken given s t u [] e h k =
    let same : s ≡ t = cc in
    ap (λ (x : Result FilesState FileRefusal). and_then x (λ m. Ok m)) (ap (λ (x : FilesState). take_event given x e) same ∙ k)
last_taken given s t u (d ∷ ds) e h k = behind_first given t u ds e (take_event given s d) (λ m g. last_taken given m t u ds e g k) h

with_event : (given : Given) (s t : Standing) (old new : FilesState) (e : Framed) → take_event given old e ≡ Ok new → ReadsOn s t e
    → (from : FilesState) (bytes : List ℕ) → HasTaken given from bytes s old → HasTaken given from bytes t new
with_event given s t old new e k reads from bytes h = record {
  events = h.events ++ e ∷ [];
  follows = (reads.reads bytes h.events h.follows).follows;
  taken = last_taken given from old new h.events e h.taken k;
}

pub one_taken : (given : Given) (s t : Standing) (old new : FilesState) (came : Bool) → came ≡ true → NextTaken given s old new came
    → ((e : Framed) → front_at s ≡ Ok (Some e) → ReadsOn s t e) → TakenOne given s t old new
one_taken given s t old new true is next reads =
    let r = reads next.0 next.1 in
    record { taken = with_event given s t old new next.0 next.2 r; fewer = r.fewer }
one_taken given s t old new false is next reads = absurd cc

-- ---- a fault

pub stops_here : (given : Given) (s : Standing) (old : FilesState) (f : FilesFault) → NextStops given s old f → AllStop given s old f
stops_here given s old (faults.Set fault) n = λ from bytes h.
    inr (record { reading = s; state = old; behind = h; event = n.0; front = n.1; may = n.2 })
stops_here given s old (faults.Damaged fault) n = λ from bytes h. record {
  events = h.events;
  ends = subst (λ x. EndsBadly x h.events fault) (append-nil bytes) (n bytes [] h.events h.follows);
  state = old;
  taken = h.taken;
}
stops_here given s old (faults.Refused offset refusal) n = λ from bytes h.
    record { reading = s; state = old; behind = h; event = n.0; front = n.1; place = n.2; refused = n.3 }

-- ---- a piece

pub stays : (given : Given) (s t : Standing) (state : FilesState) (piece : List ℕ) → StaysRead s t piece
    → (from : FilesState) (bytes : List ℕ) → HasTaken given from bytes s state → HasTaken given from (bytes ++ piece) t state
stays given s t state piece reads from bytes h = record { events = h.events; follows = reads bytes h.events h.follows; taken = h.taken }

pub fed : (given : Given) (old new : LogFiles) (frames : Standing) (piece : List ℕ) (r : Result (Unit {0}) FilesFault) → StaysRead old.frames frames piece
    → OnOk r (AllTaken given frames new.frames (files_state old.taken) (files_state new.taken)) → OnOk r (TakesOn given old new piece)
fed given old new frames piece (Ok u) reads all = λ from bytes h. (all.0 from (bytes ++ piece) (stays given old.frames frames (files_state old.taken) piece reads from bytes h.0), all.1)
fed given old new frames piece (Err f) reads all = tt
