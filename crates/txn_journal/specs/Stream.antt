-- A text that comes byte by byte. S is what its whole lines have made.
use Rattle.std.specs.Prelude.{◌≡◌, ◌⊎◌, ℕ, ◌+◌, ◌-◌, ◌^◌, min, Bool, true, false, ◌==◌, List, [], ◌∷◌, ◌++◌, Option, Some, None, Result, Ok, Err, if◌then◌else◌}
use Rattle.std.specs.declared.alloc.AllocError.{AllocError}
use Rattle.gtid_set.specs.declared.fault.SetFault.{SetFault}
use Rattle.gtid_set.specs.declared.fault.SetFault.TheVariants.{Memory, PoolFull, SourcesFull}
use Rattle.gtid_set.specs.Full.{IsMemoryOr}
use Rattle.txn_journal.specs.Words.{BeginsWithLine}
use Rattle.txn_journal.specs.declared.fault.Cause.{Cause}
use Rattle.txn_journal.specs.declared.fault.Cause.TheVariants as causes
use Rattle.txn_journal.specs.declared.fault.LineFault.{LineFault}
use Rattle.txn_journal.specs.declared.fault.LineFault.TheVariants as wrong
use Rattle.txn_journal.specs.declared.fault.JournalFault.{JournalFault}
use Rattle.txn_journal.specs.declared.fault.JournalFault.TheVariants as faults

-- what a line makes of what the lines before it have made, or the first thing that is wrong with it
abbrev pub Judge : Type 0 → Type 0
Judge S = S → List ℕ → Result S Cause

-- what a line makes is full
abbrev pub GivesFull : {S : Type 0} → (S → Type 0) → Result S Cause → Type 0
GivesFull full (Ok s) = full s
GivesFull full (Err cause) = ⊥

-- What a call did with a line is what judging it gives, unless out of memory or what it makes is full; `full` has which of the two faults.
abbrev pub TakesLine : {S : Type 0} → (SetFault → S → Type 0) → Result (Unit {0}) LineFault → Result S Cause → S → Type 0
TakesLine full (Ok _) judged new = judged ≡ Ok new
TakesLine full (Err (wrong.Wrong cause)) judged new = judged ≡ Err cause
TakesLine full (Err (wrong.Set fault)) judged new = IsMemoryOr (GivesFull (full SourcesFull) judged) (GivesFull (full PoolFull) judged) fault

-- A line that makes what is full of sources is refused for them.
abbrev pub IsRefusedWhereFull : {S : Type 0} → (SetFault → S → Type 0) → Result (Unit {0}) LineFault → Result S Cause → Type 0
IsRefusedWhereFull full result judged = GivesFull (full SourcesFull) judged → result ≡ Err (wrong.Set SourcesFull)

-- A call that takes a plain line has made what judging it gives, or answered false and changed nothing, unless out of memory.
abbrev pub TakesPlain : {S : Type 0} → Result Bool AllocError → Result S Cause → S → S → Type 0
TakesPlain (Ok true) judged old new = judged ≡ Ok new
TakesPlain (Ok false) judged old new = new ≡ old
TakesPlain (Err _) judged old new = Unit {0}

-- A line that makes what is full of sources is left.
abbrev pub IsLeftWhereFull : {S : Type 0} → (SetFault → S → Type 0) → Result Bool AllocError → Result S Cause → Type 0
IsLeftWhereFull full result judged = GivesFull (full SourcesFull) judged → result ≡ Ok false

-- What a call did with a part of a line is what judging it gives, unless memory ran out.
abbrev pub TakesPart : {S : Type 0} → Result (Unit {0}) LineFault → Result S Cause → S → Type 0
TakesPart (Ok _) judged new = judged ≡ Ok new
TakesPart (Err (wrong.Wrong cause)) judged new = judged ≡ Err cause
TakesPart (Err (wrong.Set fault)) judged new = fault ≡ Memory

-- The view of what a call found in a part of a line is what reading it gives, unless out of memory.
abbrev pub Finds : {X Y : Type 0} → (X → Y) → Result X LineFault → Result Y Cause → Type 0
Finds view (Ok x) read = read ≡ Ok (view x)
Finds view (Err (wrong.Wrong cause)) read = read ≡ Err cause
Finds view (Err (wrong.Set fault)) read = fault ≡ Memory

-- How far the reading has come: how many whole lines, and the bytes of the next; or it has stopped.
pub data Progress (S : Type 0) : Type 0 where
  Reading : S → ℕ → List ℕ → Progress S
  Stopped : JournalFault → Progress S

-- so many whole lines have come, unless the reading has stopped
abbrev pub CountsLines : {S : Type 0} → Progress S → ℕ → Type 0
CountsLines (Reading s n rest) count = count ≡ n
CountsLines (Stopped fault) count = Unit {0}

abbrev pub unless_stopped : {S : Type 0} → Option JournalFault → Progress S → Progress S
unless_stopped None p = p
unless_stopped (Some fault) p = Stopped fault

-- lines count up to the largest number
abbrev pub next_number : ℕ → ℕ
next_number n = min (n + 1) (2 ^ 64 - 1)

abbrev pub progress_after : {S : Type 0} → Result S Cause → ℕ → Progress S
progress_after (Ok s) n = Reading s n []
progress_after (Err cause) n = Stopped (faults.Line n cause)

-- a line feed ends a line
unfoldable pub feed_byte : {S : Type 0} → Judge S → Progress S → ℕ → Progress S
feed_byte judge (Reading s n rest) b = if b == 10 then progress_after (judge s rest) (next_number n) else Reading s n (rest ++ b ∷ [])
feed_byte judge (Stopped fault) b = Stopped fault

abbrev pub feed_bytes : {S : Type 0} → Judge S → Progress S → List ℕ → Progress S
feed_bytes judge p [] = p
feed_bytes judge p (b ∷ bs) = feed_bytes judge (feed_byte judge p b) bs

-- what the whole lines have made is full
abbrev pub HasFull : {S : Type 0} → (S → Type 0) → Progress S → Type 0
HasFull full (Reading s n rest) = full s
HasFull full (Stopped fault) = ⊥

-- what has come is full after some of the bytes
pub record Fills {S : Type 0} (full : S → Type 0) (judge : Judge S) (p : Progress S) (bytes : List ℕ) : Type 0 where
  pub front : List ℕ
  pub rest : List ℕ
  pub parts : bytes ≡ front ++ rest
  pub is_full : HasFull full (feed_bytes judge p front)

-- why bytes are not taken, though nothing is wrong with them: out of memory, or what some of them make is full
abbrev pub IsPieceFault : {S : Type 0} → (SetFault → S → Type 0) → Judge S → Progress S → List ℕ → SetFault → Type 0
IsPieceFault full judge p bytes fault = IsMemoryOr (Fills (full SourcesFull) judge p bytes) (Fills (full PoolFull) judge p bytes) fault

-- it is this, or it has stopped at a fault that may be
abbrev pub IsAfter : {S : Type 0} → (SetFault → Type 0) → Progress S → Progress S → Type 0
IsAfter may new after = ((fault : SetFault) × (new ≡ Stopped (faults.Set fault)) × may fault) ⊎ (new ≡ after)

-- what has come after a piece is what eating it gives, or the reading has stopped at a fault that may be
abbrev pub Feeds : {S : Type 0} → (SetFault → S → Type 0) → Judge S → Progress S → List ℕ → Progress S → Type 0
Feeds full judge old piece new = IsAfter (IsPieceFault full judge old piece) new (feed_bytes judge old piece)

-- a reading that has stopped stays stopped, at the same fault
abbrev pub StaysStopped : {S : Type 0} → Progress S → Progress S → Type 0
StaysStopped old new = (fault : JournalFault) → old ≡ Stopped fault → new ≡ Stopped fault

abbrev pub answer : {S : Type 0} → Progress S → Result (Unit {0}) JournalFault
answer (Reading s n rest) = Ok tt
answer (Stopped fault) = Err fault

-- the end of the text, whose last line has come or has not
abbrev pub end_of_text : Bool → List ℕ → ℕ → Result (Unit {0}) JournalFault
end_of_text false rest n = Err (faults.Truncated (next_number n))
end_of_text true [] n = Ok tt
end_of_text true (b ∷ bs) n = Err (faults.Line (next_number n) causes.Keyword)

-- What a call did with bytes is what eating them gives, unless there was a fault that may be.
abbrev pub TakesPiece : {S : Type 0} → (SetFault → Type 0) → Result (Unit {0}) JournalFault → Progress S → Progress S → Type 0
TakesPiece may (Ok _) new after = after ≡ new
TakesPiece may (Err (faults.Set fault)) new after = may fault
TakesPiece may (Err (faults.Line n cause)) new after = after ≡ Stopped (faults.Line n cause)
TakesPiece may (Err (faults.Truncated n)) new after = ⊥

-- The first line of a piece, of which no byte came before, is refused for its sources if it makes what is full of them.
abbrev pub NamesSources : {S : Type 0} → (S → Type 0) → (SetFault → S → Type 0) → Judge S → Progress S → List ℕ → Result (Unit {0}) JournalFault → Type 0
NamesSources {S} Counts full judge old piece result =
    (s : S) → (n : ℕ) → (line after : List ℕ) → old ≡ Reading s n [] → Counts s → BeginsWithLine piece line after → GivesFull (full SourcesFull) (judge s line) → result ≡ Err (faults.Set SourcesFull)

abbrev pub end_of : {S : Type 0} → Bool → Progress S → Result (Unit {0}) JournalFault
end_of is_last (Reading s n rest) = end_of_text is_last rest n
end_of is_last (Stopped fault) = Err fault

-- ---- the whole of a text

-- what has come, if the text may end there
abbrev pub at_end : {V : Type 0} → Result (Unit {0}) JournalFault → V → Result V JournalFault
at_end (Ok _) value = Ok value
at_end (Err fault) value = Err fault

-- it is this, unless memory ran out or a set was full
abbrev pub IsWhole : {V : Type 0} → Result V JournalFault → Result V JournalFault → Type 0
IsWhole result whole = ((fault : SetFault) × (result ≡ Err (faults.Set fault))) ⊎ (result ≡ whole)

-- it is this, or a fault that may be
abbrev pub IsWholeOr : {V : Type 0} → (SetFault → Type 0) → Result V JournalFault → Result V JournalFault → Type 0
IsWholeOr may result whole = ((fault : SetFault) × (result ≡ Err (faults.Set fault)) × may fault) ⊎ (result ≡ whole)

-- it is this value, unless memory ran out or a set was full
abbrev pub IsRead : {V : Type 0} → Result V JournalFault → V → Type 0
IsRead (Ok found) value = found ≡ value
IsRead (Err (faults.Set fault)) value = Unit {0}
IsRead (Err _) value = ⊥
