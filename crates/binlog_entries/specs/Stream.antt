-- The text of a log that comes byte by byte.
use Rattle.std.specs.Prelude.{◌≡◌, ◌⊎◌, ℕ, ◌+◌, ◌-◌, ◌^◌, ◌<◌, min, Bool, true, false, ◌==◌, List, [], ◌∷◌, ◌++◌, length, Option, Some, None, Result, Ok, Err, if◌then◌else◌}
use Rattle.std.specs.List.{flat_map, AllByRecursion}
use Rattle.std.specs.FinSet as set
use Rattle.gtid_set.specs.declared.fault.SetFault.{SetFault}
use Rattle.gtid_set.specs.declared.fault.SetFault.TheVariants.{Memory}
use Rattle.gtid_set.specs.Sets.{Gtids}
use Rattle.journal.specs.declared.Entry.{Entry}
use Rattle.txn_journal.specs.Words.{IsOneLine}
use Rattle.binlog_text.specs.Lines.{Content, IsLine}
use Rattle.binlog_entries.specs.Machine.{Standing, ◌>>=◌, judge, runs, is_closed, IsLineFault}
use Rattle.binlog_entries.specs.Machine as machine
use Rattle.binlog_entries.specs.Meaning.{meaning, nowhere, meaning_of_entries, executed_before, varied_in, HaveRows, NoGap}
use Rattle.log_transactions.specs.declared.varied.Varied.{Varied}
use Rattle.binlog_entries.specs.declared.fault.ReadFault.{ReadFault}
use Rattle.binlog_entries.specs.declared.fault.ReadFault.TheVariants as faults
use Rattle.binlog_entries.specs.declared.fault.EntryRefusal.{EntryRefusal}
use Rattle.binlog_entries.specs.declared.fault.EntryRefusal.TheVariants as refusals
use Rattle.log_transactions.specs.declared.stages.FileOrder.TheVariants as files
use Rattle.log_transactions.specs.Meaning.{AreOfLog}
use Rattle.binlog_entries.specs.Telling.{events_in}

-- How far the reading has come: how many whole lines, and the bytes of the next; or it has stopped.
pub data Progress : Type 0 where
  Reading : Standing → ℕ → List ℕ → Progress
  Stopped : ReadFault → Progress

abbrev pub unless_stopped : Option ReadFault → Progress → Progress
unless_stopped None p = p
unless_stopped (Some fault) p = Stopped fault

-- lines count up to the largest number
abbrev pub next_number : ℕ → ℕ
next_number n = min (n + 1) (2 ^ 64 - 1)

-- the line that a refusal names: that of a rows event without rows the line before the one that shows it, where the event's lines end
abbrev pub named_line : EntryRefusal → ℕ → ℕ
named_line refusals.Rows n = n - 1
named_line _ n = n

abbrev pub progress_after : Result Standing EntryRefusal → ℕ → Progress
progress_after (Ok s) n = Reading s n []
progress_after (Err refusal) n = Stopped (faults.Line (named_line refusal n) refusal)

-- a line feed ends a line
unfoldable pub feed_byte : Progress → ℕ → Progress
feed_byte (Reading s n rest) b = if b == 10 then progress_after (judge s rest) (next_number n) else Reading s n (rest ++ b ∷ [])
feed_byte (Stopped fault) b = Stopped fault

abbrev pub feed_bytes : Progress → List ℕ → Progress
feed_bytes p [] = p
feed_bytes p (b ∷ bs) = feed_bytes (feed_byte p b) bs

-- before the first byte, if these GTIDs are in the opening set
abbrev pub start : Gtids → Progress
start opening = Reading (machine.start opening) 0 []

abbrev pub answer : Progress → Result (Unit {0}) ReadFault
answer (Reading s n rest) = Ok tt
answer (Stopped fault) = Err fault

-- less than a line is kept
abbrev pub HasPart : Progress → Type 0
HasPart (Reading s n rest) = 0 < length rest
HasPart (Stopped fault) = ⊥

-- After some of the bytes comes the end of a line, which has this fault though nothing is wrong with it.
pub record HasLineFault (p : Progress) (bytes : List ℕ) (fault : SetFault) : Type 0 where
  pub front : List ℕ
  pub line : List ℕ
  pub rest : List ℕ
  pub parts : bytes ≡ front ++ (line ++ 10 ∷ rest)
  pub whole : IsOneLine line
  pub state : Standing
  pub number : ℕ
  pub part : List ℕ
  pub read : feed_bytes p front ≡ Reading state number part
  pub may : IsLineFault state (part ++ line) fault

-- Why bytes that end a line are not taken, though nothing is wrong with them: one of their lines has a fault, or there is no memory to join
-- a line that has come in parts.
abbrev pub IsEndFault : Progress → List ℕ → SetFault → Type 0
IsEndFault p bytes fault = HasLineFault p bytes fault ⊎ ((fault ≡ Memory) × HasPart p)

-- the same of any bytes: memory may also be refused to keep the line that has not come whole behind them
abbrev pub IsPieceFault : Progress → List ℕ → SetFault → Type 0
IsPieceFault p bytes fault = IsEndFault p bytes fault ⊎ ((fault ≡ Memory) × HasPart (feed_bytes p bytes))

-- the same of a line, by its two parts
abbrev pub IsJoinedFault : Standing → List ℕ → List ℕ → SetFault → Type 0
IsJoinedFault s part line fault = IsLineFault s (part ++ line) fault ⊎ ((fault ≡ Memory) × (0 < length part))

-- it is this, or it has stopped at a fault that may be
abbrev pub IsAfter : (SetFault → Type 0) → Progress → Progress → Type 0
IsAfter may new after = ((fault : SetFault) × (new ≡ Stopped (faults.Set fault)) × may fault) ⊎ (new ≡ after)

-- What a call did with bytes is what eating them gives, or there was a fault that may be.
abbrev pub TakesPiece : (SetFault → Type 0) → Result (Unit {0}) ReadFault → Progress → Progress → Type 0
TakesPiece may (Ok _) new after = after ≡ new
TakesPiece may (Err (faults.Set fault)) new after = may fault
TakesPiece may (Err (faults.Line n refusal)) new after = after ≡ Stopped (faults.Line n refusal)
TakesPiece may (Err (faults.Unfinished n)) new after = ⊥

-- the view of what was read
abbrev pub Seen : {X Y : Type 0} → (X → Y) → Result X ReadFault → Result Y ReadFault
Seen view (Ok x) = Ok (view x)
Seen view (Err fault) = Err fault

-- what was executed before, the entries, and the columns that the server compares otherwise than their bytes
abbrev pub LogValue : Type 0
LogValue = Gtids × List Entry × List Varied

-- whether a text may end after this many lines and part of one more
abbrev pub ends_at : Bool → ℕ → List ℕ → Result (Unit {0}) ReadFault
ends_at false n rest = Err (faults.Unfinished (next_number n))
ends_at true n [] = Ok tt
ends_at true n (b ∷ bs) = Err (faults.Unfinished (next_number n))

abbrev pub end_of : Progress → Result (Unit {0}) ReadFault
end_of (Reading s n rest) = ends_at (is_closed s.body) n rest
end_of (Stopped fault) = Err fault

abbrev pub at_end : {V : Type 0} → Result (Unit {0}) ReadFault → V → Result V ReadFault
at_end (Ok _) value = Ok value
at_end (Err fault) value = Err fault

abbrev pub end_of_text : Bool → Standing → ℕ → List ℕ → Result LogValue ReadFault
end_of_text b s n rest = at_end (ends_at b n rest) (s.log.previous, s.log.entries, s.log.varied)

-- the end of the text
abbrev pub closing : Progress → Result LogValue ReadFault
closing (Reading s n rest) = end_of_text (is_closed s.body) s n rest
closing (Stopped fault) = Err fault

-- it is this, or a fault that may be
abbrev pub Ends : (SetFault → Type 0) → Result LogValue ReadFault → Result LogValue ReadFault → Type 0
Ends may result whole = ((fault : SetFault) × (result ≡ Err (faults.Set fault)) × may fault) ⊎ (result ≡ whole)

-- ---- the whole of a text

abbrev pub ended_line : List ℕ → List ℕ
ended_line line = line ++ 10 ∷ []

-- each line has this content
abbrev pub HaveContents : List (List ℕ) → List Content → Type 0
HaveContents [] [] = Unit {0}
HaveContents (line ∷ lines) (l ∷ ls) = IsLine l line × HaveContents lines ls
HaveContents _ _ = ⊥

-- The text is lines with content, which are taken, each where it stands, up to the end of the last file. What they tell is the events of a
-- log with these entries; and what they mean is what the entries denote, in order. This was executed before, and these are the columns that
-- the server compares otherwise than their bytes. No statement lacks its rows, and between two files nothing lacks that is not in the
-- opening set.
pub record IsLog (opening : Gtids) (text : List ℕ) (previous : Gtids) (entries : List Entry) (varied : List Varied) : Type 0 where
  pub lines : List (List ℕ)
  pub parts : text ≡ flat_map ended_line lines
  pub whole : AllByRecursion IsOneLine lines
  pub contents : List Content
  pub content : HaveContents lines contents
  pub state : Standing
  pub run : runs (machine.start opening) contents ≡ Ok state
  pub ended : is_closed state.body ≡ true
  pub told : AreOfLog opening (events_in nowhere contents) previous entries varied
  pub means : meaning nowhere contents ≡ meaning_of_entries entries
  pub before : previous ≡ executed_before set.empty contents
  pub varies : varied ≡ varied_in nowhere [] contents
  pub rows : HaveRows false contents
  pub gapless : NoGap files.Unread opening contents

-- what lines make, one after another
abbrev pub judges : Standing → List (List ℕ) → Result Standing EntryRefusal
judges s [] = Ok s
judges s (line ∷ lines) = judge s line >>= λ t. judges t lines

-- how many lines these are, counted up to the largest number
abbrev pub numbered : ℕ → List (List ℕ) → ℕ
numbered n [] = n
numbered n (line ∷ lines) = numbered (next_number n) lines

-- Lines that are taken, and then one that is refused.
pub record IsRefused (opening : Gtids) (text : List ℕ) (n : ℕ) (refusal : EntryRefusal) : Type 0 where
  pub before : List (List ℕ)
  pub line : List ℕ
  pub rest : List ℕ
  pub parts : text ≡ flat_map ended_line before ++ (line ++ 10 ∷ rest)
  pub whole : AllByRecursion IsOneLine before × IsOneLine line
  pub state : Standing
  pub taken : judges (machine.start opening) before ≡ Ok state
  pub refused : judge state line ≡ Err refusal
  pub number : n ≡ named_line refusal (next_number (numbered 0 before))

-- Lines that are taken, and then less than a line; or the last file has not ended.
pub record IsUnfinished (opening : Gtids) (text : List ℕ) (n : ℕ) : Type 0 where
  pub before : List (List ℕ)
  pub rest : List ℕ
  pub parts : text ≡ flat_map ended_line before ++ rest
  pub whole : AllByRecursion IsOneLine before × IsOneLine rest
  pub state : Standing
  pub taken : judges (machine.start opening) before ≡ Ok state
  pub owed : (is_closed state.body ≡ true) × (rest ≡ []) → ⊥
  pub number : n ≡ next_number (numbered 0 before)

-- why a whole text is not taken, though nothing is wrong with it: memory may also be refused for a copy of the opening set
abbrev pub IsTextFault : Gtids → List ℕ → SetFault → Type 0
IsTextFault opening text fault = IsPieceFault (start opening) text fault ⊎ (fault ≡ Memory)

abbrev pub Refuses : Gtids → ReadFault → List ℕ → Type 0
Refuses opening (faults.Set fault) text = IsTextFault opening text fault
Refuses opening (faults.Line n refusal) text = IsRefused opening text n refusal
Refuses opening (faults.Unfinished n) text = IsUnfinished opening text n
