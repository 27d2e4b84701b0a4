-- Formats of texts in lines, whatever the content of the lines.
use Rattle.std.specs.Prelude.{◌≡◌, ◌⊎◌, ℕ, ◌+◌, ◌-◌, ◌^◌, ◌<◌, min, Bool, true, false, List, [], ◌∷◌, ◌++◌, length, Result, Ok, Err}
use Rattle.std.specs.List.{flat_map, AllByRecursion}
use Rattle.gtid_set.specs.declared.fault.SetFault.{SetFault}
use Rattle.txn_journal.specs.Words.{IsOneLine}
use Rattle.txn_journal.specs.Stream.{Judge, Progress, Reading, Stopped, feed_bytes, end_of_text, at_end, IsPieceFault, Feeds, NamesSources}
use Rattle.txn_journal.specs.declared.fault.Cause.{Cause}
use Rattle.txn_journal.specs.declared.fault.Cause.TheVariants as causes
use Rattle.txn_journal.specs.declared.fault.JournalFault.{JournalFault}
use Rattle.txn_journal.specs.declared.fault.JournalFault.TheVariants as faults

-- The content of a line (Line), what whole lines have made (State), and what a text parses as (Value).
pub record Format : Type 1 where
  pub Line : Type 0
  pub State : Type 0
  pub Value : Type 0
  -- before the first line
  pub start : State
  -- what a line makes of what the lines before it have made
  pub judge : Judge State
  -- the last line has come
  pub is_last : State → Bool
  -- the value of the lines, once the last has come
  pub value : State → Value
  -- a set that they have made has too many sources, or too many intervals: by this fault
  pub IsFull : SetFault → State → Type 0
  -- the text of a line, without its line feed
  pub line_text : Line → List ℕ
  -- the bytes are a text of this value
  pub Writes : List ℕ → Value → Type 0
  -- the same, but that its last entry has not been tested as a whole, or has not come after its place
  pub AlmostWrites : List ℕ → Value → Type 0
  -- an entry is open, or its place has come
  pub is_open : State → Bool
  -- the line begins an entry, or is within one
  pub is_inside : List ℕ → Bool
  -- the lines that have made this, in order
  pub HasLines : State → List Line → Type 0
  -- what is wrong with a line after those that have made this
  pub HasCause : State → List ℕ → Cause → Type 0

-- ---- lines

abbrev pub ended_line_of : (f : Format) → f.Line → List ℕ
ended_line_of f l = f.line_text l ++ 10 ∷ []

-- the text of lines, each ended by a line feed
abbrev pub text_of : (f : Format) → List f.Line → List ℕ
text_of f ls = flat_map (ended_line_of f) ls

-- no line feed is within one
abbrev pub AreWhole : (f : Format) → List f.Line → Type 0
AreWhole f ls = AllByRecursion (λ l. IsOneLine (f.line_text l)) ls

-- ---- a text that comes in pieces

-- before the first byte
abbrev pub start_of : (f : Format) → Progress f.State
start_of f = Reading f.start 0 []

-- byte by byte
abbrev pub feed_bytes_by : (f : Format) → Progress f.State → List ℕ → Progress f.State
feed_bytes_by f p bytes = feed_bytes f.judge p bytes

-- why bytes are not taken, though nothing is wrong with them: out of memory, or a set has too many sources or intervals after some of them
abbrev pub IsFaultBy : (f : Format) → Progress f.State → List ℕ → SetFault → Type 0
IsFaultBy f p bytes fault = IsPieceFault f.IsFull f.judge p bytes fault

-- what has come after a piece
abbrev pub FeedsBy : (f : Format) → Progress f.State → List ℕ → Progress f.State → Type 0
FeedsBy f old piece new = Feeds f.IsFull f.judge old piece new

-- the first line of a piece, of which no byte came before, is refused for its sources where they are counted first
abbrev pub NamesSourcesBy : (f : Format) → (f.State → Type 0) → Progress f.State → List ℕ → Result (Unit {0}) JournalFault → Type 0
NamesSourcesBy f Counts old piece result = NamesSources Counts f.IsFull f.judge old piece result

-- the end of the text
unfoldable pub closing_by : (f : Format) → Progress f.State → Result f.Value JournalFault
closing_by f (Reading s n rest) = at_end (end_of_text (f.is_last s) rest n) (f.value s)
closing_by f (Stopped fault) = Err fault

-- what all of the bytes are read as
abbrev pub whole_by : (f : Format) → List ℕ → Result f.Value JournalFault
whole_by f bytes = closing_by f (feed_bytes_by f (start_of f) bytes)

-- ---- texts that are refused

-- if an entry is open or its place has come, it may still become what it has to be as a whole
abbrev pub MayWrite : (f : Format) → Bool → List ℕ → f.Value → Type 0
MayWrite f true bytes v = f.AlmostWrites bytes v
MayWrite f false bytes v = f.Writes bytes v

-- some value's text begins so
abbrev pub BeginsBy : (f : Format) → Bool → List ℕ → Type 0
BeginsBy f inside front = (v : f.Value) × (more : List ℕ) × MayWrite f inside (front ++ more) v

-- line numbers count up to the largest that is stored
abbrev pub cap_line_number : ℕ → ℕ
cap_line_number n = min n (2 ^ 64 - 1)

-- The text has whole lines with which a value's may begin, and then one more with which none does. Its number counts from 1. A line that
-- begins an entry or is within it is no such line because of what only its whole entry shows: that is the fault of the line which ends the
-- entry.
pub record IsFirstFaulty (f : Format) (bytes : List ℕ) (n : ℕ) (cause : Cause) : Type 0 where
  pub before : List f.Line
  pub line : List ℕ
  pub rest : List ℕ
  pub parts : bytes ≡ text_of f before ++ (line ++ 10 ∷ rest)
  pub lines : AreWhole f before
  pub whole : IsOneLine line
  pub state : f.State
  pub has_lines : f.HasLines state before
  pub number : n ≡ cap_line_number (length before + 1)
  pub begins : BeginsBy f (f.is_open state) (text_of f before)
  pub faulty : BeginsBy f (f.is_inside line) (text_of f before ++ (line ++ 10 ∷ [])) → ⊥
  pub has_cause : f.HasCause state line cause

-- The text has whole lines with which a value's may begin, and then less than a line.
pub record IsFront (f : Format) (bytes : List ℕ) (n : ℕ) : Type 0 where
  pub before : List f.Line
  pub rest : List ℕ
  pub parts : bytes ≡ text_of f before ++ rest
  pub lines : AreWhole f before
  pub part : IsOneLine rest
  pub state : f.State
  pub has_lines : f.HasLines state before
  pub number : n ≡ cap_line_number (length before + 1)
  pub begins : BeginsBy f (f.is_open state) (text_of f before)

-- The text is that of a value in whole lines, and then bytes that are no whole line.
pub record IsTrailing (f : Format) (bytes : List ℕ) (n : ℕ) : Type 0 where
  pub value : f.Value
  pub before : List f.Line
  pub rest : List ℕ
  pub parts : bytes ≡ text_of f before ++ rest
  pub lines : AreWhole f before
  pub written : f.Writes (text_of f before) value
  pub part : IsOneLine rest
  pub some : 0 < length rest
  pub number : n ≡ cap_line_number (length before + 1)

-- what each fault means for the text
abbrev pub RefusesBy : (f : Format) → JournalFault → List ℕ → Type 0
RefusesBy f (faults.Set fault) bytes = IsFaultBy f (start_of f) bytes fault
RefusesBy f (faults.Line n cause) bytes = IsFirstFaulty f bytes n cause ⊎ (IsTrailing f bytes n × (cause ≡ causes.Keyword))
RefusesBy f (faults.Truncated n) bytes = IsFront f bytes n × ((v : f.Value) → f.Writes bytes v → ⊥)

-- what the bytes parse as, or why they are refused
abbrev pub ParsesBy : (f : Format) → List ℕ → Result f.Value JournalFault → Type 0
ParsesBy f bytes (Ok v) = f.Writes bytes v
ParsesBy f bytes (Err fault) = RefusesBy f fault bytes
