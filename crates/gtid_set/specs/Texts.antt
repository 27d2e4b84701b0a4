-- The text of a set: which set a text parses as, and why a text is no set's.
use Rattle.std.specs.Prelude.{◌≡◌, ◌⊎◌, ℕ, nat_lt, List, length, Result, Ok, Err, if◌then◌else◌}
use Rattle.gtid_text.specs.declared.Span.{Span}
use Rattle.gtid_text.specs.declared.fault.TextFault.{TextFault}
use Rattle.gtid_text.specs.declared.fault.TextFault.TheVariants as faults
use Rattle.gtid_text.specs.Grammar.{ParsesAs, IsSetText}
use Rattle.gtid_text.specs.Reading.{answer, spans_in}
use Rattle.gtid_text.specs.Refused.{FailsText}
use Rattle.gtid_set.specs.declared.fault.SetFault.TheVariants.{Memory, PoolFull, SourcesFull}
use Rattle.gtid_set.specs.declared.fault.SetTextFault.{SetTextFault}
use Rattle.gtid_set.specs.declared.fault.SetTextFault.TheVariants.{Text, Set}
use Rattle.gtid_set.specs.Sets.{Gtids, source_count, most_sources}
use Rattle.gtid_set.specs.Spans.{set_of}
use Rattle.gtid_set.specs.Full.{IsFullExactly, interval_count, most_intervals}

-- the set is the union of the intervals that the text parses as
abbrev pub ParsesAsSet : List ℕ → Gtids → Type 0
ParsesAsSet text s = (spans : List Span) × ParsesAs text spans × (set_of spans ≡ s)

-- out of memory
abbrev pub IsOutOfMemory : SetTextFault → Type 0
IsOutOfMemory (Text f) = f ≡ faults.Memory
IsOutOfMemory (Set f) = f ≡ Memory

-- no memory for the set of a text, a refusal of the text, or a set with too many sources or intervals
abbrev pub RefusesSet : SetTextFault → List ℕ → Type 0
RefusesSet (Text f) text = FailsText IsSetText f text
RefusesSet (Set f) text = (spans : List Span) × ParsesAs text spans × IsFullExactly {T = Unit {0}} (Err f) (set_of spans)

-- a text that parses as a set is read as that set, if memory, its sources and its intervals allow
abbrev pub IsReadAs : Result Gtids SetTextFault → Gtids → Type 0
IsReadAs (Ok t) s = t ≡ s
IsReadAs (Err (Text f)) s = f ≡ faults.Memory
IsReadAs (Err (Set f)) s = IsFullExactly {T = Unit {0}} (Err f) s

-- a set, where it has not too many sources or intervals, and else why there is none
abbrev pub check_size : Gtids → Result Gtids SetTextFault
check_size s = if nat_lt most_sources (source_count s) then Err (Set SourcesFull) else (if nat_lt most_intervals (interval_count s) then Err (Set PoolFull) else Ok s)

-- the set of intervals, or why there is none
abbrev pub set_from : Result (List Span) TextFault → Result Gtids SetTextFault
set_from (Ok spans) = check_size (set_of spans)
set_from (Err fault) = Err (Text fault)

-- the set that a text parses as, or why there is none
unfoldable pub set_in : List ℕ → Result Gtids SetTextFault
set_in text = set_from (answer (length text) (spans_in text))

-- what a function returned is the answer, unless out of memory
abbrev pub GivesSet : Result Gtids SetTextFault → Result Gtids SetTextFault → Type 0
GivesSet (Ok s) read = read ≡ Ok s
GivesSet (Err f) read = IsOutOfMemory f ⊎ (read ≡ Err f)
