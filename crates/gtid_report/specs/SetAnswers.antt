-- What the functions of sets answer: the canonical text or the number of an operation on sets of pairs, or the refusal.
-- (MySQL 8.0 Reference Manual, "Functions Used with Global Transaction Identifiers (GTIDs)", for the operations; the lines are our own.)
use Rattle.std.specs.Prelude.{◌≡◌, ◌⊎◌, ℕ, Bool, ◌&&◌, ◌==◌, nat_lt, List, length, codes, decimal, Option, Some, None, Result, Ok, Err, if◌then◌else◌}
use Rattle.std.specs.FinSet as set
use Rattle.gtid_text.specs.Reading.{answer, source_in}
use Rattle.gtid_text.specs.declared.SourceId.{SourceId}
use Rattle.gtid_text.specs.declared.fault.TextFault.{TextFault}
use Rattle.gtid_set.specs.declared.fault.SetTextFault.{SetTextFault}
use Rattle.gtid_set.specs.declared.fault.SetTextFault.TheVariants.{Text, Set}
use Rattle.gtid_set.specs.Sets.{Gtids, only, without, source_count, most_sources}
use Rattle.gtid_set.specs.Runs.{canonical}
use Rattle.gtid_set.specs.Full.{interval_count, most_intervals}
use Rattle.gtid_set.specs.Texts.{set_in}
use Rattle.gtid_report.specs.Faults.{text_fault, set_fault}
use Rattle.gtid_report.specs.SetFunctions.{function_named}
use Rattle.gtid_report.specs.declared.fault.Fault.{Fault}
use Rattle.gtid_report.specs.declared.fault.Fault.TheVariants.{Memory, Refused}
use Rattle.gtid_report.specs.declared.refusal.Refusal.TheVariants.{PoolFull, SourcesFull, Usage}
use Rattle.gtid_report.specs.declared.functions.OneSet.{OneSet}
use Rattle.gtid_report.specs.declared.functions.OneSet.TheVariants.{Normalize, Count}
use Rattle.gtid_report.specs.declared.functions.TwoSets.{TwoSets}
use Rattle.gtid_report.specs.declared.functions.TwoSets.TheVariants.{Union, Intersect, Subtract, Symmetric, Subset, Equal, Disjoint}
use Rattle.gtid_report.specs.declared.functions.OfSource.{OfSource}
use Rattle.gtid_report.specs.declared.functions.OfSource.TheVariants.{Only, Without}
use Rattle.gtid_report.specs.declared.functions.Function.{Function}
use Rattle.gtid_report.specs.declared.functions.Function.TheVariants.{One, Two, Source}

infixl 10 ◌>>=◌
abbrev pub ◌>>=◌ : {A B : Type 0} → Result A Fault → (A → Result B Fault) → Result B Fault
(Ok x) >>= f = f x
(Err e) >>= f = Err e

-- ---- what the words name

-- the set that a text parses as, or the refusal
abbrev pub named_set : Result Gtids SetTextFault → Result Gtids Fault
named_set (Ok s) = Ok s
named_set (Err (Text f)) = Err (text_fault f)
named_set (Err (Set f)) = Err (set_fault f)

-- the source that a text names, or the refusal
abbrev pub named_source : Result SourceId TextFault → Result SourceId Fault
named_source (Ok id) = Ok id
named_source (Err f) = Err (text_fault f)

unfoldable pub set_word : List ℕ → Result Gtids Fault
set_word text = named_set (set_in text)

unfoldable pub source_word : List ℕ → Result SourceId Fault
source_word text = named_source (answer (length text) (source_in text))

-- ---- answers

-- a set, if it has not too many intervals
abbrev pub small : Gtids → Result Gtids Fault
small s = if nat_lt most_intervals (interval_count s) then Err (Refused PoolFull) else Ok s

-- its canonical text
abbrev pub small_line : Gtids → Result (List ℕ) Fault
small_line s = small s >>= λ kept. Ok (canonical kept)

-- the same if it has not too many sources either
abbrev pub set_line : Gtids → Result (List ℕ) Fault
set_line s = if nat_lt most_sources (source_count s) then Err (Refused SourcesFull) else small_line s

-- what only one of two sets has: the differences are made first
abbrev pub symmetric_line : Gtids → Gtids → Result (List ℕ) Fault
symmetric_line s t = small (set.difference s t) >>= λ first. small (set.difference t s) >>= λ second. set_line (set.union first second)

-- yes or no
abbrev pub test_line : Bool → List ℕ
test_line b = if b then codes "1" else codes "0"

abbrev pub of_one : OneSet → Gtids → Result (List ℕ) Fault
of_one Normalize s = Ok (canonical s)
of_one Count s = Ok (decimal (set.len s))

abbrev pub of_two : TwoSets → Gtids → Gtids → Result (List ℕ) Fault
of_two Union s t = set_line (set.union s t)
of_two Intersect s t = small_line (set.intersection s t)
of_two Subtract s t = small_line (set.difference s t)
of_two Symmetric s t = symmetric_line s t
of_two Subset s t = Ok (test_line (set.is_subset s t))
of_two Equal s t = Ok (test_line (set.is_subset s t && set.is_subset t s))
of_two Disjoint s t = Ok (test_line (set.len (set.intersection s t) == 0))

abbrev pub of_source : OfSource → Gtids → SourceId → Result (List ℕ) Fault
of_source Only s id = Ok (canonical (only s id))
of_source Without s id = Ok (canonical (without s id))

-- ---- the words are read in their order, once it is known that they are as many as the function takes

abbrev pub usage : Result (List ℕ) Fault
usage = Err (Refused Usage)

abbrev pub one_line : OneSet → List ℕ → Option (List ℕ) → Result (List ℕ) Fault
one_line f a None = set_word a >>= of_one f
one_line f a (Some b) = usage

abbrev pub two_line : TwoSets → List ℕ → Option (List ℕ) → Result (List ℕ) Fault
two_line f a None = usage
two_line f a (Some b) = set_word a >>= λ s. set_word b >>= of_two f s

abbrev pub source_line : OfSource → List ℕ → Option (List ℕ) → Result (List ℕ) Fault
source_line f a None = usage
source_line f a (Some b) = set_word a >>= λ s. source_word b >>= of_source f s

abbrev pub line_of : Option Function → List ℕ → Option (List ℕ) → Result (List ℕ) Fault
line_of None a b = usage
line_of (Some (One f)) a b = one_line f a b
line_of (Some (Two f)) a b = two_line f a b
line_of (Some (Source f)) a b = source_line f a b

-- the line of a function of this name, of one word or two
unfoldable pub function_line : List ℕ → List ℕ → Option (List ℕ) → Result (List ℕ) Fault
function_line name a b = line_of (function_named name) a b

-- The view of what a function returned is the answer, unless out of memory.
abbrev pub Answers : {X Y : Type 0} → (X → Y) → Result X Fault → Result Y Fault → Type 0
Answers view (Ok x) want = want ≡ Ok (view x)
Answers view (Err e) want = (e ≡ Memory) ⊎ (want ≡ Err e)
