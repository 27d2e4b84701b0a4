-- What a verdict rests on that the bundle doesn't show.
use Rattle.std.specs.Prelude.{◌≡◌, ℕ, ◌-◌, ◌≤◌, ◌<◌, ◌==◌, Bool, true, false, not, ◌&&◌, ◌||◌, nat_lt, nat_le, List, [], ◌∷◌, ◌++◌, length, Option, Some, None, Result, Ok, Err, codes, if◌then◌else◌, slice_get}
use Rattle.std.specs.List.{list_any, position_or_len}
use Rattle.std.specs.FinSet as set
use Rattle.std.specs.Str.{bytes_eq}
use Rattle.std.specs.Ordering.{nat_cmp, is_lt, eq_by_cmp}
use Rattle.std.specs.Cmp.Lexicographic.{slice_cmp}
use Rattle.rows.specs.declared.limits.Limits.{Limits}
use Rattle.gtid_text.specs.declared.Span.{Span}
use Rattle.gtid_set.specs.Sets.{Gtids, interval}
use Rattle.gtid_set.specs.Spans.{set_of}
use Rattle.journal.specs.Journals.{JournalValue, gtids_of}
use Rattle.journal_words.specs.Gtids.{spans_of_word}
use Rattle.rows.specs.Database.{Database}
use Rattle.rows.specs.Listing.{rows_listed}
use Rattle.rows.specs.Tables.{is_taken}
use Rattle.row_images.specs.Words.{first_word, others}
use Rattle.txn_journal.specs.Versions.{is_named, IsWide}
use Rattle.txn_journal.specs.Words.{name_of}
use Rattle.txn_journal.specs.WrittenSets.{spans_word, AreWrittenSpans}
use Rattle.txn_journal.specs.Lines.{◌>>=◌, some_or_body, nothing_in}
use Rattle.txn_journal.specs.declared.assumptions.Assumption.{Assumption}
use Rattle.txn_journal.specs.declared.assumptions.Assumption.TheVariants.{Executed, Checksums, Opening, Statements, Ignored, References, Rows}
use Rattle.txn_journal.specs.declared.bundle.BundleChannel.{BundleChannel}
use Rattle.txn_journal.specs.declared.fault.Cause.{Cause}
use Rattle.txn_journal.specs.declared.fault.Cause.TheVariants as causes

-- ---- as text

-- the name that follows its word
abbrev pub named : Assumption → List ℕ
named (Executed channel) = channel
named (Checksums channel) = channel
named (Opening channel spans) = channel
named (Statements channel spans) = channel
named (Ignored table) = table
named References = []
named Rows = []

abbrev pub assumption_text : Assumption → List ℕ
assumption_text (Executed channel) = codes "executed" ++ 32 ∷ channel
assumption_text (Checksums channel) = codes "checksums" ++ 32 ∷ channel
assumption_text (Opening channel spans) = codes "opening" ++ 32 ∷ (channel ++ 32 ∷ spans_word spans)
assumption_text (Statements channel spans) = codes "statements" ++ 32 ∷ (channel ++ 32 ∷ spans_word spans)
assumption_text (Ignored table) = codes "ignored" ++ 32 ∷ table
assumption_text References = codes "references"
assumption_text Rows = codes "rows"

-- its name is one of texts with these limits, and its spans, one or more, are written as one word
abbrev pub FitsPart : Limits → List ℕ → List Span → Type 0
FitsPart limits channel spans = (is_named limits channel ≡ true) × AreWrittenSpans spans × (0 < length spans)

-- the names in it are those of texts with these limits, and its spans are written as one word
abbrev pub FitsAssumption : Limits → Assumption → Type 0
FitsAssumption limits (Executed channel) = is_named limits channel ≡ true
FitsAssumption limits (Checksums channel) = is_named limits channel ≡ true
FitsAssumption limits (Opening channel spans) = FitsPart limits channel spans
FitsAssumption limits (Statements channel spans) = FitsPart limits channel spans
FitsAssumption limits (Ignored table) = is_named limits table ≡ true
FitsAssumption limits References = Unit {0}
FitsAssumption limits Rows = Unit {0}

-- ---- their order

-- by their words
abbrev pub rank : Assumption → ℕ
rank (Executed channel) = 0
rank (Checksums channel) = 1
rank (Opening channel spans) = 2
rank (Statements channel spans) = 3
rank (Ignored table) = 4
rank References = 5
rank Rows = 6

-- within one word by the bytes of the name that follows
abbrev pub comes_before : Assumption → Assumption → Bool
comes_before a b = nat_lt (rank a) (rank b) || (rank a == rank b && is_lt (slice_cmp nat_cmp (named a) (named b)))

abbrev pub last_of : List Assumption → Option Assumption
last_of assumptions = slice_get assumptions (length assumptions - 1)

-- each line comes before the next
abbrev pub may_follow : Option Assumption → Assumption → Bool
may_follow None a = true
may_follow (Some last) a = comes_before last a

-- ---- as it is read

abbrev pub name_behind : Limits → Option (List ℕ) → Result (List ℕ) Cause
name_behind limits None = Err causes.Body
name_behind limits (Some word) = some_or_body (name_of limits word)

abbrev pub named_in : Limits → (List ℕ → Assumption) → Option (List ℕ) → Result Assumption Cause
named_in limits make rest = name_behind limits rest >>= λ name. Ok (make name)

abbrev pub some_spans : List Span → Result (List Span) Cause
some_spans [] = Err causes.Body
some_spans (s ∷ ss) = Ok (s ∷ ss)

-- the word of a set that isn't empty
abbrev pub spans_behind : Option (List ℕ) → Result (List Span) Cause
spans_behind None = Err causes.Body
spans_behind (Some word) = some_or_body (spans_of_word word) >>= some_spans

-- a name, and spans
abbrev pub part_behind : Limits → Option (List ℕ) → Result (List ℕ × List Span) Cause
part_behind limits None = Err causes.Body
part_behind limits (Some text) = do
  name ← some_or_body (name_of limits (first_word text))
  spans ← spans_behind (others text)
  Ok (name, spans)

abbrev pub part_in : Limits → (List ℕ → List Span → Assumption) → Option (List ℕ) → Result Assumption Cause
part_in limits make rest = part_behind limits rest >>= λ part. Ok (make part.0 part.1)

unfoldable pub assumption_of : Limits → List ℕ → Option (List ℕ) → Result Assumption Cause
assumption_of limits word rest =
    if bytes_eq word (codes "executed") then named_in limits Executed rest
    else if bytes_eq word (codes "checksums") then named_in limits Checksums rest
    else if bytes_eq word (codes "opening") then part_in limits Opening rest
    else if bytes_eq word (codes "statements") then part_in limits Statements rest
    else if bytes_eq word (codes "ignored") then named_in limits Ignored rest
    else if bytes_eq word (codes "references") then (nothing_in rest >>= λ nothing. Ok References)
    else if bytes_eq word (codes "rows") then (nothing_in rest >>= λ nothing. Ok Rows)
    else Err causes.Body

abbrev pub assumption_in : Limits → Option (List ℕ) → Result Assumption Cause
assumption_in limits None = Err causes.Body
assumption_in limits (Some text) = assumption_of limits (first_word text) (others text)

abbrev pub in_order : List Assumption → Assumption → Result Assumption Cause
in_order before a = if may_follow (last_of before) a then Ok a else Err causes.Body

-- what a line says after these
abbrev pub next_assumption : Limits → List Assumption → Option (List ℕ) → Result Assumption Cause
next_assumption limits before rest = assumption_in limits rest >>= λ a. in_order before a

-- ---- what may be assumed

abbrev pub says_rows : Assumption → Bool
says_rows Rows = true
says_rows _ = false

abbrev pub is_called : List ℕ → BundleChannel → Bool
is_called name c = eq_by_cmp (slice_cmp nat_cmp) c.name name

abbrev pub has_channel : List BundleChannel → List ℕ → Bool
has_channel channels name = list_any (is_called name) channels

-- what the first channel of this name brings
abbrev pub journal_of : List BundleChannel → List JournalValue → List ℕ → Option JournalValue
journal_of channels journals name = slice_get journals (position_or_len (is_called name) channels)

-- a set has all numbers of a span
abbrev pub has_span : Gtids → Span → Bool
has_span whole s = set.is_subset (interval s.source s.lo s.hi) whole

-- its entries have these GTIDs
abbrev pub has_entries : Option JournalValue → List Span → Bool
has_entries None spans = false
has_entries (Some journal) spans = set.is_subset (set_of spans) (gtids_of journal.entries)

-- the channel that it names is there, what it says of the opening set is a part of that, and the transactions that it names are entries of the
-- channel; the table that it names is not there; no row is there, if the rows aren't known
abbrev pub may_assume : Gtids → Database → List BundleChannel → List JournalValue → Assumption → Bool
may_assume opened start channels journals (Executed channel) = has_channel channels channel
may_assume opened start channels journals (Checksums channel) = has_channel channels channel
may_assume opened start channels journals (Opening channel spans) = has_channel channels channel && set.is_subset (set_of spans) opened
may_assume opened start channels journals (Statements channel spans) = has_entries (journal_of channels journals channel) spans
may_assume opened start channels journals (Ignored table) = not (is_taken table start.schema)
may_assume opened start channels journals References = true
may_assume opened start channels journals Rows = length (rows_listed start.rows) == 0

-- the opening rows aren't known
abbrev pub lacks_rows : List Assumption → Bool
lacks_rows said = list_any says_rows said

abbrev pub most_assumptions : ℕ
most_assumptions = 65536

-- each may come after those before it. Texts with narrow limits have none.
abbrev pub AreInOrder : Limits → Gtids → Database → List BundleChannel → List JournalValue → List Assumption → List Assumption → Type 0
AreInOrder limits opened start channels journals before [] = Unit {0}
AreInOrder limits opened start channels journals before (a ∷ said) =
    IsWide limits × FitsAssumption limits a × (may_follow (last_of before) a ≡ true) × (may_assume opened start channels journals a ≡ true) × AreInOrder limits opened start channels journals (before ++ a ∷ []) said

pub record AreAssumptions (limits : Limits) (opened : Gtids) (start : Database) (channels : List BundleChannel) (journals : List JournalValue) (said : List Assumption) : Type 0 where
  pub few : length said ≤ most_assumptions
  pub each : AreInOrder limits opened start channels journals [] said
