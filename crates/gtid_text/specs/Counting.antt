-- The intervals of set text in their one order, and how many sources they have.
use Rattle.std.specs.Prelude.{◌≡◌, ℕ, ◌+◌, ◌++◌, ◌==◌, ◌&&◌, ◌||◌, nat_lt, Bool, true, List, [], ◌∷◌, Option, Some, None, option_map, Result, Ok, Err, if◌then◌else◌}
use Rattle.std.specs.Str.{bytes_eq}
use Rattle.gtid_text.specs.declared.Span.{Span}
use Rattle.gtid_text.specs.declared.scan.ScanFault.{ScanFault}
use Rattle.gtid_text.specs.Canonical.{next_text, text_behind, spans_text}

-- an interval comes after another, with a number missing between where both are of one source
abbrev pub is_behind : Span → Span → Bool
is_behind earlier span = nat_lt earlier.source span.source || ((earlier.source == span.source) && nat_lt (earlier.hi + 1) span.lo)

-- the same, if there is an interval before it
abbrev pub may_follow : Option Span → Span → Bool
may_follow None span = true
may_follow (Some earlier) span = is_behind earlier span

-- each interval comes after the one before it
abbrev pub are_tidy_behind : Option Span → List Span → Bool
are_tidy_behind before [] = true
are_tidy_behind before (s ∷ ss) = may_follow before s && are_tidy_behind (Some s) ss

abbrev pub source_before : Option Span → Option ℕ
source_before before = option_map (λ s. s.source) before

-- its source is another than that of the interval before it
abbrev pub counts_as : Option Span → Span → ℕ
counts_as None span = 1
counts_as (Some earlier) span = if earlier.source == span.source then 0 else 1

-- how many sources intervals in order have, besides that of the one before them
abbrev pub sources_behind : Option Span → List Span → ℕ
sources_behind before [] = 0
sources_behind before (s ∷ ss) = counts_as before s + sources_behind (Some s) ss

-- how many sources intervals have, if there are some, in order, and the text is their one text
abbrev pub count_tidy : List ℕ → List Span → Option ℕ
count_tidy text [] = None
count_tidy text (s ∷ ss) = if are_tidy_behind None (s ∷ ss) && bytes_eq (spans_text (s ∷ ss)) text then Some (sources_behind None (s ∷ ss)) else None

abbrev pub count_read : List ℕ → Result (List Span) ScanFault → Option ℕ
count_read text (Ok spans) = count_tidy text spans
count_read text (Err r) = None

-- ---- counted so far

-- what follows these bytes in a text that begins with them
abbrev pub Strips : List ℕ → List ℕ → Option (List ℕ) → Type 0
Strips text front None = (rest : List ℕ) → text ≡ front ++ rest → ⊥
Strips text front (Some rest) = text ≡ front ++ rest

-- what follows the text of an interval, if that may come after the one before it
abbrev pub FindsNext : Option Span → Span → List ℕ → Option (List ℕ) → Type 0
FindsNext before span text None = may_follow before span ≡ true → Strips text (next_text (source_before before) span) None
FindsNext before span text (Some rest) = (may_follow before span ≡ true) × (text ≡ next_text (source_before before) span ++ rest)

-- with these further intervals, after this many sources, if they are in order and this is their one text
abbrev pub count_more : ℕ → Option Span → List ℕ → List Span → Option ℕ
count_more n None text [] = None
count_more n before text ss = if are_tidy_behind before ss && bytes_eq (text_behind (source_before before) ss) text then Some (n + sources_behind before ss) else None

abbrev pub count_rest : ℕ → Option Span → List ℕ → Result (List Span) ScanFault → Option ℕ
count_rest n before text (Ok spans) = count_more n before text spans
count_rest n before text (Err r) = None
