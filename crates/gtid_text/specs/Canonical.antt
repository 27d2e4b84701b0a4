-- The one text of a source, of a GTID, of an interval, and of a list of intervals.
use Rattle.std.specs.Prelude.{ℕ, List, [], ◌∷◌, ◌++◌, ◌==◌, Option, Some, None, if◌then◌else◌, decimal}
use Rattle.std.specs.Int.{w128, to_be_bytes}
use Rattle.uuid.specs.Text.{hyphenated_text, lower}
use Rattle.gtid_text.specs.declared.Gtid.{Gtid}
use Rattle.gtid_text.specs.declared.Span.{Span}

-- the UUID in lower case, 8-4-4-4-12
unfoldable pub source_text : ℕ → List ℕ
source_text id = hyphenated_text lower (to_be_bytes w128 id)

-- the source, a colon and the number
abbrev pub gtid_text : Gtid → List ℕ
gtid_text g = source_text g.source ++ 58 ∷ decimal g.number

-- an interval of one number is that number
abbrev pub numbers_text : ℕ → ℕ → List ℕ
numbers_text lo hi = if lo == hi then decimal lo else decimal lo ++ 45 ∷ decimal hi

-- the source, a colon and the numbers
abbrev pub span_text : Span → List ℕ
span_text s = source_text s.source ++ 58 ∷ numbers_text s.lo s.hi

-- an interval after the one before it: its own source isn't written again
abbrev pub next_text : Option ℕ → Span → List ℕ
next_text None s = span_text s
next_text (Some id) s = if id == s.source then 58 ∷ numbers_text s.lo s.hi else 44 ∷ span_text s

-- intervals after one of this source, if there is one
abbrev pub text_behind : Option ℕ → List Span → List ℕ
text_behind before [] = []
text_behind before (s ∷ ss) = next_text before s ++ text_behind (Some s.source) ss

-- the text of a list of intervals: a source is written only if it differs from the one before
abbrev pub spans_text : List Span → List ℕ
spans_text spans = text_behind None spans
