-- What is written, token by token; a text may have the tokens in either case, with blanks between them.
use Rattle.std.specs.Prelude.{◌≡◌, ℕ, ◌^◌, ◌<◌, ◌≤◌, List, [], ◌∷◌, ◌++◌, ◌==◌, if◌then◌else◌, decimal}
use Rattle.std.specs.Str.{str_to_ascii_lowercase}
use Rattle.gtid_text.specs.Grammar.{IsGap}
use Rattle.gtid_text.specs.Canonical.{source_text}
use Rattle.gtid_text.specs.declared.Gtid.{Gtid}
use Rattle.gtid_text.specs.declared.Span.{Span}

abbrev pub IsSource : ℕ → Type 0
IsSource id = id < 2 ^ 128

-- a number that a transaction may have
abbrev pub IsNumbered : ℕ → Type 0
IsNumbered n = (1 ≤ n) × (n ≤ 9223372036854775807)

-- a GTID that some transaction may have
pub record IsUsable (g : Gtid) : Type 0 where
  pub source : IsSource g.source
  pub number : IsNumbered g.number

-- an interval of such GTIDs, with one at least
pub record IsUsableSpan (s : Span) : Type 0 where
  pub source : IsSource s.source
  pub low : IsNumbered s.lo
  pub high : IsNumbered s.hi
  pub ordered : s.lo ≤ s.hi

abbrev pub AreUsable : List Span → Type 0
AreUsable [] = Unit {0}
AreUsable (s ∷ ss) = IsUsableSpan s × AreUsable ss

-- ---- tokens

abbrev pub Tokens : Type 0
Tokens = List (List ℕ)

abbrev pub token : ℕ → List ℕ
token byte = byte ∷ []

abbrev pub source_tokens : ℕ → Tokens
source_tokens id = source_text id ∷ []

abbrev pub gtid_tokens : Gtid → Tokens
gtid_tokens g = source_text g.source ∷ token 58 ∷ decimal g.number ∷ []

-- the numbers of an interval, before other tokens
abbrev pub numbers_then : ℕ → ℕ → Tokens → Tokens
numbers_then lo hi rest = if lo == hi then decimal lo ∷ rest else decimal lo ∷ token 45 ∷ decimal hi ∷ rest

-- intervals after one of this source: after its own source a colon is enough
abbrev pub tokens_behind : ℕ → List Span → Tokens
tokens_behind id [] = []
tokens_behind id (s ∷ ss) =
    if id == s.source then token 58 ∷ numbers_then s.lo s.hi (tokens_behind s.source ss)
    else token 44 ∷ source_text s.source ∷ token 58 ∷ numbers_then s.lo s.hi (tokens_behind s.source ss)

-- the tokens of intervals
abbrev pub spans_tokens : List Span → Tokens
spans_tokens [] = []
spans_tokens (s ∷ ss) = source_text s.source ∷ token 58 ∷ numbers_then s.lo s.hi (tokens_behind s.source ss)

-- ---- texts

-- the same bytes, but for the case of letters
abbrev pub SameButCase : List ℕ → List ℕ → Type 0
SameButCase a b = str_to_ascii_lowercase a ≡ str_to_ascii_lowercase b

-- the text is these tokens, in either case, with blanks before, between and after them
abbrev pub IsSpaced : Tokens → List ℕ → Type 0
IsSpaced [] text = IsGap text
IsSpaced (t ∷ ts) text =
    (gap : List ℕ) × (shown : List ℕ) × (rest : List ℕ) × (text ≡ gap ++ (shown ++ rest)) × IsGap gap × SameButCase shown t × IsSpaced ts rest

-- the text is these tokens and nothing else
abbrev pub text_of_tokens : Tokens → List ℕ
text_of_tokens [] = []
text_of_tokens (t ∷ ts) = t ++ text_of_tokens ts
