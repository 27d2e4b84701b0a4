-- Lines of a bundle among those of logs.
use Rattle.std.specs.Prelude.{◌≡◌, ◌≢◌, ℕ, ◌==◌, ◌||◌, Bool, true, false, List, [], ◌∷◌, ◌++◌, codes, length, nat_eq}
use Rattle.std.specs.List.{starts_with, count_by, flat_map, AllByRecursion}
use Rattle.std.specs.Str.{bytes_eq}
use Rattle.gtid_set.specs.Sets.{Gtids}
use Rattle.journal.specs.declared.Entry.{Entry}
use Rattle.txn_journal.specs.Words.{IsOneLine, BeginsWithLine}
use Rattle.binlog_entries.specs.Stream.{IsLog}
use Rattle.log_transactions.specs.declared.varied.Varied.{Varied}

abbrev pub with_line_feed : List ℕ → List ℕ
with_line_feed line = line ++ 10 ∷ []

abbrev pub is_channel : List ℕ → Bool
is_channel line = starts_with nat_eq line (codes "channel ")

-- a line that begins a channel, or the last line of a bundle; no line of a log is either
abbrev pub is_own : List ℕ → Bool
is_own line = is_channel line || bytes_eq line (codes "done")

-- how many lines end in a text
abbrev pub lines_in : List ℕ → ℕ
lines_in bytes = count_by (λ b. b == 10) bytes

-- a whole line of no bundle's own
abbrev pub IsOther : List ℕ → Type 0
IsOther line = IsOneLine line × (is_own line ≡ false)

-- whole lines, none of them a bundle's own, and less than a line
pub record HasNoOwn (text : List ℕ) : Type 0 where
  pub lines : List (List ℕ)
  pub rest : List ℕ
  pub parts : text ≡ flat_map with_line_feed lines ++ rest
  pub others : AllByRecursion IsOther lines
  pub part : IsOneLine rest

-- the text is these whole lines, and less than a line
pub record AreLines (lines : List (List ℕ)) (text : List ℕ) : Type 0 where
  pub rest : List ℕ
  pub parts : text ≡ flat_map with_line_feed lines ++ rest
  pub whole : AllByRecursion IsOneLine lines
  pub part : IsOneLine rest

-- a text is nothing, or begins with a line of a bundle's own
pub data BeginsOwn (text : List ℕ) : Type 0 where
  Nothing : text ≡ [] → BeginsOwn text
  Begins : (line after : List ℕ) → BeginsWithLine text line after → is_own line ≡ true → BeginsOwn text

-- what comes before the first line of a bundle's own, and the text from there on; before a line there are whole lines
pub record IsCut (text front rest : List ℕ) : Type 0 where
  pub parts : text ≡ front ++ rest
  pub none : HasNoOwn front
  pub begins : BeginsOwn rest
  pub whole : rest ≢ [] → none.rest ≡ []

-- the text of a log, whatever it means
abbrev pub IsSomeLog : List ℕ → Type 0
IsSomeLog text = (opening : Gtids) × (previous : Gtids) × (entries : List Entry) × (varied : List Varied) × IsLog opening text previous entries varied

-- what comes before this many last bytes, and these
abbrev pub IsSplit : List ℕ → ℕ → List ℕ → List ℕ → Type 0
IsSplit text left a b = (front rest : List ℕ) → text ≡ front ++ rest → left ≡ length rest → (a ≡ front) × (b ≡ rest)

-- the first line with its line feed, if the text begins with one, and what comes after it
abbrev pub IsFirstLine : List ℕ → List ℕ → List ℕ → Type 0
IsFirstLine text a b = (line after : List ℕ) → BeginsWithLine text line after → (a ≡ with_line_feed line) × (b ≡ after)
