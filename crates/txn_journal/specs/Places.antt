-- Where a server's log has an entry: a line of version 3 before the entry's own, which is no part of the journal's value.
use Rattle.std.specs.Prelude.{◌≡◌, ℕ, Bool, true, false, not, ◌&&◌, ◌||◌, nat_le, nat_lt, List, [], ◌∷◌, ◌++◌, map, Option, Some, None, Result, Ok, Err, codes, if◌then◌else◌}
use Rattle.std.specs.List.{flat_map, AllByRecursion}
use Rattle.std.specs.Str.{bytes_eq}
use Rattle.gtid_set.specs.Sets.{greatest}
use Rattle.row_images.specs.Words.{is_count, count_of, first_word, others}
use Rattle.rows.specs.Names.{is_name}
use Rattle.txn_journal.specs.Words.{IsOneLine}
use Rattle.txn_journal.specs.Lines.{◌>>=◌, some_or_body}
use Rattle.txn_journal.specs.declared.fault.Cause.{Cause}
use Rattle.txn_journal.specs.declared.fault.Cause.TheVariants as causes

-- ---- the line of a place

-- a log's file, the position there, the time and the server, as they are written
pub record LogPlace : Type 0 where
  pub file : List ℕ
  pub position : List ℕ
  pub time : List ℕ
  pub server : List ℕ

-- the text of its line, without its line feed
abbrev pub place_text : LogPlace → List ℕ
place_text p = codes "place" ++ 32 ∷ (p.file ++ 32 ∷ (p.position ++ 32 ∷ (p.time ++ 32 ∷ p.server)))

-- a time that isn't known is `-`
abbrev pub is_unknown : List ℕ → Bool
is_unknown word = bytes_eq word (codes "-")

-- its words are those of a name and of numbers, of any length
abbrev pub is_place_words : LogPlace → Bool
is_place_words p = is_name p.file && (is_count p.position && ((is_unknown p.time || is_count p.time) && is_count p.server))

-- the year 10000, in microseconds since 1970
unfoldable pub end_of_times : ℕ
end_of_times = 253402300800000000

abbrev pub is_at_most : ℕ → Option ℕ → Bool
is_at_most most None = false
is_at_most most (Some number) = nat_le number most

abbrev pub is_less : ℕ → Option ℕ → Bool
is_less end None = false
is_less end (Some number) = nat_lt number end

-- its numbers are within the limits
abbrev pub is_within_limits : LogPlace → Bool
is_within_limits p = is_at_most greatest (count_of p.position) && ((is_unknown p.time || is_less end_of_times (count_of p.time)) && is_at_most greatest (count_of p.server))

pub record IsLogPlace (p : LogPlace) : Type 0 where
  pub place : is_place_words p ≡ true
  pub within : is_within_limits p ≡ true

-- a line begins with this word
abbrev pub is_place_line : List ℕ → Bool
is_place_line line = bytes_eq (first_word line) (codes "place")

abbrev pub is_entry_line : List ℕ → Bool
is_entry_line line = bytes_eq (first_word line) (codes "txn")

-- ---- as it is read

abbrev pub allowed_place : LogPlace → Result LogPlace Cause
allowed_place p =
    if not (is_place_words p) then Err causes.Body
    else if not (is_within_limits p) then Err causes.Limit
    else Ok p

-- the rest of the line
unfoldable pub place_in : Option (List ℕ) → Result LogPlace Cause
place_in rest = do
  text ← some_or_body rest
  position ← some_or_body (others text)
  time ← some_or_body (others position)
  server ← some_or_body (others time)
  allowed_place (record { file = first_word text; position = first_word position; time = first_word time; server = server })

-- why such a line isn't taken where one may stand
abbrev pub HasPlaceCause : List ℕ → Cause → Type 0
HasPlaceCause line causes.Body = (p : LogPlace) → line ≡ place_text p → is_place_words p ≡ true → ⊥
HasPlaceCause line causes.Limit = (p : LogPlace) × (line ≡ place_text p) × (is_place_words p ≡ true) × (is_within_limits p ≡ false)
HasPlaceCause line _ = ⊥

-- ---- lines among which places are

-- a place, or the content of a line
pub data PlacedLine (L : Type 0) : Type 0 where
  AtPlace : LogPlace → PlacedLine L
  Plain : L → PlacedLine L

-- the lines but those of places
abbrev pub without_places : {L : Type 0} → List (PlacedLine L) → List L
without_places [] = []
without_places (AtPlace p ∷ ls) = without_places ls
without_places (Plain l ∷ ls) = l ∷ without_places ls

abbrev pub has_places : {L : Type 0} → List (PlacedLine L) → Bool
has_places [] = false
has_places (AtPlace p ∷ ls) = true
has_places (Plain l ∷ ls) = has_places ls

abbrev pub placed_text : {L : Type 0} → (L → List ℕ) → PlacedLine L → List ℕ
placed_text text (AtPlace p) = place_text p
placed_text text (Plain l) = text l

-- the text of lines, each ended by a line feed
abbrev pub text_with_places : {L : Type 0} → (L → List ℕ) → List (PlacedLine L) → List ℕ
text_with_places text ls = flat_map (λ l. placed_text text l ++ 10 ∷ []) ls

abbrev pub text_without_places : {L : Type 0} → (L → List ℕ) → List (PlacedLine L) → List ℕ
text_without_places text ls = flat_map (λ l. text l ++ 10 ∷ []) (without_places ls)

-- The line right behind a place begins an entry. The first of these lines is behind one if `before` says so, and the last is one if
-- `after` does.
abbrev pub StandBeforeEntries : {L : Type 0} → (L → List ℕ) → Bool → Bool → List (PlacedLine L) → Type 0
StandBeforeEntries text before after [] = before ≡ after
StandBeforeEntries text true after (AtPlace p ∷ ls) = ⊥
StandBeforeEntries text false after (AtPlace p ∷ ls) = IsLogPlace p × StandBeforeEntries text true after ls
StandBeforeEntries text true after (Plain l ∷ ls) = (is_entry_line (text l) ≡ true) × StandBeforeEntries text false after ls
StandBeforeEntries text false after (Plain l ∷ ls) = StandBeforeEntries text false after ls

-- the first of the lines has this text
abbrev pub BeginsAs : {L : Type 0} → (L → List ℕ) → List ℕ → List L → Type 0
BeginsAs text header [] = ⊥
BeginsAs text header (l ∷ ls) = text l ≡ header

-- places stand right, and none but in a text of the version that has them, which begins with the header
pub record PlacesFit {L : Type 0} (text : L → List ℕ) (header : List ℕ) (after : Bool) (ls : List (PlacedLine L)) : Type 0 where
  pub whole : AllByRecursion (λ l. IsOneLine (placed_text text l)) ls
  pub stand : StandBeforeEntries text false after ls
  pub newest : has_places ls ≡ true → BeginsAs (placed_text text) header ls

-- ---- texts

-- without the lines of places the bytes are a text of this value
pub record WritesPlaced {L V : Type 0} (text : L → List ℕ) (header : List ℕ) (Writes : List ℕ → V → Type 0) (bytes : List ℕ) (v : V) : Type 0 where
  pub lines : List (PlacedLine L)
  pub parts : bytes ≡ text_with_places text lines
  pub fit : PlacesFit text header false lines
  pub written : Writes (text_without_places text lines) v

-- the bytes end with a place, and without the lines of places a text of this value begins with them
pub record EndsPlaced {L V : Type 0} (text : L → List ℕ) (header : List ℕ) (Writes : List ℕ → V → Type 0) (bytes : List ℕ) (v : V) : Type 0 where
  pub lines : List (PlacedLine L)
  pub parts : bytes ≡ text_with_places text lines
  pub fit : PlacesFit text header true lines
  pub more : List ℕ
  pub written : Writes (text_without_places text lines ++ more) v
