-- What the words of a line mean.
use Rattle.std.specs.Prelude.{◌≡◌, not, ℕ, ◌==◌, Bool, true, false, ◌&&◌, nat_lt, List, [], ◌∷◌, ◌++◌, Option, Some, None, Result, Ok, Err, codes, if◌then◌else◌}
use Rattle.std.specs.List.{list_all}
use Rattle.std.specs.Str.{bytes_eq}
use Rattle.gtid_text.specs.declared.Gtid.{Gtid}
use Rattle.gtid_set.specs.Sets.{Gtids}
use Rattle.row_images.specs.declared.value.Value.{Value}
use Rattle.row_images.specs.Words.{is_count, count_of, first_word, others}
use Rattle.row_images.specs.Values.{value_of}
use Rattle.journal_words.specs.Gtids.{gtid_of_word, set_of_word}
use Rattle.rows.specs.declared.limits.Limits.{Limits}
use Rattle.txn_journal.specs.Words.{name_of}
use Rattle.row_images.specs.Images.{words_of}
use Rattle.txn_journal.specs.declared.fault.Cause.{Cause}
use Rattle.txn_journal.specs.declared.fault.Cause.TheVariants as causes
use Rattle.txn_journal.specs.declared.lines.Keyword.{Keyword}
use Rattle.txn_journal.specs.declared.lines.Keyword.TheVariants as keywords
use Rattle.txn_journal.specs.declared.lines.Due.{Due}
use Rattle.txn_journal.specs.declared.lines.Due.TheVariants.{Any, Only, BeforeThree}
use Rattle.txn_journal.specs.declared.lines.Version.{Version}
use Rattle.txn_journal.specs.declared.lines.Version.TheVariants.{One, Two, Three}
use Rattle.txn_journal.specs.Versions.{is_numbered}

-- ---- steps that may fail

infixl 10 ◌>>=◌
abbrev pub ◌>>=◌ : {A B : Type 0} → Result A Cause → (A → Result B Cause) → Result B Cause
(Ok x) >>= f = f x
(Err e) >>= f = Err e

abbrev pub some_or_body : {A : Type 0} → Option A → Result A Cause
some_or_body (Some x) = Ok x
some_or_body None = Err causes.Body

-- ---- keywords

abbrev pub keyword_of : List ℕ → Option Keyword
keyword_of word =
    if bytes_eq word (codes "journal") then Some keywords.Journal
    else if bytes_eq word (codes "previous") then Some keywords.Previous
    else if bytes_eq word (codes "txn") then Some keywords.Txn
    else if bytes_eq word (codes "ins") then Some keywords.Ins
    else if bytes_eq word (codes "upd") then Some keywords.Upd
    else if bytes_eq word (codes "del") then Some keywords.Del
    else if bytes_eq word (codes "end") then Some keywords.End
    else if bytes_eq word (codes "close") then Some keywords.Close
    else None

-- the word is due, or it is the wrong word
abbrev pub due : {W : Type 0} → (W → Bool) → Option W → Result W Cause
due is_due None = Err causes.Keyword
due is_due (Some word) = if is_due word then Ok word else Err causes.Keyword

-- ---- versions

-- a version is allowed if it is due, or if any is
abbrev pub takes : Due → Version → Bool
takes Any version = true
takes (Only One) One = true
takes (Only Two) Two = true
takes (Only Three) Three = true
takes (Only _) _ = false
takes BeforeThree Three = false
takes BeforeThree _ = true

abbrev pub version_named : List ℕ → Option Version
version_named word =
    if bytes_eq word (codes "1") then Some One
    else if bytes_eq word (codes "2") then Some Two
    else if bytes_eq word (codes "3") then Some Three
    else None

abbrev pub known_version : Due → Option Version → Result Version Cause
known_version due None = Err causes.Version
known_version due (Some version) = if takes due version then Ok version else Err causes.Version

abbrev pub version_in : Due → Option (List ℕ) → Result Version Cause
version_in due None = Err causes.Body
version_in due (Some word) = if is_count word then known_version due (version_named word) else Err causes.Body

-- ---- GTIDs and sets

abbrev pub set_in : Option (List ℕ) → Result Gtids Cause
set_in None = Err causes.Body
set_in (Some word) = some_or_body (set_of_word word)

abbrev pub nothing_in : Option (List ℕ) → Result (Unit {0}) Cause
nothing_in None = Ok tt
nothing_in (Some text) = Err causes.Body

-- ---- the line that begins an entry

-- the last_committed and the sequence number of an entry, as they are written
pub record Numbers : Type 0 where
  pub last_committed : List ℕ
  pub sequence_number : List ℕ

abbrev pub numbers_in : Option (List ℕ) → Result Numbers Cause
numbers_in None = Err causes.Body
numbers_in (Some text) = do
  sequence_number ← some_or_body (others text)
  if is_count (first_word text) && is_count sequence_number then Ok (record { last_committed = first_word text; sequence_number = sequence_number }) else Err causes.Body

-- its GTID, and its numbers but in version 1
pub record Beginning : Type 0 where
  pub gtid : Gtid
  pub numbers : Option Numbers

abbrev pub beginning_text : Bool → List ℕ → Result Beginning Cause
beginning_text false word = do
  gtid ← some_or_body (gtid_of_word word)
  Ok (record { gtid = gtid; numbers = None })
beginning_text true text = do
  gtid ← some_or_body (gtid_of_word (first_word text))
  numbers ← numbers_in (others text)
  Ok (record { gtid = gtid; numbers = Some numbers })

abbrev pub beginning_in : Version → Option (List ℕ) → Result Beginning Cause
beginning_in version None = Err causes.Body
beginning_in version (Some text) = beginning_text (is_numbered version) text

abbrev pub is_place : ℕ → Option ℕ → Bool
is_place place None = false
is_place place (Some number) = number == place

abbrev pub below : ℕ → Option ℕ → Option ℕ
below place None = None
below place (Some number) = if nat_lt number place then Some number else None

-- the last_committed of the entry at a place, counted from 1: it is below the sequence number, which is the place. Version 1 writes no numbers: 0 denotes it there.
abbrev pub stamp_in : ℕ → Option Numbers → Option ℕ
stamp_in place None = Some 0
stamp_in place (Some numbers) = if is_place place (count_of numbers.sequence_number) then below place (count_of numbers.last_committed) else None

-- the GTID of the entry at a place, and its last_committed if its numbers are allowed there
abbrev pub at_place : ℕ → Beginning → Gtid × Option ℕ
at_place place b = (b.gtid, stamp_in place b.numbers)

abbrev pub beginning_at : Version → ℕ → Option (List ℕ) → Result (Gtid × Option ℕ) Cause
beginning_at version place rest = beginning_in version rest >>= λ b. Ok (at_place place b)

-- ---- images

-- values up to a bar or the end, and the words after the bar
abbrev pub Image : Type 0
Image = List Value × Option (List (List ℕ))

abbrev pub stop_at : List Value → List (List ℕ) → Option Image
stop_at [] words = None
stop_at (v ∷ vs) words = Some (v ∷ vs, Some words)

abbrev pub stopped : List Value → Option (List (List ℕ)) → Option Image
stopped before None = None
stopped before (Some words) = stop_at before words

abbrev pub and_value : List Value → Option Value → (List Value → Option Image) → Option Image
and_value before None more = None
and_value before (Some v) more = more (before ++ v ∷ [])

abbrev pub is_bar : List ℕ → Bool
is_bar word = bytes_eq word (codes "|")

unfoldable pub values_from : List Value → List (List ℕ) → Option Image
values_from before [] = None
values_from before (w ∷ []) = if is_bar w then None else and_value before (value_of w) (λ vs. Some (vs, None))
values_from before (w ∷ x ∷ ws) = if is_bar w then stop_at before (x ∷ ws) else and_value before (value_of w) (λ vs. values_from vs (x ∷ ws))

abbrev pub one_image : Option Image → Result (List Value) Cause
one_image None = Err causes.Body
one_image (Some (vs, None)) = Ok vs
one_image (Some (vs, Some words)) = Err causes.Body

abbrev pub with_after : List Value → Result (List Value) Cause → Result (List Value × List Value) Cause
with_after before (Ok after) = Ok (before, after)
with_after before (Err e) = Err e

abbrev pub both_images : Option Image → Result (List Value × List Value) Cause
both_images None = Err causes.Body
both_images (Some (vs, None)) = Err causes.Body
both_images (Some (vs, Some words)) = with_after vs (one_image (values_from [] words))

abbrev pub image_in : List ℕ → Result (List Value) Cause
image_in text = one_image (values_from [] (words_of text))

abbrev pub images_in : List ℕ → Result (List Value × List Value) Cause
images_in text = both_images (values_from [] (words_of text))

-- a text is these two with a bar between, and no bar is in the first
pub record IsAroundBar (text before after : List ℕ) : Type 0 where
  pub parts : text ≡ before ++ 32 ∷ (124 ∷ 32 ∷ after)
  pub first : list_all (λ b. not (b == 124)) before ≡ true

-- a table's name, and the text after it
abbrev pub table_in : Limits → Option (List ℕ) → Result (List ℕ × List ℕ) Cause
table_in limits None = Err causes.Body
table_in limits (Some text) = do
  rest ← some_or_body (others text)
  name ← some_or_body (name_of limits (first_word text))
  Ok (name, rest)
