-- Runs of bytes of one class.
use Rattle.std.specs.Prelude.{◌≡◌, ◌≢◌, ℕ, ◌+◌, ◌<◌, ◌≤◌, ◌==◌, ◌&&◌, nat_lt, Bool, true, false, List, length, slice_index, Option, Some, None, is_some, if◌then◌else◌}
use Rattle.std.specs.Int.{w64, trailing_zeros}
use Rattle.row_images.specs.Words.{first_word}

-- no blank
abbrev pub is_word_byte : ℕ → Bool
is_word_byte b = if b == 32 then false else true

-- no line feed
abbrev pub is_line_byte : ℕ → Bool
is_line_byte b = if b == 10 then false else true

-- the bytes from at up to end are of the class
abbrev pub AreBetween : (ℕ → Bool) → List ℕ → ℕ → ℕ → Type 0
AreBetween class text at end = (k : ℕ) → at ≤ k → k < end → class (slice_index text k) ≡ true

-- from at to end is the longest run of bytes of the class
pub record IsRunAt (class : ℕ → Bool) (text : List ℕ) (at end : ℕ) : Type 0 where
  pub ordered : at ≤ end
  pub in_range : end ≤ length text
  pub pass : AreBetween class text at end
  pub stops : end < length text → class (slice_index text end) ≡ false

-- the first run bytes of the n from at are of the class, and the next one of the n is not
abbrev pub IsRunIn : (ℕ → Bool) → List ℕ → ℕ → ℕ → ℕ → Type 0
IsRunIn class text at n run =
    (run ≤ n) × AreBetween class text at (at + run) × (run < n → class (slice_index text (at + run)) ≡ false)

-- the place of the lowest bit that is set, or n
abbrev pub first_set : ℕ → ℕ → ℕ
first_set mask n = if mask == 0 then n else trailing_zeros w64 mask

-- the mask has a bit for each of the n bytes from at, which is set if the byte is not of the class
abbrev pub MarksStops : (ℕ → Bool) → List ℕ → ℕ → ℕ → ℕ → Type 0
MarksStops class text at n mask = IsRunIn class text at n (first_set mask n) × (mask ≢ 0 → first_set mask n < n)

-- a word that goes on up to n ends there
abbrev pub is_word_end : List ℕ → ℕ → Bool
is_word_end text n = if nat_lt n (length text) then slice_index text n == 32 else true

-- a zero before other digits
abbrev pub has_idle_zero : List ℕ → ℕ → Bool
has_idle_zero text n = nat_lt 1 n && (slice_index text 0 == 48)

-- the length of the first word, if it parses as something
abbrev pub len_where : {A : Type 0} → (List ℕ → Option A) → List ℕ → Option ℕ
len_where read text = if is_some (read (first_word text)) then Some (length (first_word text)) else None
