-- Numbers and bits in the bodies of events. None: the bytes end too early.
use Rattle.std.specs.Prelude.{ℕ, ◌+◌, ◌-◌, ◌/◌, ◌%◌, ◌^◌, ◌==◌, nat_lt, Bool, List, [], ◌∷◌, length, take, drop, slice_index, Option, Some, None, if◌then◌else◌}
use Rattle.std.specs.Int.{w64, from_le_bytes}

abbrev pub and_then : {A B : Type 0} → Option A → (A → Option B) → Option B
and_then None f = None
and_then (Some x) f = f x

-- the first so many bytes, and what is behind them
unfoldable pub split : ℕ → List ℕ → Option (List ℕ × List ℕ)
split n bytes = if nat_lt (length bytes) n then None else Some (take n bytes, drop n bytes)

-- what is behind so many bytes
abbrev pub behind : ℕ → List ℕ → Option (List ℕ)
behind n bytes = and_then (split n bytes) (λ p. Some p.1)

-- the number that up to eight bytes are, lowest first; those that are not there are 0
abbrev pub low_number : List ℕ → ℕ
low_number bytes = from_le_bytes w64 (
    slice_index bytes 0 ∷ slice_index bytes 1 ∷ slice_index bytes 2 ∷ slice_index bytes 3
    ∷ slice_index bytes 4 ∷ slice_index bytes 5 ∷ slice_index bytes 6 ∷ slice_index bytes 7 ∷ [])

-- the byte at a place counted from the last one, 0 where there is none
abbrev pub from_end : List ℕ → ℕ → ℕ
from_end bytes i = if nat_lt i (length bytes) then slice_index bytes (length bytes - 1 - i) else 0

-- the number that up to eight bytes are, highest first
unfoldable pub high_number : List ℕ → ℕ
high_number bytes = from_le_bytes w64 (
    from_end bytes 0 ∷ from_end bytes 1 ∷ from_end bytes 2 ∷ from_end bytes 3
    ∷ from_end bytes 4 ∷ from_end bytes 5 ∷ from_end bytes 6 ∷ from_end bytes 7 ∷ [])

-- the number of so many bytes at the front, and what is behind it
unfoldable pub number_of : ℕ → List ℕ → Option (ℕ × List ℕ)
number_of n bytes = and_then (split n bytes) (λ p. Some (low_number p.0, p.1))

-- a packed number whose first byte this is: a byte up to 250 is the number; 252, 253 and 254 stand before a number of 2, 3 and 8 bytes; 251
-- and 255 begin none
unfoldable pub packed_by : ℕ → List ℕ → Option (ℕ × List ℕ)
packed_by byte rest =
    if nat_lt byte 251 then Some (byte, rest)
    else if byte == 252 then number_of 2 rest
    else if byte == 253 then number_of 3 rest
    else if byte == 254 then number_of 8 rest
    else None

-- the packed number at the front, and what is behind it. It need not be in its shortest form: the server reads each.
abbrev pub packed : List ℕ → Option (ℕ × List ℕ)
packed [] = None
packed (byte ∷ rest) = packed_by byte rest

-- how many bytes so many bits take
unfoldable pub bits_width : ℕ → ℕ
bits_width n = (n + 7) / 8

-- a bit is set; the first one is the lowest of the first byte
unfoldable pub is_set : List ℕ → ℕ → Bool
is_set bits i = slice_index bits (i / 8) / 2 ^ (i % 8) % 2 == 1
