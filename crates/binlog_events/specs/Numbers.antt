-- Numbers in the bodies of events.
use Rattle.std.specs.Prelude.{ℕ, ◌+◌, ◌-◌, ◌*◌, ◌/◌, ◌%◌, ◌^◌, nat_lt, List, [], ◌∷◌, length, take, drop, slice_index, Option, Some, None, if◌then◌else◌}
use Rattle.std.specs.Int.{w8, w64, from_le_bytes, trailing_ones}

-- so many bytes from a place on
abbrev pub part : ℕ → ℕ → List ℕ → List ℕ
part from len bytes = take len (drop from bytes)

-- the number that up to eight bytes are, lowest first; those that are not there are 0
abbrev pub low_number : List ℕ → ℕ
low_number bytes = from_le_bytes w64 (
    slice_index bytes 0 ∷ slice_index bytes 1 ∷ slice_index bytes 2 ∷ slice_index bytes 3
    ∷ slice_index bytes 4 ∷ slice_index bytes 5 ∷ slice_index bytes 6 ∷ slice_index bytes 7 ∷ [])

-- ---- numbers of varying length, as MySQL's messages have them: as many ones at the low end of the first byte as bytes follow, then a zero,
-- ---- and the bits above are the lowest of the number

-- the number whose first byte has so many ones at its low end, with the bytes that follow
unfoldable pub varied_number : ℕ → ℕ → List ℕ → ℕ
varied_number ones byte more = (byte / 2 ^ (ones + 1) + low_number more * 2 ^ (7 - ones)) % 2 ^ 64

unfoldable pub varied_behind : ℕ → ℕ → List ℕ → Option (ℕ × List ℕ)
varied_behind ones byte rest = if nat_lt (length rest) ones then None else Some (varied_number ones byte (take ones rest), drop ones rest)

-- the number at the front of bytes, and what is behind it
abbrev pub varied : List ℕ → Option (ℕ × List ℕ)
varied [] = None
varied (byte ∷ rest) = varied_behind (trailing_ones w8 byte) byte rest
