-- Which characters bytes are, in a character set of MySQL. A character of latin1 is its byte, and another one its code point.
use Rattle.std.specs.Prelude.{ℕ, nat_lt, Bool, true, false, ◌&&◌, List, Option, Some, None, chars, if◌then◌else◌}
use Rattle.std.specs.List.{list_all}
use Rattle.std.specs.Str.{is_utf8}
use Rattle.collation_weights.specs.declared.character_set.CharacterSet.{CharacterSet}
use Rattle.collation_weights.specs.declared.character_set.CharacterSet.TheVariants as sets
use Rattle.collation_weights.specs.declared.character_set.Characters.{Characters}
use Rattle.collation_weights.specs.declared.character_set.Characters.TheVariants.{Bytes, Text}

-- bytes that are UTF-8
abbrev pub text_of : List ℕ → Option (List ℕ)
text_of bytes = if is_utf8 bytes then Some bytes else None

-- each byte is a character of ASCII
abbrev pub is_ascii : List ℕ → Bool
is_ascii bytes = list_all (λ b. nat_lt b 128) bytes

-- no character is above U+FFFF
abbrev pub is_basic : List ℕ → Bool
is_basic bytes = list_all (λ c. nat_lt c 0x10000) (chars bytes)

-- a character takes one byte or several, as in UTF-8
abbrev pub is_unicode : CharacterSet → Bool
is_unicode sets.Ascii = false
is_unicode sets.Latin1 = false
is_unicode sets.Utf8mb3 = true
is_unicode sets.Utf8mb4 = true

-- none, where the bytes are no text of the character set
unfoldable pub characters : CharacterSet → List ℕ → Option (List ℕ)
characters sets.Ascii bytes = if is_ascii bytes then Some bytes else None
characters sets.Latin1 bytes = Some bytes
characters sets.Utf8mb3 bytes = if is_utf8 bytes && is_basic bytes then Some (chars bytes) else None
characters sets.Utf8mb4 bytes = if is_utf8 bytes then Some (chars bytes) else None

-- the characters that the code goes through
abbrev pub points : Characters → List ℕ
points (Bytes bytes) = bytes.now
points (Text text) = chars text.now

-- they are in UTF-8
abbrev pub is_in_utf8 : Characters → Bool
is_in_utf8 (Bytes bytes) = false
is_in_utf8 (Text text) = true
