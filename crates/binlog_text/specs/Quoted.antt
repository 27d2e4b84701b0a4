-- Strings as mysqlbinlog prints them: between quotes, and some bytes by an escape.
use Rattle.std.specs.Prelude.{ℕ, ◌≤◌, ◌+◌, ◌-◌, ◌==◌, ◌&&◌, ◌||◌, nat_lt, nat_le, List, [], ◌∷◌, ◌++◌, Option, Some, None, option_map, if◌then◌else◌}
use Rattle.std.specs.List.{flat_map}
use Rattle.binlog_text.specs.declared.quoted.Mode.{Mode}
use Rattle.binlog_text.specs.declared.quoted.Mode.TheVariants as modes

abbrev pub hex_digit : ℕ → ℕ
hex_digit d = if nat_lt d 10 then 48 + d else 87 + d

-- A backslash and a letter denote some bytes, `\x` and two digits for the others below the blank. Each other byte denotes itself.
abbrev pub shown_byte : ℕ → List ℕ
shown_byte b =
    if b == 8 then 92 ∷ 98 ∷ []
    else if b == 9 then 92 ∷ 116 ∷ []
    else if b == 10 then 92 ∷ 110 ∷ []
    else if b == 12 then 92 ∷ 102 ∷ []
    else if b == 13 then 92 ∷ 114 ∷ []
    else if b == 39 then 92 ∷ 39 ∷ []
    else if b == 92 then 92 ∷ 92 ∷ []
    else if nat_lt b 16 then 92 ∷ 120 ∷ 48 ∷ hex_digit b ∷ []
    else if nat_lt b 32 then 92 ∷ 120 ∷ 49 ∷ hex_digit (b - 16) ∷ []
    else b ∷ []

abbrev pub escape : List ℕ → List ℕ
escape bytes = flat_map shown_byte bytes

-- the bytes between quotes
abbrev pub quote : List ℕ → List ℕ
quote bytes = 39 ∷ escape bytes ++ 39 ∷ []

-- ---- reading

-- the byte that a backslash and this letter denote
abbrev pub unescape : ℕ → Option ℕ
unescape b =
    if b == 98 then Some 8
    else if b == 116 then Some 9
    else if b == 110 then Some 10
    else if b == 102 then Some 12
    else if b == 114 then Some 13
    else if b == 39 then Some 39
    else if b == 92 then Some 92
    else None

abbrev pub hex_value : ℕ → Option ℕ
hex_value b =
    if nat_le 48 b && nat_le b 57 then Some (b - 48)
    else if nat_le 97 b && nat_le b 102 then Some (b - 87)
    else None

-- a byte below the blank that has no letter
abbrev pub byte_of_digits : ℕ → Option ℕ
byte_of_digits b = if (b == 8) || (b == 9) || (b == 10) || (b == 12) || (b == 13) then None else Some b

-- what has come once a byte has come whole, and that byte
abbrev pub plainly : Option ℕ → Option (Mode × Option ℕ)
plainly None = None
plainly (Some b) = Some (modes.Plain, Some b)

abbrev pub low_of : ℕ → Option ℕ → Option ℕ
low_of high None = None
low_of high (Some d) = byte_of_digits (high + d)

-- what has come after one more byte, and the byte of the string that is whole with it
abbrev pub next : Mode → ℕ → Option (Mode × Option ℕ)
next modes.Plain b =
    if b == 92 then Some (modes.Escape, None)
    else if b == 39 then Some (modes.Closed, None)
    else if nat_lt b 32 then None
    else Some (modes.Plain, Some b)
next modes.Escape b = if b == 120 then Some (modes.High, None) else plainly (unescape b)
next modes.High b =
    if b == 48 then Some (modes.Low 0, None)
    else if b == 49 then Some (modes.Low 16, None)
    else None
next (modes.Low high) b = plainly (low_of high (hex_value b))
next modes.Closed b = None

-- the first of two digits is 0 or 1
abbrev pub HighFits : Mode → Type 0
HighFits modes.Plain = Unit {0}
HighFits modes.Escape = Unit {0}
HighFits modes.High = Unit {0}
HighFits (modes.Low high) = high ≤ 16
HighFits modes.Closed = Unit {0}

abbrev pub whole : Mode → Option (List ℕ)
whole modes.Closed = Some []
whole modes.Plain = None
whole modes.Escape = None
whole modes.High = None
whole (modes.Low high) = None

abbrev pub with_byte : Option ℕ → Option (List ℕ) → Option (List ℕ)
with_byte None told = told
with_byte (Some b) told = option_map (λ bs. b ∷ bs) told

abbrev pub go_on : Option (Mode × Option ℕ) → (Mode → Option (List ℕ)) → Option (List ℕ)
go_on None f = None
go_on (Some t) f = with_byte t.1 (f t.0)

-- the bytes that the rest of a string shows
abbrev pub read_quoted : Mode → List ℕ → Option (List ℕ)
read_quoted mode [] = whole mode
read_quoted mode (b ∷ bs) = go_on (next mode b) (λ m. read_quoted m bs)

-- the bytes that a string between quotes shows
abbrev pub unquote : List ℕ → Option (List ℕ)
unquote [] = None
unquote (b ∷ bs) = if b == 39 then read_quoted modes.Plain bs else None
