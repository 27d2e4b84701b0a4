-- The tokens of set text, each at the start of what is left.
use Rattle.std.specs.Prelude.{◌≡◌, ℕ, ◌^◌, Bool, ◌&&◌, ◌||◌, ◌==◌, nat_le, nat_lt, List, [], ◌∷◌, length, Option, Some, None, option_map, Result, Ok, Err, if◌then◌else◌}
use Rattle.std.specs.Char.{is_ascii_digit, is_ascii_hexdigit}
use Rattle.std.specs.Int.{w128, from_be_bytes}
use Rattle.std.specs.Str.Parse.{digits_value}
use Rattle.uuid.specs.Text.{parsed_hyphenated}
use Rattle.gtid_text.specs.declared.SourceId.{SourceId}
use Rattle.gtid_text.specs.declared.scan.Kind.{Kind}
use Rattle.gtid_text.specs.declared.scan.Kind.TheVariants.{BadUuid, NoInterval, BadNumber, NumberRange, Stray}
use Rattle.gtid_text.specs.declared.scan.ScanFault.{ScanFault}

abbrev pub is_blank : ℕ → Bool
is_blank b = (b == 32) || (b == 9) || (b == 13) || (b == 10)

abbrev pub is_uuid_byte : ℕ → Bool
is_uuid_byte b = is_ascii_hexdigit b || (b == 45)

-- the longest prefix of bytes that pass, and what follows it
abbrev pub run : (ℕ → Bool) → List ℕ → List ℕ
run p [] = []
run p (b ∷ bs) = if p b then b ∷ run p bs else []

abbrev pub skip_while : (ℕ → Bool) → List ℕ → List ℕ
skip_while p [] = []
skip_while p (b ∷ bs) = if p b then skip_while p bs else b ∷ bs

infixl 10 ◌>>=◌
abbrev pub ◌>>=◌ : {A B : Type 0} → Result A ScanFault → (A → Result B ScanFault) → Result B ScanFault
(Ok x) >>= f = f x
(Err e) >>= f = Err e

abbrev pub refuse : {A : Type 0} → Kind → List ℕ → Result A ScanFault
refuse kind rest = Err (record { kind = kind; left = length rest })

-- The view of what a function returned is what reading gives.
abbrev pub Sees : {X Y : Type 0} → (X → Y) → Result X ScanFault → Result Y ScanFault → Type 0
Sees view (Ok x) read = read ≡ Ok (view x)
Sees view (Err e) read = read ≡ Err e

-- the source that a hyphenated UUID names
abbrev pub source_of : List ℕ → Option SourceId
source_of text =
    if length text == 36 then option_map (λ bytes. from_be_bytes w128 bytes) (parsed_hyphenated text)
    else None

abbrev pub found_source : Option SourceId → List ℕ → List ℕ → Result (SourceId × List ℕ) ScanFault
found_source None rest after = refuse BadUuid rest
found_source (Some id) rest after = Ok (id, after)

abbrev pub source_at : List ℕ → Result (SourceId × List ℕ) ScanFault
source_at rest = found_source (source_of (run is_uuid_byte rest)) rest (skip_while is_uuid_byte rest)

-- a number below 2 ^ 64
abbrev pub small : ℕ → Option ℕ
small n = if nat_lt n (2 ^ 64) then Some n else None

-- the number that digits parse as, if a transaction may have it
abbrev pub number_of : List ℕ → Option ℕ
number_of digits =
    if nat_le 1 (digits_value 10 digits) && nat_le (digits_value 10 digits) 9223372036854775807 then Some (digits_value 10 digits)
    else None

abbrev pub found_number : Option ℕ → List ℕ → List ℕ → Result (ℕ × List ℕ) ScanFault
found_number None rest after = refuse NumberRange rest
found_number (Some n) rest after = Ok (n, after)

abbrev pub number_at : List ℕ → Result (ℕ × List ℕ) ScanFault
number_at rest =
    if length (run is_ascii_digit rest) == 0 then refuse BadNumber rest
    else found_number (number_of (run is_ascii_digit rest)) rest (skip_while is_ascii_digit rest)

abbrev pub colon_at : List ℕ → Result (List ℕ) ScanFault
colon_at [] = refuse NoInterval []
colon_at (b ∷ bs) = if b == 58 then Ok bs else refuse NoInterval (b ∷ bs)

abbrev pub end_at : List ℕ → Result (Unit {0}) ScanFault
end_at [] = Ok tt
end_at (b ∷ bs) = refuse Stray (b ∷ bs)
