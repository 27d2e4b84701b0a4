-- Where a text is refused: at the first token at which no continuation is one of the texts that are read.
use Rattle.std.specs.Prelude.{◌≡◌, ◌⊎◌, ℕ, ◌<◌, Bool, false, List, [], ◌∷◌, ◌++◌, length, take, Some, None}
use Rattle.std.specs.Char.{is_ascii_digit}
use Rattle.gtid_text.specs.Scan.{is_uuid_byte, run, source_of, number_of}
use Rattle.gtid_text.specs.Reading.{fault_in}
use Rattle.gtid_text.specs.declared.scan.Kind.{Kind}
use Rattle.gtid_text.specs.declared.scan.Kind.TheVariants as kinds
use Rattle.gtid_text.specs.declared.scan.ScanFault.{ScanFault}
use Rattle.gtid_text.specs.declared.fault.TextFault.{TextFault}
use Rattle.gtid_text.specs.declared.fault.TextFault.TheVariants as faults

-- the bytes of which the longest run is the token, if one of that kind is due
abbrev pub token_byte : Kind → ℕ → Bool
token_byte kinds.BadUuid = is_uuid_byte
token_byte kinds.BadNumber = is_ascii_digit
token_byte kinds.NumberRange = is_ascii_digit
token_byte kinds.Reversed = is_ascii_digit
token_byte kinds.NoInterval = λ b. false
token_byte kinds.Stray = λ b. false

-- what is due at the place of a refusal of this kind: a UUID, a colon, digits, or the end
abbrev pub IsDue : Kind → List ℕ → Type 0
IsDue kinds.BadUuid more = (id : ℕ) × (source_of (run is_uuid_byte more) ≡ Some id)
IsDue kinds.NoInterval more = take 1 more ≡ 58 ∷ []
IsDue kinds.BadNumber more = 0 < length (run is_ascii_digit more)
IsDue kinds.NumberRange more = 0 < length (run is_ascii_digit more)
IsDue kinds.Reversed more = 0 < length (run is_ascii_digit more)
IsDue kinds.Stray more = more ≡ []

-- what is there in its place: no UUID, no digits, a number that no transaction has, or one that some transaction has
abbrev pub IsMet : Kind → List ℕ → Type 0
IsMet kinds.BadUuid rest = source_of (run is_uuid_byte rest) ≡ None
IsMet kinds.NoInterval rest = Unit {0}
IsMet kinds.BadNumber rest = length (run is_ascii_digit rest) ≡ 0
IsMet kinds.NumberRange rest = (0 < length (run is_ascii_digit rest)) × (number_of (run is_ascii_digit rest) ≡ None)
IsMet kinds.Reversed rest = (n : ℕ) × (number_of (run is_ascii_digit rest) ≡ Some n)
IsMet kinds.Stray rest = 0 < length rest

-- two texts begin with the same token; a token that is no run is one byte, or the end
pub record SameToken (kind : Kind) (a b : List ℕ) : Type 0 where
  pub runs : run (token_byte kind) a ≡ run (token_byte kind) b
  pub first : take 1 a ≡ take 1 b

-- What comes before the refusal has a continuation, by what is due; with the token that is there it has none.
pub record IsStuck (IsRead : List ℕ → Type 0) (text : List ℕ) (r : ScanFault) : Type 0 where
  pub front : List ℕ
  pub rest : List ℕ
  pub parts : text ≡ front ++ rest
  pub left : r.left ≡ length rest
  pub met : IsMet r.kind rest
  pub more : List ℕ
  pub due : IsDue r.kind more
  pub viable : IsRead (front ++ more)
  pub stuck : (other : List ℕ) → SameToken r.kind other rest → IsRead (front ++ other) → ⊥

-- the fault has the kind of the refusal, and its byte
abbrev pub Refuses : (List ℕ → Type 0) → TextFault → List ℕ → Type 0
Refuses IsRead fault text = (r : ScanFault) × (fault ≡ fault_in (length text) r) × IsStuck IsRead text r

-- memory ran out on a text that is read, or the text is refused
abbrev pub FailsText : (List ℕ → Type 0) → TextFault → List ℕ → Type 0
FailsText IsRead fault text = (fault ≡ faults.Memory × IsRead text) ⊎ Refuses IsRead fault text
