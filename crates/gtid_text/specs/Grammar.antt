-- Set text as a list of elements joined by commas, with blanks between tokens.
use Rattle.std.specs.Prelude.{◌≡◌, ℕ, ◌<◌, ◌≤◌, true, List, [], ◌∷◌, ◌++◌, length, Option, Some, None}
use Rattle.std.specs.List.{list_all, flat_map}
use Rattle.std.specs.Char.{is_ascii_digit}
use Rattle.gtid_text.specs.Scan.{is_blank, is_uuid_byte, source_of, number_of}
use Rattle.gtid_text.specs.declared.SourceId.{SourceId}
use Rattle.gtid_text.specs.declared.Gtid.{Gtid}
use Rattle.gtid_text.specs.declared.Span.{Span}

-- ---- what is written

-- digits after blanks
pub record Number : Type 0 where
  pub gap : List ℕ
  pub digits : List ℕ

-- a number, or two with a hyphen between, which may come after blanks
pub record Interval : Type 0 where
  pub lo : Number
  pub upper : Option (List ℕ × Number)

-- a UUID after blanks, and one interval or more, each after blanks and a colon
pub record Named : Type 0 where
  pub gap : List ℕ
  pub uuid : List ℕ
  pub first : List ℕ × Interval
  pub more : List (List ℕ × Interval)

-- an element may be empty, and blanks may follow it
abbrev pub Element : Type 0
Element = Option Named × List ℕ

-- ---- its text

abbrev pub number_text : Number → List ℕ
number_text n = n.gap ++ n.digits

abbrev pub upper_text : Option (List ℕ × Number) → List ℕ
upper_text None = []
upper_text (Some u) = u.0 ++ 45 ∷ number_text u.1

abbrev pub interval_text : Interval → List ℕ
interval_text i = number_text i.lo ++ upper_text i.upper

abbrev pub behind_colon : List ℕ × Interval → List ℕ
behind_colon p = p.0 ++ 58 ∷ interval_text p.1

abbrev pub named_text : Named → List ℕ
named_text n = n.gap ++ (n.uuid ++ flat_map behind_colon (n.first ∷ n.more))

abbrev pub element_text : Element → List ℕ
element_text (None, gap) = gap
element_text (Some n, gap) = named_text n ++ gap

-- elements joined by commas
abbrev pub set_text : List Element → List ℕ
set_text [] = []
set_text (e ∷ []) = element_text e
set_text (e ∷ f ∷ es) = element_text e ++ 44 ∷ set_text (f ∷ es)

-- ---- what it denotes

abbrev pub IsGap : List ℕ → Type 0
IsGap gap = list_all is_blank gap ≡ true

-- the number is one that a transaction may have
pub record IsNumber (n : Number) (value : ℕ) : Type 0 where
  pub gap : IsGap n.gap
  pub digits : list_all is_ascii_digit n.digits ≡ true
  pub some : 0 < length n.digits
  pub parses : number_of n.digits ≡ Some value

abbrev pub IsUpper : Option (List ℕ × Number) → Span → Type 0
IsUpper None s = s.hi ≡ s.lo
IsUpper (Some u) s = IsGap u.0 × IsNumber u.1 s.hi × (s.lo ≤ s.hi)

pub record IsInterval (i : Interval) (id : SourceId) (s : Span) : Type 0 where
  pub source : s.source ≡ id
  pub lo : IsNumber i.lo s.lo
  pub upper : IsUpper i.upper s

abbrev pub AreIntervals : SourceId → List (List ℕ × Interval) → List Span → Type 0
AreIntervals id [] [] = Unit {0}
AreIntervals id [] (s ∷ ss) = ⊥
AreIntervals id (p ∷ ps) [] = ⊥
AreIntervals id (p ∷ ps) (s ∷ ss) = IsGap p.0 × IsInterval p.1 id s × AreIntervals id ps ss

pub record IsNamed (n : Named) (spans : List Span) : Type 0 where
  pub id : SourceId
  pub gap : IsGap n.gap
  pub bytes : list_all is_uuid_byte n.uuid ≡ true
  pub uuid : source_of n.uuid ≡ Some id
  pub intervals : AreIntervals id (n.first ∷ n.more) spans

abbrev pub IsElement : Element → List Span → Type 0
IsElement (None, gap) spans = IsGap gap × (spans ≡ [])
IsElement (Some n, gap) spans = IsGap gap × IsNamed n spans

-- the intervals in their order
abbrev pub AreElements : List Element → List Span → Type 0
AreElements [] spans = spans ≡ []
AreElements (e ∷ es) spans = (front : List Span) × (back : List Span) × (spans ≡ front ++ back) × IsElement e front × AreElements es back

-- the text parses as these intervals
pub record ParsesAs (text : List ℕ) (spans : List Span) : Type 0 where
  pub elements : List Element
  pub text_is : text ≡ set_text elements
  pub says : AreElements elements spans

-- a text that parses as some set
abbrev pub IsSetText : List ℕ → Type 0
IsSetText text = (spans : List Span) × ParsesAs text spans

-- ---- one source, one GTID

-- bytes of a UUID that names this source
pub record IsUuid (uuid : List ℕ) (id : SourceId) : Type 0 where
  pub bytes : list_all is_uuid_byte uuid ≡ true
  pub names : source_of uuid ≡ Some id

-- a UUID between blanks
pub record ParsesAsSource (text : List ℕ) (id : SourceId) : Type 0 where
  pub gap : List ℕ
  pub uuid : List ℕ
  pub after : List ℕ
  pub text_is : text ≡ gap ++ (uuid ++ after)
  pub gaps : IsGap gap × IsGap after
  pub is_uuid : IsUuid uuid id

abbrev pub IsSourceText : List ℕ → Type 0
IsSourceText text = (id : SourceId) × ParsesAsSource text id

-- a UUID, a colon and a number, with blanks around each
pub record ParsesAsGtid (text : List ℕ) (gtid : Gtid) : Type 0 where
  pub gap : List ℕ
  pub uuid : List ℕ
  pub behind : List ℕ
  pub number : Number
  pub after : List ℕ
  pub text_is : text ≡ gap ++ (uuid ++ (behind ++ 58 ∷ (number_text number ++ after)))
  pub gaps : IsGap gap × IsGap behind × IsGap after
  pub is_uuid : IsUuid uuid gtid.source
  pub is_number : IsNumber number gtid.number

abbrev pub IsGtidText : List ℕ → Type 0
IsGtidText text = (gtid : Gtid) × ParsesAsGtid text gtid
