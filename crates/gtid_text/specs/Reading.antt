-- Set text, read from left to right, with the first refusal that is met.
use Rattle.std.specs.Prelude.{◌≡◌, ◌⊎◌, ℕ, zero, suc, ◌-◌, ◌==◌, nat_lt, List, [], ◌∷◌, ◌++◌, length, Option, Some, None, option_to_list, Result, Ok, Err, if◌then◌else◌}
use Rattle.gtid_text.specs.Scan.{◌>>=◌, is_blank, skip_while, refuse, source_at, number_at, colon_at, end_at}
use Rattle.gtid_text.specs.declared.SourceId.{SourceId}
use Rattle.gtid_text.specs.declared.Gtid.{Gtid}
use Rattle.gtid_text.specs.declared.Span.{Span}
use Rattle.gtid_text.specs.declared.scan.Kind.{Kind}
use Rattle.gtid_text.specs.declared.scan.Kind.TheVariants as kinds
use Rattle.gtid_text.specs.declared.scan.ScanFault.{ScanFault}
use Rattle.gtid_text.specs.declared.set_text.ScanError.{ScanError}
use Rattle.gtid_text.specs.declared.set_text.ScanError.TheVariants as errors
use Rattle.gtid_text.specs.declared.fault.TextFault.{TextFault}
use Rattle.gtid_text.specs.declared.fault.TextFault.TheVariants as faults

-- the fault that a refusal is in a text of this length
abbrev pub fault_at : Kind → ℕ → TextFault
fault_at kinds.BadUuid at = faults.BadUuid at
fault_at kinds.NoInterval at = faults.NoInterval at
fault_at kinds.BadNumber at = faults.BadNumber at
fault_at kinds.NumberRange at = faults.NumberRange at
fault_at kinds.Reversed at = faults.Reversed at
fault_at kinds.Stray at = faults.Stray at

abbrev pub fault_in : ℕ → ScanFault → TextFault
fault_in len r = fault_at r.kind (len - r.left)

-- the text is accepted: reading gives something, and no refusal
abbrev pub IsAccepted : {A : Type 0} → Result A ScanFault → Type 0
IsAccepted {A} read = (x : A) × (read ≡ Ok x)

-- the result for a text of this length
abbrev pub answer : {A : Type 0} → ℕ → Result A ScanFault → Result A TextFault
answer len (Ok x) = Ok x
answer len (Err r) = Err (fault_in len r)

-- The view of what a function returned is this result; memory is named only if the text is not refused.
abbrev pub GivesText : {X Y : Type 0} → (X → Y) → Result X TextFault → ℕ → Result Y ScanFault → Type 0
GivesText view (Ok x) len read = read ≡ Ok (view x)
GivesText view (Err fault) len read = (fault ≡ faults.Memory × IsAccepted read) ⊎ (answer len read ≡ Err fault)

unfoldable pub source_in : List ℕ → Result SourceId ScanFault
source_in text = do
  id ← source_at (skip_while is_blank text)
  _ ← end_at (skip_while is_blank id.1)
  Ok id.0

unfoldable pub gtid_in : List ℕ → Result Gtid ScanFault
gtid_in text = do
  id ← source_at (skip_while is_blank text)
  rest ← colon_at (skip_while is_blank id.1)
  n ← number_at (skip_while is_blank rest)
  _ ← end_at (skip_while is_blank n.1)
  Ok (record { source = id.0; number = n.0 })

-- ---- a set

abbrev pub span : SourceId → ℕ → ℕ → Span
span id lo hi = record { source = id; lo = lo; hi = hi }

-- a greater end than the start, or the same
abbrev pub check_order : SourceId → ℕ → ℕ → List ℕ → List ℕ → Result (Span × List ℕ) ScanFault
check_order id lo hi digits after = if nat_lt hi lo then refuse kinds.Reversed digits else Ok (span id lo hi, after)

-- what follows the first number of an interval
abbrev pub upper_at : SourceId → ℕ → List ℕ → Result (Span × List ℕ) ScanFault
upper_at id lo [] = Ok (span id lo lo, [])
upper_at id lo (b ∷ bs) =
    if b == 45 then (do
      hi ← number_at (skip_while is_blank bs)
      check_order id lo hi.0 (skip_while is_blank bs) (skip_while is_blank hi.1))
    else Ok (span id lo lo, b ∷ bs)

unfoldable pub interval_at : SourceId → List ℕ → Result (Span × List ℕ) ScanFault
interval_at id rest = do
  lo ← number_at (skip_while is_blank rest)
  upper_at id lo.0 (skip_while is_blank lo.1)

-- what follows an interval: the source goes on, or the element has ended
unfoldable pub separator_at : SourceId → List ℕ → Result (Option SourceId × List ℕ) ScanFault
separator_at id [] = Ok (None, [])
separator_at id (b ∷ bs) =
    if b == 58 then Ok (Some id, bs)
    else if b == 44 then Ok (None, bs)
    else refuse kinds.Stray (b ∷ bs)

-- a comma, or a UUID with its colon
unfoldable pub element_at : List ℕ → Result (Option SourceId × List ℕ) ScanFault
element_at [] = Ok (None, [])
element_at (b ∷ bs) =
    if b == 44 then Ok (None, bs)
    else (do
      id ← source_at (b ∷ bs)
      rest ← colon_at (skip_while is_blank id.1)
      Ok (Some id.0, rest))

-- the interval that was read, whose intervals go on, and what is left
abbrev pub Turn : Type 0
Turn = Option Span × Option SourceId × List ℕ

-- one element's beginning, or one interval; none at the end
unfoldable pub turn_at : Option SourceId → List ℕ → Result (Option Turn) ScanFault
turn_at (Some id) rest = do
  i ← interval_at id rest
  next ← separator_at id i.1
  Ok (Some (Some i.0, next.0, next.1))
turn_at None rest =
    if length (skip_while is_blank rest) == 0 then Ok None
    else (do
      next ← element_at (skip_while is_blank rest)
      Ok (Some (None, next.0, next.1)))

abbrev pub with_front : List Span → Result (List Span) ScanFault → Result (List Span) ScanFault
with_front front (Ok spans) = Ok (front ++ spans)
with_front front (Err e) = Err e

abbrev pub go_on : Option Turn → (Option SourceId → List ℕ → Result (List Span) ScanFault) → Result (List Span) ScanFault
go_on None f = Ok []
go_on (Some t) f = with_front (option_to_list t.0) (f t.1 t.2)

-- at most this many turns
abbrev pub spans_at : ℕ → Option SourceId → List ℕ → Result (List Span) ScanFault
spans_at zero inside rest = Ok []
spans_at (suc k) inside rest = turn_at inside rest >>= λ t. go_on t (λ next left. spans_at k next left)

unfoldable pub spans_in : List ℕ → Result (List Span) ScanFault
spans_in text = spans_at (suc (length text)) None text

-- The view of what a function returned is what reading gives; memory is named only if nothing is refused.
abbrev pub FailsScan : {Y : Type 0} → ScanError → Result Y ScanFault → Type 0
FailsScan errors.Memory read = IsAccepted read
FailsScan (errors.Refused r) read = read ≡ Err r

abbrev pub Gives : {X Y : Type 0} → (X → Y) → Result X ScanError → Result Y ScanFault → Type 0
Gives view (Ok x) read = read ≡ Ok (view x)
Gives view (Err e) read = FailsScan e read
