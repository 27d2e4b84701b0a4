-- What is assumed of a bundle of logs, as lines before its last one: what was granted of its channels and of its head, what of the opening
-- set the servers of channels hadn't executed, which logs may be damaged unseen, and for which statements an operator answers.
use Rattle.std.specs.Prelude.{◌≡◌, ℕ, Bool, List, [], ◌∷◌, ◌++◌, codes, Option, Some, None, if◌then◌else◌}
use Rattle.std.specs.Cmp.Lexicographic.{slice_cmp}
use Rattle.std.specs.FinSet as set
use Rattle.std.specs.List.{flat_map}
use Rattle.std.specs.List.Sorted.{IsPermutation, IsSorted}
use Rattle.std.specs.Ordering.{nat_cmp, ordering_then}
use Rattle.std.specs.declared.cmp.Ordering.{Ordering}
use Rattle.gtid_set.specs.Full.{IsFaultOf}
use Rattle.gtid_set.specs.Runs.{canonical}
use Rattle.gtid_set.specs.Sets.{Gtids}
use Rattle.gtid_set.specs.declared.fault.SetFault.{SetFault}
use Rattle.gtid_set.specs.declared.fault.SetFault.TheVariants.{Memory}
use Rattle.binlog_bundle.specs.Lines.{with_line_feed}
use Rattle.binlog_bundle.specs.declared.assumed.AssumedLine.{AssumedLine}
use Rattle.binlog_bundle.specs.declared.grants.Grants.{Grants}

-- ---- lines

-- nobody said what the server of this channel had executed
abbrev pub executed_line : List ℕ → AssumedLine
executed_line channel = record { rank = 0; text = codes "assume executed " ++ channel }

-- damage in the log of this channel couldn't be seen
abbrev pub checksums_line : List ℕ → AssumedLine
checksums_line channel = record { rank = 1; text = codes "assume checksums " ++ channel }

-- the server of this channel hadn't executed this part of the opening set
abbrev pub opening_line : List ℕ → Gtids → AssumedLine
opening_line channel part = record { rank = 2; text = codes "assume opening " ++ (channel ++ (32 ∷ canonical part)) }

-- the statements of these transactions of this channel change no row of the tables, and stop no replica
abbrev pub statements_line : List ℕ → Gtids → AssumedLine
statements_line channel gtids = record { rank = 3; text = codes "assume statements " ++ (channel ++ (32 ∷ canonical gtids)) }

-- foreign keys aren't looked at
abbrev pub references_line : List ℕ
references_line = codes "assume references"

-- the opening rows aren't known
abbrev pub rows_line : List ℕ
rows_line = codes "assume rows"

-- the order of a bundle's lines `assume ..` of channels: by their kinds, and within a kind by their bytes
abbrev pub line_cmp : AssumedLine → AssumedLine → Ordering
line_cmp a b = ordering_then (nat_cmp a.rank b.rank) (slice_cmp nat_cmp a.text b.text)

-- ---- what is assumed

abbrev pub opening_lines : List ℕ → Gtids → Gtids → List AssumedLine
opening_lines channel opened executed = if set.is_subset opened executed then [] else opening_line channel (set.difference opened executed) ∷ []

abbrev pub checksums_lines : List ℕ → Bool → List AssumedLine
checksums_lines channel unchecked = if unchecked then checksums_line channel ∷ [] else []

-- of a channel, by what its server had executed, if that was said
abbrev pub executed_lines : List ℕ → Gtids → Option Gtids → List AssumedLine
executed_lines channel opened None = executed_line channel ∷ []
executed_lines channel opened (Some executed) = opening_lines channel opened executed

abbrev pub statements_lines : List ℕ → Gtids → List AssumedLine
statements_lines channel gtids = if set.is_subset gtids set.empty then [] else statements_line channel gtids ∷ []

-- by whether damage in its log couldn't be seen, by what its server had executed, and by the transactions for whose statements an operator
-- answers
abbrev pub assumed_of : List ℕ → Gtids → Option Gtids → Bool → Gtids → List AssumedLine
assumed_of channel opened executed unchecked statements =
    (checksums_lines channel unchecked ++ executed_lines channel opened executed) ++ statements_lines channel statements

-- of the head, if its lines of foreign keys were passed over
abbrev pub references_text : Bool → List ℕ
references_text passed_over = if passed_over then with_line_feed references_line else []

-- of the opening rows, if it is granted that they aren't known
abbrev pub rows_text : Grants → List ℕ
rows_text grants = if grants.no_rows then with_line_feed rows_line else []

-- why the lines of a channel are not made: out of memory, or the part of the opening set has too many intervals
abbrev pub IsPartFault : SetFault → Gtids → Option Gtids → Type 0
IsPartFault fault opened None = fault ≡ Memory
IsPartFault fault opened (Some executed) = IsFaultOf fault (set.difference opened executed)

-- ---- their text

abbrev pub text_of : List AssumedLine → List ℕ
text_of lines = flat_map (λ line. with_line_feed line.text) lines

-- The lines of channels in their order, and then those of the head and of its rows.
pub record IsAssumeText (grants : Grants) (of_channels : List AssumedLine) (passed_over : Bool) (text : List ℕ) : Type 0 where
  pub lines : List AssumedLine
  pub each : IsPermutation of_channels lines
  pub order : IsSorted line_cmp lines
  pub text_is : text ≡ (text_of lines ++ references_text passed_over) ++ rows_text grants

-- that text, if the last line of a bundle comes next; nothing, if nothing does
abbrev pub IsSaidBefore : Grants → List ℕ → List AssumedLine → Bool → List ℕ → Type 0
IsSaidBefore grants [] of_channels passed_over said = said ≡ []
IsSaidBefore grants (b ∷ bs) of_channels passed_over said = IsAssumeText grants of_channels passed_over said
