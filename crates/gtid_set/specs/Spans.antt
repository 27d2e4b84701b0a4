-- What a list of spans denotes: the union of its intervals. A set is kept as the one merged list that denotes it.
use Rattle.std.specs.Prelude.{◌+◌, Bool, true, ◌&&◌, ◌||◌, ◌==◌, nat_le, nat_lt, List, [], ◌∷◌}
use Rattle.std.specs.List.{list_any, list_all}
use Rattle.std.specs.FinSet as set
use Rattle.gtid_text.specs.declared.Gtid.{Gtid}
use Rattle.gtid_text.specs.declared.Span.{Span}
use Rattle.gtid_set.specs.Sets.{Gtids, interval, covers}

abbrev pub set_of : List Span → Gtids
set_of [] = set.empty
set_of (s ∷ ss) = set.union (set_of ss) (interval s.source s.lo s.hi)

-- whether one of the spans has the GTID
abbrev pub has : List Span → Gtid → Bool
has ss g = list_any (λ s. covers s.source s.lo s.hi g) ss

-- its source is less, or its last number
abbrev pub ends_before : Gtid → Span → Bool
ends_before g s = nat_lt s.source g.source || ((s.source == g.source) && nat_lt s.hi g.number)

-- its source is less, or a number is missing between the two
abbrev pub is_before : Span → Span → Bool
is_before s t = nat_lt s.source t.source || ((s.source == t.source) && nat_lt (s.hi + 1) t.lo)

-- each span has a number, and is before all later ones
abbrev pub is_merged : List Span → Bool
is_merged [] = true
is_merged (s ∷ ss) = nat_le s.lo s.hi && (list_all (is_before s) ss && is_merged ss)
