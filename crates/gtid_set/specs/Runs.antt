-- The longest runs of numbers of a set, and its canonical text.
use Rattle.std.specs.Prelude.{ℕ, Bool, ◌+◌, ◌&&◌, ◌||◌, ◌==◌, nat_lt, List, [], ◌∷◌, if◌then◌else◌}
use Rattle.std.specs.FinSet as set
use Rattle.gtid_text.specs.declared.Gtid.{Gtid}
use Rattle.gtid_text.specs.declared.Span.{Span}
use Rattle.gtid_text.specs.Gtids.{same_gtid}
use Rattle.gtid_text.specs.Canonical.{spans_text}
use Rattle.gtid_set.specs.Sets.{Gtids}

-- its source is less, or its number
abbrev pub is_less : Gtid → Gtid → Bool
is_less g h = nat_lt g.source h.source || ((g.source == h.source) && nat_lt g.number h.number)

-- a GTID at its place in an ascending list
abbrev pub place : Gtid → List Gtid → List Gtid
place g [] = g ∷ []
place g (h ∷ hs) = if is_less g h then g ∷ h ∷ hs else (if same_gtid g h then h ∷ hs else h ∷ place g hs)

-- GTIDs in their order, each once
abbrev pub in_order : List Gtid → List Gtid
in_order [] = []
in_order (g ∷ gs) = place g (in_order gs)

-- a GTID before runs: it goes into the first one if that begins with the next number
abbrev pub run_before : Gtid → List Span → List Span
run_before g [] = record { source = g.source; lo = g.number; hi = g.number } ∷ []
run_before g (s ∷ ss) =
    if (s.source == g.source) && (s.lo == g.number + 1) then record { source = s.source; lo = g.number; hi = s.hi } ∷ ss
    else record { source = g.source; lo = g.number; hi = g.number } ∷ s ∷ ss

-- the runs of ascending GTIDs
abbrev pub runs_of : List Gtid → List Span
runs_of [] = []
runs_of (g ∷ gs) = run_before g (runs_of gs)

-- the longest runs of a set, by source and number
unfoldable pub runs : Gtids → List Span
runs s = runs_of (in_order (set.items s))

-- the one text of a set: sources in lower case and ascending, the longest runs ascending, one comma between sources
abbrev pub canonical : Gtids → List ℕ
canonical s = spans_text (runs s)
