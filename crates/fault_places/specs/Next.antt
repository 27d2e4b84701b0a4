-- The next number that is there.
use Rattle.std.specs.Prelude.{◌==◌, ◌&&◌, Bool, true, not, nat_lt, List, [], ◌∷◌, Option, Some, None, if◌then◌else◌}
use Rattle.std.specs.FinSet as set
use Rattle.gtid_text.specs.declared.Gtid.{Gtid}
use Rattle.gtid_set.specs.Sets.{Gtids}
use Rattle.journal.specs.declared.Entry.{Entry}
use Rattle.journal.specs.Journals.{JournalValue}

-- it is before the one that was found so far
abbrev pub is_before : Gtid → Option Gtid → Bool
is_before h None = true
is_before h (Some best) = nat_lt h.number best.number

-- the nearer of two after g in its source; what was executed from the start is passed over
abbrev pub nearer : Gtids → Gtid → Option Gtid → Gtid → Option Gtid
nearer opened g best h = if h.source == g.source && (nat_lt g.number h.number && (is_before h best && not (set.contains opened h))) then Some h else best

abbrev pub nearest : Gtids → Gtid → Option Gtid → List Entry → Option Gtid
nearest opened g best [] = best
nearest opened g best (e ∷ es) = nearest opened g (nearer opened g best e.gtid) es

-- the least number after g in its source that is not in the opening set, and under which some journal has an entry
abbrev pub next_there : Gtids → Gtid → Option Gtid → List JournalValue → Option Gtid
next_there opened g best [] = best
next_there opened g best (j ∷ js) = next_there opened g (nearest opened g best j.entries) js
