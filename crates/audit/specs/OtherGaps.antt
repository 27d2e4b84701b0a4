-- What else is left out of journals after a verdict.
use Rattle.std.specs.Prelude.{◌≡◌, ◌<◌, Bool, true, false, not, ◌||◌, find, List, [], ◌∷◌, Option, Some, None, if◌then◌else◌}
use Rattle.std.specs.List.{list_any, AllByRecursion}
use Rattle.std.specs.Option.{option_map_or}
use Rattle.std.specs.FinMap as finmap
use Rattle.std.specs.FinSet as set
use Rattle.gtid_text.specs.declared.Gtid.{Gtid}
use Rattle.gtid_text.specs.Gtids.{same_gtid}
use Rattle.gtid_set.specs.Sets.{Gtids}
use Rattle.rows.specs.declared.change.Key.{Key}
use Rattle.rows.specs.declared.change.Transaction.{Transaction}
use Rattle.rows.specs.WriteSet.{touches}
use Rattle.rows.specs.Conflicts.{conflicts}
use Rattle.journal.specs.declared.Entry.{Entry}
use Rattle.journal.specs.Journals.{JournalValue}
use Rattle.history.specs.Sources.{World, content}
use Rattle.world.specs.declared.verdict.Verdict.{Verdict}
use Rattle.world.specs.declared.verdict.Verdict.TheVariants.{NotClosed}
use Rattle.world.specs.Audit.{is_recorded_before, unequal, purged}
use Rattle.world.specs.Cases.{IsEntryOf, NamesFault}
use Rattle.audit.specs.Gaps.{Needs, needs_in, is_recorded}

-- ---- the nearest earlier transaction at a key

-- h is the last transaction before g in the source of g that touches a key
pub record IsNearest (world : World) (h g : Gtid) (key : Key) : Type 0 where
  pub u : Transaction
  pub there : content world h ≡ Some u
  pub touching : touches world.schema u key ≡ true
  pub source : h.source ≡ g.source
  pub smaller : h.number < g.number
  pub last : (m : Gtid) (t : Transaction) → content world m ≡ Some t → m.source ≡ g.source → h.number < m.number → m.number < g.number → touches world.schema t key ≡ false

-- g is in a journal without h before it, the nearest earlier transaction at one of the keys of g; the keys are those of the world's
-- transaction under g
pub record HasGap (world : World) (journals : List JournalValue) (g h : Gtid) : Type 0 where
  pub entry : Entry
  pub there : IsEntryOf journals entry
  pub named : entry.gtid ≡ g
  pub t : Transaction
  pub first : content world g ≡ Some t
  pub key : Key
  pub touched : touches world.schema t key ≡ true
  pub nearest : IsNearest world h g key
  pub left_out : is_recorded_before there.journal there.place h ≡ false

-- h comes before g in its source, shares a key with it, and does not come before it in a journal; the transactions of both are the world's
pub record LeavesOut (world : World) (journals : List JournalValue) (g h : Gtid) : Type 0 where
  pub entry : Entry
  pub there : IsEntryOf journals entry
  pub named : entry.gtid ≡ g
  pub t : Transaction
  pub u : Transaction
  pub first : content world g ≡ Some t
  pub earlier : content world h ≡ Some u
  pub source : h.source ≡ g.source
  pub smaller : h.number < g.number
  pub shares : conflicts world.schema u t ≡ true
  pub left_out : is_recorded_before there.journal there.place h ≡ false

-- the verdict reports a GTID that is present without a nearest earlier one, and names that one
abbrev pub IsGapNamed : World → List JournalValue → Verdict → Type 0
IsGapNamed world journals (NotClosed g h) = HasGap world journals g h
IsGapNamed world journals _ = ⊥

-- the verdict reports this GTID
abbrev pub is_of_gap : Gtid → Verdict → Bool
is_of_gap g (NotClosed h before) = same_gtid g h
is_of_gap g _ = false

-- the verdict reports that something is left out
abbrev pub is_gap : Verdict → Bool
is_gap (NotClosed g h) = true
is_gap _ = false

-- one of these reports the same GTID
abbrev pub is_gap_again : Verdict → List Verdict → Bool
is_gap_again (NotClosed g h) vs = list_any (is_of_gap g) vs
is_gap_again _ vs = false

-- no two of these report one GTID
abbrev pub AreGapsOnce : List Verdict → Type 0
AreGapsOnce [] = Unit {0}
AreGapsOnce (v ∷ vs) = (is_gap_again v vs ≡ false) × AreGapsOnce vs

-- Each reports a GTID that is in a journal without its nearest earlier one at some key; every such GTID is that of the verdict or of one of
-- these, and of one alone. Where nothing is unequal each is a fault of its kind. Where none is reported, and no journal begins after the
-- opening set, no journal leaves anything out.
pub record AreOtherGaps (world : World) (journals : List JournalValue) (v : Verdict) (list : List Verdict) : Type 0 where
  pub named : AllByRecursion (IsGapNamed world journals) list
  pub every : (g h : Gtid) → HasGap world journals g h → (is_of_gap g v || list_any (is_of_gap g) list) ≡ true
  pub once : AreGapsOnce (v ∷ list)
  pub cases : unequal world journals ≡ None → AllByRecursion (NamesFault world journals) list
  pub closed : is_gap v ≡ false → list ≡ [] → purged world journals ≡ None → (g h : Gtid) → LeavesOut world journals g h → ⊥

-- ---- the pass over the journals

-- of what a GTID needs the first that is absent
abbrev pub first_absent : Needs → (Gtid → Bool) → Gtid → Option Gtid
first_absent needs stand g = option_map_or (λ gs. find (λ h. not (stand h)) gs) (finmap.get needs g) None

-- a GTID, and what it is present without
abbrev pub Gap : Type 0
Gap = Gtid × Gtid

abbrev pub with_gap : Gtid → Option Gtid → List Gap → List Gap
with_gap g None gaps = gaps
with_gap g (Some h) gaps = (g, h) ∷ gaps

-- each of these entries that is present without something it needs, after others that are present; and then `rest`
abbrev pub gaps_among : Needs → Gtids → Gtids → List Entry → List Gap → List Gap
gaps_among needs previous standing [] rest = rest
gaps_among needs previous standing (e ∷ es) rest =
    with_gap e.gtid (first_absent needs (is_recorded previous standing) e.gtid) (gaps_among needs previous (set.insert standing e.gtid) es rest)

-- in order of journals and entries
abbrev pub gaps_in : Needs → List JournalValue → List Gap
gaps_in needs [] = []
gaps_in needs (j ∷ js) = gaps_among needs j.previous set.empty j.entries (gaps_in needs js)

-- of these the first of each GTID, unless that GTID was reported already
abbrev pub unreported : Gtids → List Gap → List Verdict
unreported reported [] = []
unreported reported (p ∷ ps) = if set.contains reported p.0 then unreported reported ps else NotClosed p.0 p.1 ∷ unreported (set.insert reported p.0) ps

-- the GTID of the verdict
abbrev pub gap_of_verdict : Verdict → Gtids
gap_of_verdict (NotClosed g h) = set.insert set.empty g
gap_of_verdict _ = set.empty

-- each GTID that is present without something it needs, but that of the verdict
abbrev pub other_gaps : World → List JournalValue → Verdict → List Verdict
other_gaps world journals v = unreported (gap_of_verdict v) (gaps_in (needs_in world) journals)
