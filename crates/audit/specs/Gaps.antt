-- What is left out of journals, by one pass over each.
use Rattle.std.specs.Prelude.{Bool, true, false, not, ◌&&◌, ◌||◌, ◌==◌, nat_lt, List, [], ◌∷◌, Option, Some, None, if◌then◌else◌}
use Rattle.std.specs.List.{list_any}
use Rattle.std.specs.Option.{option_map_or}
use Rattle.std.specs.Coded.{Coded, coded_list}
use Rattle.std.specs.FinMap as finmap
use Rattle.std.specs.FinSet as set
use Rattle.gtid_text.specs.declared.Gtid.{Gtid}
use Rattle.gtid_text.specs.Gtids.{gtid_cmp}
use Rattle.gtid_set.specs.Sets.{Gtids, gtid_code}
use Rattle.rows.specs.declared.change.Key.{Key}
use Rattle.rows.specs.declared.schema.Table.{Table}
use Rattle.rows.specs.WriteSet.{write_set}
use Rattle.rows.specs.Conflicts.{conflicts}
use Rattle.journal.specs.declared.Entry.{Entry}
use Rattle.journal.specs.Journals.{JournalValue}
use Rattle.history.specs.Sources.{World, is_opened}
use Rattle.history.specs.Sources as history
use Rattle.world.specs.declared.verdict.Verdict.{Verdict}
use Rattle.world.specs.declared.verdict.Verdict.TheVariants.{NotClosed}
use Rattle.world.specs.Search.{or_next, when, first}
use Rattle.world.specs.Folds.{FirstTouch}

-- ---- what each transaction needs

-- these keys were touched last by g
abbrev pub touch_last : Gtid → List Key → FirstTouch → FirstTouch
touch_last g [] last = last
touch_last g (key ∷ keys) last = touch_last g keys (finmap.insert last key g)

-- what touched a key, if it is of the source of g
abbrev pub of_source : Gtid → Option Gtid → Option Gtid
of_source g None = None
of_source g (Some before) = if before.source == g.source then Some before else None

abbrev pub with_some : Option Gtid → List Gtid → List Gtid
with_some None gs = gs
with_some (Some g) gs = g ∷ gs

-- what touched each of these keys last, if it is of the source of g
abbrev pub last_of_keys : Gtid → List Key → FirstTouch → List Gtid
last_of_keys g [] last = []
last_of_keys g (key ∷ keys) last = with_some (of_source g (finmap.get last key)) (last_of_keys g keys last)

-- a key that no other source than that of g touched last
abbrev pub is_own : Gtid → FirstTouch → Key → Bool
is_own g last key = option_map_or (λ before. before.source == g.source) (finmap.get last key) true

-- for each GTID what it needs
abbrev pub Needs : Type 0
Needs = finmap.FinMap gtid_cmp (List Gtid)

abbrev pub needs_code : Coded Needs
needs_code = finmap.code gtid_code (coded_list gtid_code)

-- what each of these needs, after others that touched keys last
abbrev pub needs_over : List Table → FirstTouch → Needs → List history.Entry → Needs
needs_over schema last needs [] = needs
needs_over schema last needs (h ∷ es) =
    needs_over schema (touch_last h.0 (write_set schema h.1) last) (finmap.insert needs h.0 (last_of_keys h.0 (write_set schema h.1) last)) es

-- what each transaction of a world needs
abbrev pub needs_in : World → Needs
needs_in world = needs_over world.schema finmap.empty finmap.empty (finmap.entries world.contents)

-- ---- a journal

-- in the previous set, or among these
abbrev pub is_recorded : Gtids → Gtids → Gtid → Bool
is_recorded previous standing g = set.contains previous g || set.contains standing g

-- something that an entry needs is absent
abbrev pub lacks : Needs → (Gtid → Bool) → Gtid → Bool
lacks needs stand g = option_map_or (λ gs. list_any (λ h. not (stand h)) gs) (finmap.get needs g) false

-- h has a smaller number of the same source and a common key, and is absent
abbrev pub is_left_by : World → (Gtid → Bool) → Entry → history.Entry → Bool
is_left_by world stand e h =
    not (is_opened world e.gtid) && (h.0.source == e.gtid.source && (nat_lt h.0.number e.gtid.number && (conflicts world.schema h.1 e.txn && not (stand h.0))))

-- the least such
abbrev pub least_left_by : World → (Gtid → Bool) → Entry → Option Verdict
least_left_by world stand e = first (λ (h : history.Entry). when (is_left_by world stand e h) (NotClosed e.gtid h.0)) (finmap.entries world.contents)

-- the least that an entry lacks, if it lacks something
abbrev pub gap_at : World → Needs → (Gtid → Bool) → Entry → Option Verdict
gap_at world needs stand e = if not (is_opened world e.gtid) && lacks needs stand e.gtid then least_left_by world stand e else None

-- the first entry of these for which something is left out, after others that are present
abbrev pub gap_among : World → Needs → Gtids → Gtids → List Entry → Option Verdict
gap_among world needs previous standing [] = None
gap_among world needs previous standing (e ∷ es) =
    or_next (gap_at world needs (is_recorded previous standing) e) (gap_among world needs previous (set.insert standing e.gtid) es)

-- the first in order of journals
abbrev pub first_gap : World → Needs → List JournalValue → Option Verdict
first_gap world needs journals = first (λ (j : JournalValue). gap_among world needs j.previous set.empty j.entries) journals
