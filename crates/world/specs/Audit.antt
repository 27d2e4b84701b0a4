-- The world of a list of journals, and what an audit finds in them.
use Rattle.std.specs.Prelude.{ℕ, Bool, false, not, ◌&&◌, ◌||◌, ◌==◌, ◌-◌, map, nat_lt, if◌then◌else◌, List, [], ◌∷◌, take, Option, Some, None, Result, Ok, Err}
use Rattle.std.specs.List.{flat_map, list_any, range_with_len}
use Rattle.std.specs.Option.{option_map, option_map_or, unwrap_or}
use Rattle.std.specs.FinMap as finmap
use Rattle.std.specs.FinSet as set
use Rattle.gtid_text.specs.declared.Gtid.{Gtid}
use Rattle.gtid_text.specs.Gtids.{gtid_cmp, same_gtid}
use Rattle.gtid_set.specs.Sets.{Gtids, gtid}
use Rattle.rows.specs.declared.change.Transaction.{Transaction}
use Rattle.rows.specs.declared.change.RowFault.{RowFault}
use Rattle.rows.specs.declared.schema.Table.{Table}
use Rattle.rows.specs.Apply.{Rows, apply}
use Rattle.rows.specs.WriteSet.{write_set}
use Rattle.rows.specs.Conflicts.{conflicts, conflicts_at}
use Rattle.journal.specs.declared.Entry.{Entry}
use Rattle.journal.specs.Journals.{JournalValue}
use Rattle.history.specs.Sources.{World, content, is_opened, of_source, entries_in}
use Rattle.history.specs.Sources as history
use Rattle.world.specs.declared.verdict.Verdict.{Verdict}
use Rattle.world.specs.declared.verdict.Verdict.TheVariants.{Unequal, Purged, Missing, Shared, NotClosed, DoesNotApply, Sound}
use Rattle.world.specs.Search.{or_next, when, first_at, first}
use Rattle.world.specs.Equal.{txn_eq}

-- ---- the world of a list of journals

abbrev pub all_entries : List JournalValue → List Entry
all_entries journals = flat_map (λ (j : JournalValue). j.entries) journals

-- each GTID beyond the opening set, with its first content
abbrev pub first_contents : Gtids → List Entry → finmap.FinMap gtid_cmp Transaction
first_contents opened [] = finmap.empty
first_contents opened (e ∷ es) = if set.contains opened e.gtid then first_contents opened es else finmap.insert (first_contents opened es) e.gtid e.txn

abbrev pub world_of : List Table → Gtids → Rows → List JournalValue → World
world_of schema opened rows journals = record {
  schema = schema;
  opening_set = opened;
  opening_rows = rows;
  contents = first_contents opened (all_entries journals);
}

-- ---- Unequal

-- the world has this transaction under this GTID
abbrev pub is_content : World → Entry → Bool
is_content world e = option_map_or (txn_eq e.txn) (content world e.gtid) false

abbrev pub is_unequal : World → Entry → Bool
is_unequal world e = not (is_opened world e.gtid) && not (is_content world e)

-- the first entry, in order of journals and entries, whose transaction is not the world's for its GTID
abbrev pub unequal : World → List JournalValue → Option Verdict
unequal world journals = first (λ (j : JournalValue). first (λ e. when (is_unequal world e) (Unequal e.gtid)) j.entries) journals

-- ---- Purged

-- the first journal whose previous set is not within the opening set, with what is missing
abbrev pub purged : World → List JournalValue → Option Verdict
purged world journals =
    first_at (λ i (j : JournalValue). when (not (set.is_subset j.previous world.opening_set)) (Purged i (set.difference j.previous world.opening_set))) journals

-- ---- Missing

-- one of these entries has this GTID
abbrev pub is_recorded_in : List Entry → Gtid → Bool
is_recorded_in entries g = list_any (λ (e : Entry). same_gtid g e.gtid) entries

-- what is in the journals beyond the opening set, in the order of GTIDs
abbrev pub present : World → List JournalValue → List history.Entry
present world journals = finmap.entries (first_contents world.opening_set (all_entries journals))

abbrev pub is_absent : World → List JournalValue → Gtid → Bool
is_absent world journals g = not (is_opened world g) && not (is_recorded_in (all_entries journals) g)

-- the lower numbers of the same source, ascending
abbrev pub below : Gtid → List Gtid
below g = map (gtid g.source) (range_with_len 1 (g.number - 1))

-- the least GTID that is in no journal though a greater number of its source is
abbrev pub missing : World → List JournalValue → Option Verdict
missing world journals = first (λ (g : history.Entry). first (λ h. when (is_absent world journals h) (Missing h)) (below g.0)) (present world journals)

-- ---- Shared

-- The least GTID that conflicts with one of a smaller source, the first of its keys at which one does, and the least GTID of a
-- smaller source that does so there. A world's transactions are in the order of GTIDs.
abbrev pub shared : World → Option Verdict
shared world =
    first (λ (h : history.Entry). first (λ key. first (λ (g : history.Entry).
    when (nat_lt g.0.source h.0.source && conflicts_at world.schema g.1 h.1 key) (Shared g.0 h.0 key))
    (finmap.entries world.contents)) (write_set world.schema h.1)) (finmap.entries world.contents)

-- ---- NotClosed

-- in the previous set, or earlier in the journal than a place
abbrev pub is_recorded_before : JournalValue → ℕ → Gtid → Bool
is_recorded_before journal place g = set.contains journal.previous g || is_recorded_in (take place journal.entries) g

-- h has a smaller number of the same source, conflicts with the entry, and does not come before it
abbrev pub is_left_out : World → JournalValue → ℕ → Entry → history.Entry → Bool
is_left_out world journal place e h =
    not (is_opened world e.gtid) && (h.0.source == e.gtid.source && (nat_lt h.0.number e.gtid.number && (conflicts world.schema h.1 e.txn && not (is_recorded_before journal place h.0))))

-- the first entry for which something is left out, and the least such
abbrev pub not_closed : World → List JournalValue → Option Verdict
not_closed world journals =
    first (λ (j : JournalValue). first_at (λ place (e : Entry). first (λ (h : history.Entry). when (is_left_out world j place e h) (NotClosed e.gtid h.0)) (finmap.entries world.contents)) j.entries) journals

-- ---- DoesNotApply

abbrev pub fault_after : history.Entry → Result Rows RowFault → (Rows → Option (Gtid × RowFault)) → Option (Gtid × RowFault)
fault_after e (Ok rows) more = more rows
fault_after e (Err fault) more = Some (e.0, fault)

-- the first of these that does not apply, one after another
abbrev pub first_fault : List Table → List history.Entry → Rows → Option (Gtid × RowFault)
first_fault schema [] rows = None
first_fault schema (e ∷ es) rows = fault_after e (apply schema e.1 rows) (first_fault schema es)

-- sources ascending, the first that fails in its own source's list taken alone from the opening rows
abbrev pub does_not_apply : World → Option Verdict
does_not_apply world =
    first (λ (e : history.Entry). option_map (λ fault. DoesNotApply fault.0 fault.1) (first_fault world.schema (entries_in world (of_source e.0.source)) world.opening_rows)) (finmap.entries world.contents)

-- ---- the verdict

-- what is found without looking at a key
abbrev pub found_in_gtids : World → List JournalValue → Option Verdict
found_in_gtids world journals = or_next (unequal world journals) (or_next (purged world journals) (missing world journals))

-- what is found without applying a transaction
abbrev pub found_in_keys : World → List JournalValue → Option Verdict
found_in_keys world journals =
    or_next (unequal world journals) (or_next (purged world journals) (or_next (missing world journals) (or_next (shared world) (not_closed world journals))))

abbrev pub verdict_of_keys : World → List JournalValue → Verdict
verdict_of_keys world journals = unwrap_or (found_in_keys world journals) Sound

-- the first of these that holds
abbrev pub verdict : World → List JournalValue → Verdict
verdict world journals = unwrap_or (or_next (found_in_keys world journals) (does_not_apply world)) Sound
