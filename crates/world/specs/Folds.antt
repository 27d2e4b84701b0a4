-- The same verdicts by one pass over the transactions in the order of GTIDs.
use Rattle.std.specs.Prelude.{◌≡◌, ℕ, Bool, false, not, ◌&&◌, ◌==◌, nat_lt, List, [], ◌∷◌, Option, Some, None, if◌then◌else◌}
use Rattle.std.specs.Option.{option_map, option_map_or}
use Rattle.std.specs.List.{filter, list_any}
use Rattle.std.specs.FinMap as finmap
use Rattle.gtid_text.specs.declared.Gtid.{Gtid}
use Rattle.rows.specs.declared.change.Key.{Key}
use Rattle.rows.specs.declared.schema.Table.{Table}
use Rattle.rows.specs.Order.{key_cmp}
use Rattle.rows.specs.WriteSet.{write_set, touches}
use Rattle.rows.specs.Apply.{Rows}
use Rattle.gtid_set.specs.Sets.{Gtids}
use Rattle.journal.specs.declared.Entry.{Entry}
use Rattle.journal.specs.Journals.{JournalValue}
use Rattle.history.specs.Sources.{World, is_opened, AreKeysSound}
use Rattle.history.specs.Sources as history
use Rattle.history.specs.LatestWriter.{latest}
use Rattle.world.specs.declared.verdict.Verdict.{Verdict}
use Rattle.world.specs.declared.verdict.Verdict.TheVariants.{Shared, NotClosed, DoesNotApply}
use Rattle.world.specs.Search.{or_next, when, first_at, first}
use Rattle.world.specs.Audit.{world_of, unequal, purged, shared, is_recorded_before, is_left_out, not_closed, first_fault, does_not_apply}

-- If the keys are sound, one pass over all transactions finds the first that fails in its own source's list.
abbrev pub OnePassApplies : Type 0
OnePassApplies = (world : World) → AreKeysSound world
    → does_not_apply world ≡ option_map (λ fault. DoesNotApply fault.0 fault.1) (first_fault world.schema (finmap.entries world.contents) world.opening_rows)

-- the first GTID that touched each key so far
abbrev pub FirstTouch : Type 0
FirstTouch = finmap.FinMap key_cmp Gtid

-- these keys were touched by g, unless something touched them before
abbrev pub touched_by : Gtid → List Key → FirstTouch → FirstTouch
touched_by g [] seen = seen
touched_by g (key ∷ keys) seen = touched_by g keys (if finmap.contains_key seen key then seen else finmap.insert seen key g)

-- a key that a smaller source touched first
abbrev pub shares_with : Gtid → Key → Option Gtid → Option Verdict
shares_with h key None = None
shares_with h key (Some g) = when (nat_lt g.source h.source) (Shared g h key)

-- the first of these that has a key which a smaller source touched
abbrev pub shared_from : List Table → FirstTouch → List history.Entry → Option Verdict
shared_from schema seen [] = None
shared_from schema seen (h ∷ es) =
    or_next (first (λ key. shares_with h.0 key (finmap.get seen key)) (write_set schema h.1))
    (shared_from schema (touched_by h.0 (write_set schema h.1) seen) es)

-- One pass finds what is shared.
abbrev pub OnePassShares : Type 0
OnePassShares = (world : World) → shared world ≡ shared_from world.schema finmap.empty (finmap.entries world.contents)

-- ---- what is left out

-- of a source's transactions with a smaller number, the last that touches a key
abbrev pub last_toucher : World → Gtid → Key → Option history.Entry
last_toucher world g key =
    latest (filter (λ (h : history.Entry). h.0.source == g.source && (nat_lt h.0.number g.number && touches world.schema h.1 key)) (finmap.entries world.contents))

-- one of the keys of an entry was touched last by a transaction that does not come before it
abbrev pub has_gap : World → JournalValue → ℕ → Entry → Bool
has_gap world journal place e =
    not (is_opened world e.gtid) && list_any (λ key. option_map_or (λ (h : history.Entry). not (is_recorded_before journal place h.0)) (last_toucher world e.gtid key) false) (write_set world.schema e.txn)

-- the least that is left out before an entry
abbrev pub least_left_out : World → JournalValue → ℕ → Entry → Option Verdict
least_left_out world journal place e = first (λ (h : history.Entry). when (is_left_out world journal place e h) (NotClosed e.gtid h.0)) (finmap.entries world.contents)

-- If the world is that of the journals and nothing was purged, the last toucher of each key is enough to find that something is left out;
-- the others are walked only to name it.
abbrev pub OnePassCloses : Type 0
OnePassCloses = (schema : List Table) (opened : Gtids) (rows : Rows) (journals : List JournalValue)
    → unequal (world_of schema opened rows journals) journals ≡ None → purged (world_of schema opened rows journals) journals ≡ None
    → not_closed (world_of schema opened rows journals) journals
    ≡ first (λ (j : JournalValue). first_at (λ place e. if has_gap (world_of schema opened rows journals) j place e then least_left_out (world_of schema opened rows journals) j place e else None) j.entries) journals
