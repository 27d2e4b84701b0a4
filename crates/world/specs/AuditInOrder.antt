-- What an audit of journals in one order finds. Nothing is required of sources.
use Rattle.std.specs.Prelude.{Bool, not, ◌&&◌, if◌then◌else◌, List, take, Option, Some, None}
use Rattle.std.specs.Option.{option_map, unwrap_or}
use Rattle.gtid_text.specs.declared.Gtid.{Gtid}
use Rattle.gtid_text.specs.Gtids.{same_gtid}
use Rattle.rows.specs.declared.change.Key.{Key}
use Rattle.rows.specs.declared.change.Transaction.{Transaction}
use Rattle.rows.specs.declared.schema.Table.{Table}
use Rattle.rows.specs.WriteSet.{write_set}
use Rattle.rows.specs.Conflicts.{conflicts_at}
use Rattle.journal.specs.Journals.{JournalValue}
use Rattle.history.specs.Sources.{World}
use Rattle.world.specs.declared.verdict.Verdict.{Verdict}
use Rattle.world.specs.declared.verdict.Verdict.TheVariants.{Reordered, NotClosed, Concurrent, DoesNotApply, Sound}
use Rattle.world.specs.Search.{or_next, when, first_at, first}
use Rattle.world.specs.Audit.{unequal, purged, missing, first_fault}
use Rattle.history.specs.World.{Entry}
use Rattle.history.specs.Histories.{History, has, order_of}
use Rattle.world.specs.Bundles.{histories_of}

-- ---- Reordered, NotClosed, Concurrent

-- the first of an order that conflicts with u at a key of u's, as u itself does, and is not among these
abbrev pub next_of : List Table → List Entry → Transaction → Key → List Entry → Option Entry
next_of schema order u key before = first (λ (g : Entry). when (conflicts_at schema g.1 u key && not (has before g.0)) g) order

-- the first history that has a GTID
abbrev pub bringer : List History → Gtid → Option History
bringer hs g = first (λ (h : History). when (has h g) h) hs

-- what is wrong with two that conflict at a key: history a brought g, and h has e without g before it
abbrev pub pair_fault : History → History → Gtid → Gtid → Key → Verdict
pair_fault a h g e key =
    if has a e
    then if has h g then Reordered g e key else NotClosed e g
    else if has h g then NotClosed g e else Concurrent g e key

-- what is wrong with e in history h, if this is the next of a key
abbrev pub fault_with : List History → History → Gtid → Key → Option Entry → Option Verdict
fault_with hs h e key None = None
fault_with hs h e key (Some g) = if same_gtid g.0 e then None else option_map (λ a. pair_fault a h g.0 e key) (bringer hs g.0)

-- The histories are joined to one order: each in turn, what it has beyond the earlier ones. The first entry, in order of histories,
-- entries and keys, that is not the next of its key in that order, the pair being named by that entry and the next.
abbrev pub conflict : List Table → List History → Option Verdict
conflict schema hs =
    first (λ (h : History). first_at (λ place (e : Entry). first (λ key. fault_with hs h e.0 key (next_of schema (order_of hs) e.1 key (take place h))) (write_set schema e.1)) h) hs

-- ---- DoesNotApply

-- the first that fails when the order is applied as a whole from the opening rows
abbrev pub fails_in_order : World → List JournalValue → Option Verdict
fails_in_order world journals =
    option_map (λ fault. DoesNotApply fault.0 fault.1) (first_fault world.schema (order_of (histories_of world.opening_set journals)) world.opening_rows)

-- ---- the verdict

-- what is found without applying a transaction
abbrev pub found_in_keys_in_order : World → List JournalValue → Option Verdict
found_in_keys_in_order world journals =
    or_next (unequal world journals) (or_next (purged world journals) (or_next (missing world journals) (conflict world.schema (histories_of world.opening_set journals))))

abbrev pub verdict_of_keys_in_order : World → List JournalValue → Verdict
verdict_of_keys_in_order world journals = unwrap_or (found_in_keys_in_order world journals) Sound

-- the first of these that holds
abbrev pub verdict_in_order : World → List JournalValue → Verdict
verdict_in_order world journals = unwrap_or (or_next (found_in_keys_in_order world journals) (fails_in_order world journals)) Sound
