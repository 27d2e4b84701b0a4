-- What each verdict names.
use Rattle.std.specs.Prelude.{◌≡◌, ◌≢◌, ℕ, ◌<◌, true, false, List, ◌∷◌, ◌++◌, Some, Ok, Err, slice_get}
use Rattle.std.specs.FinSet as set
use Rattle.gtid_text.specs.declared.Gtid.{Gtid}
use Rattle.gtid_set.specs.Sets.{Gtids}
use Rattle.rows.specs.declared.change.Key.{Key}
use Rattle.rows.specs.declared.change.Transaction.{Transaction}
use Rattle.rows.specs.declared.change.RowFault.{RowFault}
use Rattle.rows.specs.Apply.{Rows, apply}
use Rattle.rows.specs.Conflicts.{conflicts, conflicts_at}
use Rattle.journal.specs.declared.Entry.{Entry}
use Rattle.journal.specs.Journals.{JournalValue}
use Rattle.history.specs.Sources.{World, content, is_opened, of_source, entries_in, apply_all}
use Rattle.history.specs.Sources as history
use Rattle.world.specs.declared.verdict.Verdict.{Verdict}
use Rattle.world.specs.declared.verdict.Verdict.TheVariants.{Unequal, Purged, Missing, Shared, Reordered, NotClosed, Concurrent, DoesNotApply, Sound}
use Rattle.world.specs.Audit.{all_entries, is_recorded_in, is_recorded_before, verdict}

-- an entry of a journal
pub record IsEntryOf (journals : List JournalValue) (e : Entry) : Type 0 where
  pub number : ℕ
  pub journal : JournalValue
  pub place : ℕ
  pub listed : slice_get journals number ≡ Some journal
  pub there : slice_get journal.entries place ≡ Some e

-- a journal has another transaction than the world under this GTID
pub record DiffersAt (world : World) (journals : List JournalValue) (g : Gtid) : Type 0 where
  pub entry : Entry
  pub there : IsEntryOf journals entry
  pub named : entry.gtid ≡ g
  pub new : is_opened world g ≡ false
  pub differs : content world g ≢ Some entry.txn

-- the previous set of this journal goes beyond the opening set by these
pub record IsPurged (world : World) (journals : List JournalValue) (i : ℕ) (gtids : Gtids) : Type 0 where
  pub journal : JournalValue
  pub there : slice_get journals i ≡ Some journal
  pub named : gtids ≡ set.difference journal.previous world.opening_set
  pub more : set.is_subset journal.previous world.opening_set ≡ false

-- no journal has this GTID, and one has a greater number of its source
pub record IsMissing (world : World) (journals : List JournalValue) (g : Gtid) : Type 0 where
  pub new : is_opened world g ≡ false
  pub absent : is_recorded_in (all_entries journals) g ≡ false
  pub positive : 0 < g.number
  pub greater : Gtid
  pub beyond : is_opened world greater ≡ false
  pub there : is_recorded_in (all_entries journals) greater ≡ true
  pub same : greater.source ≡ g.source
  pub below : g.number < greater.number

-- transactions of two sources conflict at this key
pub record IsShared (world : World) (g h : Gtid) (key : Key) : Type 0 where
  pub t : Transaction
  pub u : Transaction
  pub first : content world g ≡ Some t
  pub second : content world h ≡ Some u
  pub smaller : g.source < h.source
  pub conflict : conflicts_at world.schema t u key ≡ true

-- h comes before g in its source, conflicts with it, and does not come before it in a journal
pub record IsLeftOut (world : World) (journals : List JournalValue) (g h : Gtid) : Type 0 where
  pub entry : Entry
  pub there : IsEntryOf journals entry
  pub named : entry.gtid ≡ g
  pub u : Transaction
  pub content : content world h ≡ Some u
  pub source : h.source ≡ g.source
  pub smaller : h.number < g.number
  pub shares : conflicts world.schema u entry.txn ≡ true
  pub left_out : is_recorded_before there.journal there.place h ≡ false

-- after the earlier transactions of its source, taken alone, this one is refused
pub record Fails (world : World) (g : Gtid) (fault : RowFault) : Type 0 where
  pub before : List history.Entry
  pub later : List history.Entry
  pub t : Transaction
  pub rows : Rows
  pub source : ℕ
  pub parts : entries_in world (of_source source) ≡ before ++ (g, t) ∷ later
  pub reached : apply_all world.schema before world.opening_rows ≡ Ok rows
  pub refused : apply world.schema t rows ≡ Err fault

-- Two of the verdicts are those of the audit in one order, and never of this one.
abbrev pub NamesFault : World → List JournalValue → Verdict → Type 0
NamesFault world journals (Unequal g) = DiffersAt world journals g
NamesFault world journals (Purged i gtids) = IsPurged world journals i gtids
NamesFault world journals (Missing g) = IsMissing world journals g
NamesFault world journals (Shared g h key) = IsShared world g h key
NamesFault world journals (Reordered g h key) = ⊥
NamesFault world journals (NotClosed g h) = IsLeftOut world journals g h
NamesFault world journals (Concurrent g h key) = ⊥
NamesFault world journals (DoesNotApply g fault) = Fails world g fault
NamesFault world journals Sound = Unit {0}

-- Each verdict but Sound names a fault that is there, in every world.
abbrev pub VerdictsNameFaults : Type 0
VerdictsNameFaults = (world : World) (journals : List JournalValue) → NamesFault world journals (verdict world journals)
