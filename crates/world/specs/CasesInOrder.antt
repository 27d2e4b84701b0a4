-- What each verdict of an audit in one order names.
use Rattle.std.specs.Prelude.{◌≡◌, true, List, ◌∷◌, ◌++◌, Ok, Err}
use Rattle.gtid_text.specs.declared.Gtid.{Gtid}
use Rattle.rows.specs.declared.change.Key.{Key}
use Rattle.rows.specs.declared.change.RowFault.{RowFault}
use Rattle.rows.specs.declared.change.Transaction.{Transaction}
use Rattle.rows.specs.declared.schema.Table.{Table}
use Rattle.rows.specs.Apply.{Rows, apply}
use Rattle.rows.specs.Conflicts.{conflicts_at}
use Rattle.journal.specs.Journals.{JournalValue}
use Rattle.gtid_set.specs.Sets.{Gtids}
use Rattle.history.specs.Sources as source
use Rattle.world.specs.declared.verdict.Verdict.{Verdict}
use Rattle.world.specs.declared.verdict.Verdict.TheVariants.{Unequal, Purged, Missing, Shared, Reordered, NotClosed, Concurrent, DoesNotApply, Sound}
use Rattle.world.specs.Audit as sources
use Rattle.world.specs.Cases.{DiffersAt, IsPurged, IsMissing}
use Rattle.world.specs.Meaning.{AreJournals}
use Rattle.history.specs.World.{Entry, apply_all}
use Rattle.history.specs.Histories.{History, IsAmong, order_of, IsReordered, LeavesOut, AreConcurrent}
use Rattle.world.specs.Bundles.{histories_of}
use Rattle.world.specs.AuditInOrder.{verdict_in_order}

-- This holds of two of the histories and two entries with these GTIDs.
pub record OfTwo (P : History → History → Entry → Entry → Type 0) (hs : List History) (g h : Gtid) : Type 0 where
  pub first : History
  pub second : History
  pub first_among : IsAmong first hs
  pub second_among : IsAmong second hs
  pub t : Transaction
  pub u : Transaction
  pub stands : P first second (g, t) (h, u)

-- a fault of two that conflict at this key
pub record AtKey (schema : List Table) (key : Key) (P : History → History → Entry → Entry → Type 0) (a b : History) (e f : Entry) : Type 0 where
  pub fault : P a b e f
  pub conflict : conflicts_at schema e.1 f.1 key ≡ true

-- after the earlier transactions of the order this one is refused
pub record FailsInOrder (schema : List Table) (rows : Rows) (order : List Entry) (g : Gtid) (fault : RowFault) : Type 0 where
  pub before : List Entry
  pub later : List Entry
  pub t : Transaction
  pub reached_rows : Rows
  pub parts : order ≡ before ++ (g, t) ∷ later
  pub reached : apply_all schema before rows ≡ Ok reached_rows
  pub refused : apply schema t reached_rows ≡ Err fault

-- Reordered g h: one history has g before h, and another h before g. NotClosed g h: one has h before g, and another g without h.
-- Concurrent g h: one has g without h, and another h without g. Shared is a verdict of the audit of sources, and never of this one.
abbrev pub NamesFaultInOrder : source.World → List JournalValue → Verdict → Type 0
NamesFaultInOrder world journals (Unequal g) = DiffersAt world journals g
NamesFaultInOrder world journals (Purged i gtids) = IsPurged world journals i gtids
NamesFaultInOrder world journals (Missing g) = IsMissing world journals g
NamesFaultInOrder world journals (Shared g h key) = ⊥
NamesFaultInOrder world journals (Reordered g h key) = OfTwo (AtKey world.schema key (IsReordered world.schema)) (histories_of world.opening_set journals) g h
NamesFaultInOrder world journals (NotClosed g h) = OfTwo (LeavesOut world.schema) (histories_of world.opening_set journals) h g
NamesFaultInOrder world journals (Concurrent g h key) = OfTwo (AtKey world.schema key (AreConcurrent world.schema)) (histories_of world.opening_set journals) g h
NamesFaultInOrder world journals (DoesNotApply g fault) = FailsInOrder world.schema world.opening_rows (order_of (histories_of world.opening_set journals)) g fault
NamesFaultInOrder world journals Sound = Unit {0}

-- Each verdict but Sound names a fault that is there, in the world of the journals.
abbrev pub VerdictsNameFaultsInOrder : Type 0
VerdictsNameFaultsInOrder = (schema : List Table) (opened : Gtids) (rows : Rows) (journals : List JournalValue) → AreJournals journals
    → NamesFaultInOrder (sources.world_of schema opened rows journals) journals (verdict_in_order (sources.world_of schema opened rows journals) journals)
