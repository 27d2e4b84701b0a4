-- What a world of sources means as a world in one order, in the words of sources and numbers.
use Rattle.std.specs.Prelude.{◌≡◌, Bool, ◌↔◌}
use Rattle.gtid_text.specs.declared.Gtid.{Gtid}
use Rattle.rows.specs.declared.change.Key.{Key}
use Rattle.journal.specs.Journals.{JournalValue}
use Rattle.history.specs.SourceJournals.{IsFaithful, IsFaithfulBySource}
use Rattle.history.specs.World as ordered
use Rattle.history.specs.LastWriter as ordered_writer
use Rattle.history.specs.Sources as sources
use Rattle.history.specs.Sources.{World, in_order}
use Rattle.history.specs.LatestWriter.{last_writer}

-- The order has the world's contents, and if the keys are sound, its GTIDs are.
abbrev pub ContentsInOrder : Type 0
ContentsInOrder = (world : World) (g : Gtid) → ordered.content (in_order world) g ≡ sources.content world g

abbrev pub GtidsInOrder : Type 0
GtidsInOrder = (world : World) → sources.AreKeysSound world → ordered.AreGtidsSound (in_order world)

-- If the keys are sound, the order is sound if and only if what each source committed, taken alone, applies.
abbrev pub SoundBySource : Type 0
SoundBySource = (world : World) → sources.AreKeysSound world → sources.IsSound world ↔ ordered.IsSound (in_order world)

-- A set is closed in the order if and only if it is closed by source.
abbrev pub ClosedBySource : Type 0
ClosedBySource = (world : World) (S : Gtid → Bool) → sources.AreKeysSound world → sources.IsClosedBySource world S ↔ sources.IsClosed world S

-- So is a journal faithful.
abbrev pub FaithfulBySource : Type 0
FaithfulBySource = (world : World) (journal : JournalValue) → sources.AreKeysSound world → IsFaithfulBySource world journal ↔ IsFaithful world journal

-- The last writer of a key in the order is the one with the greatest number.
abbrev pub LastWriterByNumber : Type 0
LastWriterByNumber = (world : World) (S : Gtid → Bool) (k : Key) → sources.AreKeysSound world → ordered_writer.last_writer (in_order world) S k ≡ last_writer world S k
