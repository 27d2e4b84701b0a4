-- The last writers of the keys of an open journal.
use Rattle.std.specs.Prelude.{◌≡◌, List, Option, Some}
use Rattle.rows.specs.declared.schema.Table.{Table}
use Rattle.journal.specs.declared.Entry.{Entry}
use Rattle.logical_timestamps.specs.Writers.{Writers, writers_after}

-- the table, if it is kept, is that of these entries
abbrev pub AreWriters : List Table → List Entry → Option Writers → Type 0
AreWriters tables es kept = (writers : Writers) → kept ≡ Some writers → writers ≡ writers_after tables es
