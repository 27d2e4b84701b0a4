-- What a binary log tells, one event after another. A line of its text, and an event of its files, tell some of these, in order.
use Rattle.std.specs.Prelude.{ℕ, Bool, List, Option}
use Rattle.collations.specs.declared.collation.Collation.{Collation}
use Rattle.gtid_text.specs.declared.Gtid.{Gtid}
use Rattle.gtid_set.specs.Sets.{Gtids}
use Rattle.rows.specs.declared.change.Change.{Change}

-- A file begins with the set that was executed before it, and these are GTIDs of that set. A transaction has this GTID, and begins. It maps
-- a table of a database, by their names, and the table that it maps has so many columns. A column of a table, counted from 0, is compared
-- otherwise than by its bytes: by this collation, where it is one whose weights are known. A rows event comes, which ends its statement or doesn't. A row is changed.
-- A savepoint is set. The transaction commits. A statement of maintenance is a transaction without changes. A file, or the log, ends.
pub data Event : Type 0 where
  Opens : Event
  Precedes : Gtids → Event
  Names : Gtid → Event
  Begins : Event
  Maps : List ℕ → List ℕ → Event
  Columns : ℕ → Event
  Varies : List ℕ → ℕ → Option Collation → Event
  Rows : Bool → Event
  Row : Change → Event
  Savepoint : Event
  Commits : Event
  Maintains : Event
  Ends : Event
