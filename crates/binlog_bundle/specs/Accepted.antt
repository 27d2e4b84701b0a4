-- For the statements of which transactions of a log an operator answers.
use Rattle.std.specs.Prelude.{ℕ, ◌==◌, ◌&&◌, Bool, List, length, map}
use Rattle.std.specs.FinSet as set
use Rattle.std.specs.List.{filter}
use Rattle.gtid_set.specs.Sets.{Gtids}
use Rattle.journal.specs.declared.Entry.{Entry}

-- the entry has no changes, and its GTID is one of the set that is accepted
abbrev pub is_accepted : Gtids → Entry → Bool
is_accepted accepted e = (length e.txn.changes == 0) && set.contains accepted e.gtid

-- the GTIDs of these entries
abbrev pub accepted_in : Gtids → List Entry → Gtids
accepted_in accepted entries = set.from_list (map (λ e. e.gtid) (filter (is_accepted accepted) entries))
