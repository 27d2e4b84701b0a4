-- What `position` prints. The words and their order are our own.
use Rattle.std.specs.Prelude.{ℕ, List, [], ◌∷◌, ◌++◌, codes, decimal, flat_map, length}
use Rattle.gtid_text.specs.Canonical.{gtid_text}
use Rattle.gtid_set.specs.Sets.{Gtids}
use Rattle.journal.specs.declared.Entry.{Entry}
use Rattle.txn_journal.specs.WrittenSets.{set_text}

-- the GTID of an entry on a line of its own
abbrev pub entry_line : Entry → List ℕ
entry_line e = gtid_text e.gtid ++ 10 ∷ []

-- how many entries are sent, and their GTIDs in order
abbrev pub sending_text : List Entry → List ℕ
sending_text entries = (codes "send " ++ decimal (length entries) ++ 10 ∷ []) ++ flat_map entry_line entries

-- what was purged and is asked for
abbrev pub required_line : Gtids → List ℕ
required_line gtids = codes "refused E19 purged " ++ set_text gtids

-- what the replica has of the source's own, and the source has no record of
abbrev pub more_line : Gtids → List ℕ
more_line gtids = codes "refused E20 has-more " ++ set_text gtids
