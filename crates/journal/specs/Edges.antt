-- Where membership changes in the sets that are made of a journal's.
use Rattle.std.specs.Prelude.{List}
use Rattle.std.specs.List.{AllByRecursion}
use Rattle.gtid_set.specs.Sets.{Gtids}
use Rattle.gtid_set.specs.Edges.{HasEdges, HasEnds}
use Rattle.journal.specs.declared.Entry.{Entry}
use Rattle.journal.specs.Journals.{JournalValue}

-- the GTID of each entry and the next are among these places
abbrev pub HasEndsOf : Gtids → List Entry → Type 0
HasEndsOf places entries = AllByRecursion (λ (e : Entry). HasEnds places e.gtid) entries

-- the GTID of each entry and the next, and the edges of the previous set, are among these places: so are those of any set that is made of
-- it and of some of the entries
pub record HasEdgesOf (places : Gtids) (journal : JournalValue) : Type 0 where
  pub previous : HasEdges places journal.previous
  pub entries : HasEndsOf places journal.entries
