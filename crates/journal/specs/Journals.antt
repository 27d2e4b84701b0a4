-- A journal: the set executed before it, and its entries in order. (MySQL 8.0 Reference Manual, "GTID Life Cycle".)
use Rattle.std.specs.Prelude.{◌≡◌, true, false, List, [], ◌∷◌, map, ℕ, take}
use Rattle.std.specs.List.{list_all}
use Rattle.std.specs.FinSet as set
use Rattle.gtid_set.specs.Laws.{HaveNumbers}
use Rattle.gtid_set.specs.Sets.{Gtids}
use Rattle.journal.specs.declared.Entry.{Entry}
use Rattle.rows.specs.declared.limits.Limits.TheVariants.{Wide}
use Rattle.journal.specs.Writing.{is_writable}

pub record JournalValue : Type 0 where
  pub previous : Gtids
  pub entries : List Entry

-- the GTIDs of entries
abbrev pub gtids_of : List Entry → Gtids
gtids_of entries = set.from_list (map (λ e. e.gtid) entries)

-- all that was executed: the previous set with the GTIDs of the entries
abbrev pub whole : JournalValue → Gtids
whole journal = set.union journal.previous (gtids_of journal.entries)

-- the previous set once the first entries are purged
abbrev pub previous_after_purge : ℕ → JournalValue → Gtids
previous_after_purge count journal = set.union journal.previous (gtids_of (take count journal.entries))

-- each GTID is new: neither in this set nor that of an earlier entry
abbrev pub AreNew : Gtids → List Entry → Type 0
AreNew seen [] = Unit {0}
AreNew seen (entry ∷ entries) = (set.contains seen entry.gtid ≡ false) × AreNew (set.insert seen entry.gtid) entries

-- what a journal keeps: transactions may have the numbers of its previous set, no GTID occurs twice or in that set, and each entry can be written
pub record IsJournal (previous : Gtids) (entries : List Entry) : Type 0 where
  pub numbers : HaveNumbers previous
  pub new : AreNew previous entries
  pub writable : list_all (is_writable Wide) entries ≡ true
