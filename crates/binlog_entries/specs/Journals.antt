-- Why a log is no journal.
use Rattle.std.specs.List.{list_all}
use Rattle.std.specs.Prelude.{◌≡◌, Bool, true, false, Some, List, [], ◌∷◌, ◌++◌}
use Rattle.std.specs.FinSet as set
use Rattle.gtid_set.specs.declared.fault.SetFault.TheVariants.{PoolFull, SourcesFull}
use Rattle.gtid_set.specs.Full.{HasManySources, HasManyIntervals, IsMemoryOr}
use Rattle.gtid_set.specs.Sets.{Gtids}
use Rattle.journal.specs.declared.Entry.{Entry}
use Rattle.journal.specs.Writing.{is_number, is_writable}
use Rattle.binlog_entries.specs.Limits.{limit_of}
use Rattle.binlog_entries.specs.declared.as_journal.LogFault.{LogFault}
use Rattle.binlog_entries.specs.declared.as_journal.LogFault.TheVariants as faults
use Rattle.rows.specs.declared.limits.Limits.TheVariants.{Wide}

-- the numbers of the entries are those of transactions
abbrev pub are_numbered : List Entry → Bool
are_numbered entries = list_all (λ e. is_number e.gtid.number) entries

-- an entry that is no larger than one may be follows, if these GTIDs were seen, and its own was not
abbrev pub MayFollow : Gtids → Entry → Type 0
MayFollow seen e = (set.contains seen e.gtid ≡ false) × (is_writable Wide e ≡ true)

-- why an entry does not follow, if these GTIDs were seen: one that may has too many sources or intervals with them, or out of memory
abbrev pub MayNotFollow : LogFault → Gtids → Entry → Type 0
MayNotFollow (faults.Set fault) seen e =
    IsMemoryOr (MayFollow seen e × HasManySources (set.insert seen e.gtid)) (MayFollow seen e × HasManyIntervals (set.insert seen e.gtid)) fault
MayNotFollow (faults.Twice gtid) seen e = (gtid ≡ e.gtid) × (set.contains seen e.gtid ≡ true)
MayNotFollow (faults.TooLarge gtid limit) seen e = (gtid ≡ e.gtid) × (set.contains seen e.gtid ≡ false) × (limit_of e ≡ Some limit)

-- what was seen, with the GTIDs of entries
abbrev pub seen_behind : Gtids → List Entry → Gtids
seen_behind seen [] = seen
seen_behind seen (e ∷ es) = seen_behind (set.insert seen e.gtid) es

-- each of the entries may follow those before it
abbrev pub AllFollow : Gtids → List Entry → Type 0
AllFollow seen [] = Unit {0}
AllFollow seen (e ∷ es) = MayFollow seen e × AllFollow (set.insert seen e.gtid) es

-- the first of the entries that does not follow those before it has this fault
pub record HasUnfit (fault : LogFault) (previous : Gtids) (entries : List Entry) : Type 0 where
  pub before : List Entry
  pub entry : Entry
  pub behind : List Entry
  pub parts : entries ≡ before ++ entry ∷ behind
  pub follow : AllFollow previous before
  pub refused : MayNotFollow fault (seen_behind previous before) entry

-- if out of memory, nothing is claimed of them
abbrev pub IsNoJournal : LogFault → Gtids → List Entry → Type 0
IsNoJournal (faults.Set fault) previous entries = IsMemoryOr (HasUnfit (faults.Set SourcesFull) previous entries) (HasUnfit (faults.Set PoolFull) previous entries) fault
IsNoJournal (faults.Twice gtid) previous entries = HasUnfit (faults.Twice gtid) previous entries
IsNoJournal (faults.TooLarge gtid limit) previous entries = HasUnfit (faults.TooLarge gtid limit) previous entries
