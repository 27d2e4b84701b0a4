-- Why journals are not served.
use Rattle.std.specs.Prelude.{◌≡◌, ℕ, ◌<◌, true, List, slice_get, Some}
use Rattle.std.specs.List.{AllByRecursion}
use Rattle.std.specs.FinSet as set
use Rattle.gtid_text.specs.declared.Gtid.{Gtid}
use Rattle.gtid_set.specs.declared.fault.SetFault.{SetFault}
use Rattle.gtid_set.specs.Full.{most_intervals, HasManySources, IsMemoryOr}
use Rattle.gtid_set.specs.Edges.{HasEdges, HasEnds, AreManyEdges}
use Rattle.gtid_set.specs.Sets.{Gtids}
use Rattle.journal.specs.declared.Entry.{Entry}
use Rattle.journal.specs.Journals.{JournalValue}
use Rattle.audit.specs.Faults.{intervals_of}
use Rattle.apply_channel.specs.Channels.{ChannelValue, Received}
use Rattle.replica_core.specs.State.{State}
use Rattle.convergence.specs.Deciding.{all_of}
use Rattle.txn_journal.specs.BundleStates.{BundleValue}

-- GTIDs that the sets of a run may have, and the places at which membership in them may change
pub record Cover : Type 0 where
  pub all : Gtids
  pub places : Gtids

-- Out of memory; or whatever covers this has too many sources; or it has more places than the edges of any set that has not too many
-- intervals.
abbrev pub IsFaultWhere : (Cover → Type 0) → SetFault → Type 0
IsFaultWhere Covers f = IsMemoryOr ((cover : Cover) → Covers cover → HasManySources cover.all) ((cover : Cover) → Covers cover → AreManyEdges cover.places) f

-- a GTID is covered
pub record HasGtid (cover : Cover) (g : Gtid) : Type 0 where
  pub in_all : set.contains cover.all g ≡ true
  pub ends : HasEnds cover.places g

-- a set is covered
pub record HasSet (cover : Cover) (s : Gtids) : Type 0 where
  pub in_all : (g : Gtid) → set.contains s g ≡ true → set.contains cover.all g ≡ true
  pub edges : HasEdges cover.places s

-- a GTID is that of a received entry
abbrev pub IsAmong : Gtid → List Received → Type 0
IsAmong g received = (p : ℕ) × (e : Received) × (slice_get received p ≡ Some e) × (e.gtid ≡ g)

-- a GTID was received on some channel
abbrev pub IsReceived : State → Gtid → Type 0
IsReceived s g = (c : ℕ) × (channel : ChannelValue) × (slice_get s.channels c ≡ Some channel) × IsAmong g channel.received

-- what is executed and what was received is covered
pub record Knows (s : State) (cover : Cover) : Type 0 where
  pub executed : HasSet cover s.executed
  pub received : (g : Gtid) → IsReceived s g → HasGtid cover g

-- the GTIDs of these entries are covered
abbrev pub HasEntries : Cover → List Entry → Type 0
HasEntries cover entries = AllByRecursion (λ (e : Entry). HasGtid cover e.gtid) entries

abbrev pub KnowsWith : State → List Entry → Cover → Type 0
KnowsWith s entries cover = Knows s cover × HasEntries cover entries

-- the entries of a journal are covered, and the edges of its previous set
pub record HasJournal (cover : Cover) (journal : JournalValue) : Type 0 where
  pub previous : HasEdges cover.places journal.previous
  pub entries : HasEntries cover journal.entries

-- what the state has is covered, and so are these journals
abbrev pub KnowsToo : State → List JournalValue → Cover → Type 0
KnowsToo s journals cover = Knows s cover × AllByRecursion (HasJournal cover) journals

-- ---- of a bundle

-- out of memory; or the GTIDs of all journals together have too many sources; or their intervals and entries together are too many
abbrev pub IsBundleFault : BundleValue → SetFault → Type 0
IsBundleFault b f = IsMemoryOr (HasManySources (all_of b.opened b.journals)) (most_intervals < intervals_of b.opened b.journals) f

-- the same of its audit, which makes no set but the one that its verdict names
abbrev pub IsVerdictFault : BundleValue → SetFault → Type 0
IsVerdictFault b f = IsMemoryOr ⊥ (most_intervals < intervals_of b.opened b.journals) f
