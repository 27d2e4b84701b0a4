-- What can be served to a replica.
use Rattle.std.specs.Prelude.{◌≡◌, ℕ, ◌+◌, ◌<◌, ◌≤◌, Bool, true, false, List, [], ◌∷◌, ◌++◌, length, slice_get, is_some, Some}
use Rattle.std.specs.List.{list_all, list_any, AllByRecursion}
use Rattle.std.specs.FinSet as set
use Rattle.rows.specs.declared.schema.Table.{Table}
use Rattle.rows.specs.Fits.{Fits}
use Rattle.gtid_set.specs.Sets.{Gtids}
use Rattle.journal.specs.declared.Entry.{Entry}
use Rattle.journal.specs.Journals.{JournalValue}
use Rattle.journal.specs.Writing.{is_number}
use Rattle.apply_channel.specs.Channels.{ChannelValue, same_name, most_received}
use Rattle.replica_core.specs.State.{State, Replica}
use Rattle.txn_journal.specs.Assumptions.{has_channel}
use Rattle.txn_journal.specs.BundleStates.{BundleValue}
use Rattle.txn_journal.specs.declared.bundle.BundleChannel.{BundleChannel}
use Rattle.serving.specs.Verdicts.{names_of, names_asked}

-- ---- a bundle

-- there is a channel for each journal, with a name that none before it has
abbrev pub HaveChannels : List BundleChannel → List BundleChannel → List JournalValue → Type 0
HaveChannels before channels [] = Unit {0}
HaveChannels before [] (j ∷ js) = ⊥
HaveChannels before (c ∷ cs) (j ∷ js) = (has_channel before c.name ≡ false) × HaveChannels (before ++ c ∷ []) cs js

-- the schema takes each transaction of a journal
abbrev pub FitsJournal : List Table → JournalValue → Type 0
FitsJournal schema journal = AllByRecursion (λ (e : Entry). Fits schema e.txn) journal.entries

-- the tables of a bundle take each transaction of its journals
abbrev pub IsFitting : BundleValue → Type 0
IsFitting b = AllByRecursion (FitsJournal b.start.schema) b.journals

-- a channel has room for the entries of a journal
abbrev pub HasRoom : JournalValue → Type 0
HasRoom journal = length journal.entries ≤ most_received

-- At most 256 journals, each with a channel of its own name. The tables take their transactions, and a channel has room for the entries of each.
pub record IsServable (b : BundleValue) : Type 0 where
  pub few : length b.journals ≤ 256
  pub have : HaveChannels [] b.channels b.journals
  pub fits : IsFitting b
  pub room : AllByRecursion HasRoom b.journals

-- what was purged of each journal is in the opening set, so that its source sends it to the replica
abbrev pub can_be_sent : BundleValue → Bool
can_be_sent b = list_all (λ (j : JournalValue). set.is_subset j.previous b.opened) b.journals

-- ---- a replica

-- a channel of this name can be opened
pub record CanOpen (name : List ℕ) (s : State) : Type 0 where
  pub new : list_any (λ (c : ChannelValue). same_name c.name name) s.channels ≡ false
  pub few : length s.channels < 256

-- a channel is there
abbrev pub IsOpen : ℕ → State → Type 0
IsOpen c s = is_some (slice_get s.channels c) ≡ true

-- the schema takes an entry, and its number is in range
pub record IsTaken (schema : List Table) (e : Entry) : Type 0 where
  pub fits : Fits schema e.txn
  pub number : is_number e.gtid.number ≡ true

-- a channel has asked, and has room for these entries, which the schema takes
pub record CanReceive (c : ℕ) (entries : List Entry) (r : Replica) : Type 0 where
  pub channel : ChannelValue
  pub at : slice_get r.state.channels c ≡ Some channel
  pub asked : is_some channel.asked ≡ true
  pub room : length channel.received + length entries ≤ most_received
  pub taken : AllByRecursion (IsTaken r.site.schema) entries

-- what is purged of a journal is executed, the schema takes its entries, and a new channel has room for them
pub record CanSend (schema : List Table) (executed : Gtids) (journal : JournalValue) : Type 0 where
  pub unpurged : set.is_subset journal.previous executed ≡ true
  pub taken : AllByRecursion (IsTaken schema) journal.entries
  pub room : HasRoom journal

-- the next channel can be opened under this name, and served this journal
pub record CanServe (c : ℕ) (name : List ℕ) (journal : JournalValue) (r : Replica) : Type 0 where
  pub next : length r.state.channels ≡ c
  pub opens : CanOpen name r.state
  pub sends : CanSend r.site.schema r.state.executed journal

-- the next channels can be opened, and served these journals
pub record CanServeEach (c : ℕ) (channels : List BundleChannel) (journals : List JournalValue) (r : Replica) : Type 0 where
  pub before : List BundleChannel
  pub named : names_of r.state.channels ≡ names_asked before
  pub next : length r.state.channels ≡ c
  pub few : c + length journals ≤ 256
  pub have : HaveChannels before channels journals
  pub send : AllByRecursion (CanSend r.site.schema r.state.executed) journals
