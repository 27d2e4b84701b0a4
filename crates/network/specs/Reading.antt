-- How far the channels of a network are known to have read the binary logs of their sources. A network keeps it, so that a Receive
-- does not look at the same entry again and again; no answer depends on it.
use Rattle.std.specs.Prelude.{◌≡◌, ℕ, ◌-◌, ◌≤◌, ◌==◌, Bool, true, false, not, if◌then◌else◌, find, List, length, take, Option, Some, None, slice_get, nat_le}
use Rattle.std.specs.Option.{option_map_or}
use Rattle.std.specs.List.{list_all}
use Rattle.std.specs.Ordering.{nat_cmp}
use Rattle.std.specs.FinMap as finmap
use Rattle.std.specs.FinSet as set
use Rattle.gtid_set.specs.Sets.{Gtids}
use Rattle.journal.specs.declared.Entry.{Entry}
use Rattle.journal.specs.Journals.{JournalValue}
use Rattle.apply_channel.specs.Channels.{ChannelValue}
use Rattle.network.specs.Nodes.{Node, Sources}
use Rattle.network.specs.Machine.{come}

-- the place that each channel has read to, if it is known
abbrev pub Places : Type 0
Places = finmap.FinMap nat_cmp ℕ

abbrev pub has_come : Gtids → Entry → Bool
has_come came e = set.contains came e.gtid

-- The channel has all that a binary log has purged, and its entries before a place.
pub record HasRead (came : Gtids) (journal : JournalValue) (place : ℕ) : Type 0 where
  pub purged : set.is_subset journal.previous came ≡ true
  pub short : place ≤ length journal.entries
  pub entries : list_all (has_come came) (take place journal.entries) ≡ true

-- the same if a place is known
abbrev pub IsRead : Gtids → JournalValue → Option ℕ → Type 0
IsRead came journal None = Unit {0}
IsRead came journal (Some place) = HasRead came journal place

-- the same of a node's channel and a source that it reads
abbrev pub IsReadFrom : List Node → ℕ → ℕ → ℕ → Option ℕ → Type 0
IsReadFrom nodes i c k place = (node source : Node) (channel : ChannelValue) (asked : Gtids) → slice_get nodes i ≡ Some node → slice_get nodes k ≡ Some source
    → finmap.get node.sources c ≡ Some k → slice_get node.replica.state.channels c ≡ Some channel → channel.asked ≡ Some asked
    → IsRead (come asked channel) source.replica.state.journal place

-- the places of all channels of all nodes
pub record AreRead (nodes : List Node) (readers : List Places) : Type 0 where
  pub count : length readers ≡ length nodes
  pub read : (i c k : ℕ) (reader : Places) → slice_get readers i ≡ Some reader → IsReadFrom nodes i c k (finmap.get reader c)

-- ---- entries that were purged

-- how many entries the binary log of a node has
abbrev pub entries_at : List Node → ℕ → ℕ
entries_at nodes i = option_map_or (λ (n : Node). length n.replica.state.journal.entries) (slice_get nodes i) 0

-- a place after a purge of this many entries: it is no longer known unless they all come before it
abbrev pub shift_place : ℕ → Option ℕ → Option ℕ
shift_place count None = None
shift_place count (Some place) = if nat_le count place then Some (place - count) else None

-- whether a channel reads a node
abbrev pub reads : Sources → ℕ → ℕ → Bool
reads sources c k = option_map_or (λ source. source == k) (finmap.get sources c) false

-- the place of a channel after a purge of this many entries of this node
abbrev pub place_after : Sources → ℕ → ℕ → ℕ → Option ℕ → Option ℕ
place_after sources k count c place = if reads sources c k then shift_place count place else place

-- the places of a node's channels, before and after that
abbrev pub AreMoved : Sources → ℕ → ℕ → Places → Places → Type 0
AreMoved sources k count old new = (c : ℕ) → finmap.get new c ≡ place_after sources k count c (finmap.get old c)

-- the places of the channels of all nodes
pub record AreAllMoved (nodes : List Node) (k count : ℕ) (old new : List Places) : Type 0 where
  pub length_is : length new ≡ length old
  pub each : (i : ℕ) (node : Node) (before after : Places) → slice_get nodes i ≡ Some node → slice_get old i ≡ Some before → slice_get new i ≡ Some after
      → AreMoved node.sources k count before after

-- ---- the next entry

-- the place of the first entry that the channel has not, or the number of entries
pub record IsNextPlace (came : Gtids) (entries : List Entry) (place : ℕ) : Type 0 where
  pub short : place ≤ length entries
  pub come : list_all (has_come came) (take place entries) ≡ true
  pub next : find (λ e. not (has_come came e)) entries ≡ slice_get entries place
