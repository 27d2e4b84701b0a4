-- What it means that two channels bring two transactions in opposite orders, apart from how such channels are found.
use Rattle.std.specs.Prelude.{◌≡◌, ℕ, ◌<◌, true, false, List, map, slice_get, option_map, Option, Some, None}
use Rattle.std.specs.FinSet as set
use Rattle.gtid_text.specs.declared.Gtid.{Gtid}
use Rattle.gtid_set.specs.Sets.{Gtids}
use Rattle.journal.specs.declared.Entry.{Entry}
use Rattle.world.specs.Meaning.{AreJournals}
use Rattle.txn_journal.specs.BundleStates.{BundleValue}
use Rattle.txn_journal.specs.declared.bundle.BundleChannel.{BundleChannel}
use Rattle.fault_places.specs.declared.orders.InvertedPair.{InvertedPair}
use Rattle.fault_places.specs.Channels.{entries_of}
use Rattle.fault_places.specs.Orders.{inverted_pair}

abbrev pub gtids : List Entry → List Gtid
gtids es = map (λ e. e.gtid) es

-- the entries have G before H, and neither is in the opening set
pub record IsBefore (opened : Gtids) (es : List Entry) (g h : Gtid) : Type 0 where
  pub place : ℕ
  pub later : ℕ
  pub ordered : place < later
  pub first : slice_get (gtids es) place ≡ Some g
  pub second : slice_get (gtids es) later ≡ Some h
  pub first_due : set.contains opened g ≡ false
  pub second_due : set.contains opened h ≡ false

-- channel n preserves commit order
abbrev pub Preserves : List BundleChannel → ℕ → Type 0
Preserves channels n = option_map (λ c. c.preserve) (slice_get channels n) ≡ Some true

-- channels m and n preserve commit order; the journal of n has G before H, and that of m has H before G
pub record AreInTwoOrders (b : BundleValue) (m n : ℕ) (g h : Gtid) : Type 0 where
  pub ordered : m < n
  pub first : Preserves b.channels m
  pub second : Preserves b.channels n
  pub here : IsBefore b.opened (entries_of b.journals n) g h
  pub there : IsBefore b.opened (entries_of b.journals m) h g

-- if something is found it is such a pair, and if nothing is found there is none
abbrev pub FindsTwoOrders : BundleValue → Option InvertedPair → Type 0
FindsTwoOrders b None = (m n : ℕ) (g h : Gtid) → AreInTwoOrders b m n g h → ⊥
FindsTwoOrders b (Some found) = AreInTwoOrders b found.first found.second found.inversion.earlier found.inversion.later

-- A pair of channels is found if and only if there is one.
abbrev pub TwoOrdersAreFound : Type 0
TwoOrdersAreFound = (b : BundleValue) → AreJournals b.journals → FindsTwoOrders b (inverted_pair b)
