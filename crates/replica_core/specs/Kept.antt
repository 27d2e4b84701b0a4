-- What a replica keeps.
use Rattle.std.specs.Prelude.{◌≡◌, true, not, List, Option, Some, None, All, is_some}
use Rattle.std.specs.FinSet as set
use Rattle.rows.specs.declared.schema.Table.{Table}
use Rattle.rows.specs.declared.change.Transaction.{Transaction}
use Rattle.rows.specs.Fits.{Fits}
use Rattle.journal.specs.Writing.{is_number}
use Rattle.gtid_set.specs.Sets.{Gtids}
use Rattle.apply_channel.specs.Channels.{ChannelValue, Keyed, Received}

-- the schema takes a transaction that is there
abbrev pub FitsIf : List Table → Option Transaction → Type 0
FitsIf schema None = Unit {0}
FitsIf schema (Some txn) = Fits schema txn

-- A received entry has its transaction if and only if its GTID is not executed. The schema takes it, and its number is in range.
pub record IsKept (schema : List Table) (executed : Gtids) (e : Received) : Type 0 where
  pub waits : is_some e.txn ≡ not (set.contains executed e.gtid)
  pub fits : FitsIf schema e.txn
  pub number : is_number e.gtid.number ≡ true

abbrev pub AreKept : List Table → Gtids → List ChannelValue → Type 0
AreKept schema executed channels = All (λ c. All (IsKept schema executed) c.received) channels

-- channels with one schema
pub record ChannelsValue : Type 0 where
  pub schema : List Table
  pub list : List ChannelValue

abbrev pub AreOf : List Table → List Keyed → Type 0
AreOf schema channels = All (λ k. k.schema ≡ schema) channels
