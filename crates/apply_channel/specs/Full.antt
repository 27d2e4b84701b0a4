-- Why an entry was refused.
use Rattle.std.specs.Prelude.{ℕ, Result, Ok, Err}
use Rattle.std.specs.FinSet as set
use Rattle.gtid_set.specs.Sets.{Gtids}
use Rattle.journal.specs.declared.Entry.{Entry}
use Rattle.gtid_set.specs.Full.{IsFullExactly}
use Rattle.apply_channel.specs.declared.channel.ReceiveFault.{ReceiveFault}
use Rattle.apply_channel.specs.declared.channel.ReceiveFault.TheVariants.{Full, Set}
use Rattle.apply_channel.specs.Channels.{ChannelValue, received_gtids}

-- the channel was full
abbrev pub IsFullFault : ReceiveFault → Type 0
IsFullFault Full = Unit {0}
IsFullFault (Set fault) = ⊥

abbrev pub IsFull : Result ℕ ReceiveFault → Type 0
IsFull (Ok place) = ⊥
IsFull (Err fault) = IsFullFault fault

-- the received set with the GTID of one entry more
abbrev pub gtids_with : Entry → ChannelValue → Gtids
gtids_with entry channel = set.insert (received_gtids channel.received) entry.gtid

-- if the channel was not full, the set of received GTIDs was not made; because an allocation failed only if it has not too many sources
abbrev pub IsReceiveFault : ReceiveFault → Gtids → Type 0
IsReceiveFault Full s = Unit {0}
IsReceiveFault (Set fault) s = IsFullExactly {T = Unit {0}} (Err fault) s
