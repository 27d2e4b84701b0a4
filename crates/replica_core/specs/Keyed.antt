-- Channels with their schema.
use Rattle.std.specs.Prelude.{◌≡◌, ℕ, Bool, List, false, Option, Some, None, option_map, slice_get, length}
use Rattle.std.specs.Option.{option_map_or}
use Rattle.gtid_text.specs.declared.Gtid.{Gtid}
use Rattle.gtid_set.specs.Sets.{Gtids}
use Rattle.apply_channel.specs.Channels.{Keyed, ChannelValue, settle_channel, with_stopped, with_asked, is_full}
use Rattle.apply_channel.specs.declared.channel.ReceiveFault.{ReceiveFault}
use Rattle.apply_channel.specs.Full.{gtids_with, IsReceiveFault}
use Rattle.journal.specs.declared.Entry.{Entry}
use Rattle.replica_core.specs.Kept.{ChannelsValue}

abbrev pub keyed_settled : Gtid → Keyed → Keyed
keyed_settled gtid k = record k { channel = settle_channel gtid k.channel }

abbrev pub keyed_stopped : Bool → Keyed → Keyed
keyed_stopped flag k = record k { channel = with_stopped flag k.channel }

abbrev pub keyed_asked : Gtids → Keyed → Keyed
keyed_asked asked k = record k { channel = with_asked asked k.channel }

-- other channels with the same schema
abbrev pub with_channels : List ChannelValue → ChannelsValue → ChannelsValue
with_channels list c = record c { list = list }

abbrev pub IsNotAt : ChannelsValue → ℕ → Type 0
IsNotAt c channel = slice_get c.list channel ≡ None

-- a channel is at a number
pub record IsAt (c : ChannelsValue) (channel : ℕ) (k : Keyed) : Type 0 where
  pub value : slice_get c.list channel ≡ Some k.channel
  pub schema : k.schema ≡ c.schema

-- how many entries a channel has received
abbrev pub len_at : ℕ → List ChannelValue → ℕ
len_at c channels = option_map_or (λ channel. length channel.received) (slice_get channels c) 0

abbrev pub full_at : ℕ → List ChannelValue → Bool
full_at c channels = option_map_or (λ channel. is_full channel) (slice_get channels c) false

abbrev pub keyed_len_at : ℕ → List Keyed → ℕ
keyed_len_at c channels = option_map_or (λ k. length k.channel.received) (slice_get channels c) 0

abbrev pub keyed_full_at : ℕ → List Keyed → Bool
keyed_full_at c channels = option_map_or (λ k. is_full k.channel) (slice_get channels c) false

-- why a channel did not receive an entry
abbrev pub IsRefusedIn : ReceiveFault → Entry → Option ChannelValue → Type 0
IsRefusedIn f entry None = Unit {0}
IsRefusedIn f entry (Some channel) = IsReceiveFault f (gtids_with entry channel)

abbrev pub IsRefusedAt : ReceiveFault → Entry → ℕ → List ChannelValue → Type 0
IsRefusedAt f entry c channels = IsRefusedIn f entry (slice_get channels c)

abbrev pub IsKeyedRefusedAt : ReceiveFault → Entry → ℕ → List Keyed → Type 0
IsKeyedRefusedAt f entry c channels = IsRefusedIn f entry (option_map (λ k. k.channel) (slice_get channels c))
