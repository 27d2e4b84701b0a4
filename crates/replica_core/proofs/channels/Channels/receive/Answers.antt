use Rattle.std.proofs.Common.{◌≡◌, true, subst, ap, ◌∙◌, List, map}
use Rattle.apply_channel.specs.Channels.{ChannelValue, with_received, with_entry, received_as}
use Rattle.apply_channel.specs.Full.{IsFull}
use Rattle.replica_core.specs.Kept.{ChannelsValue}
use Rattle.replica_core.specs.Keyed.{with_channels, full_at}
use Rattle.replica_core.specs.Machine.{change_at}
use Rattle.replica_core.proofs.KeyedLemmas.{channel_of, received_as_one, full_as}
use Rattle.replica_core.proofs.channels.Channels.receive.Goals as goal
use Rattle.std.proofs.lemmas.Result.{on_ok_weaker}

pub returns-clause-put : goal.returns-clause-put
returns-clause-put c =
    let n = c.args.channel in
    let e = c.args.entry.now in
    let old = c.self.inside.list.items in
    let put = λ (is : c.receive_one.new.channels.items ≡ change_at n (with_entry c.args.executed e) old).
    ap (λ (cs : List ChannelValue). let v : ChannelsValue = record { schema = c.self.inside.schema; list = cs } in v) (ap (map channel_of) is ∙ received_as_one n c.args.executed e old)
    ∙ ap (λ (v : ChannelsValue). with_channels (change_at n (with_received (received_as c.args.executed e)) v.list) v) c.self.view_is in
    on_ok_weaker c.receive_one.result put c.receive_one.ensures.put

pub returns-clause-full : goal.returns-clause-full
returns-clause-full c =
    let n = c.args.channel in
    let same = full_as n c.self.inside.list.items ∙ ap (λ (v : ChannelsValue). full_at n v.list) c.self.view_is in
    subst (λ b. (IsFull c.receive_one.result → b ≡ true) × (b ≡ true → IsFull c.receive_one.result)) same c.receive_one.ensures.full
