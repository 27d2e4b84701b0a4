use Rattle.std.proofs.Common.{◌≡◌, List, length, sym, ap, subst, ◌∙◌}
use Rattle.apply_channel.specs.Channels.{Keyed, ChannelValue, Received, settle_channel}
use Rattle.apply_channel.specs.Kept.{IsLastOpen}
use Rattle.apply_channel.proofs.LastPlaces.{settle_again, settle_nothing}
use Rattle.apply_channel.proofs.channel.Channel.mark_executed.Goals as goal

pub settling-preserved : goal.settling-preserved
settling-preserved c =
    let g = c.args.gtid.now in
    let now = c.settling.self.channel in
    let p = c.in-Some.place in
    let last = subst (λ o. IsLastOpen now.received g (length now.received) o) c.in-Some.is c.settling.invariant.last in
    record {
      last = c.settle-next.ensures.last;
      settles =
          ap (λ (k : Keyed). settle_channel g k.channel) c.settle-next.ensures.settled
          ∙ ap (λ (rs : List Received). let r : ChannelValue = record now { received = rs } in r) (settle_again g now.received p last.1)
          ∙ c.settling.invariant.settles;
      schema = ap (λ (k : Keyed). k.schema) c.settle-next.ensures.settled ∙ c.settling.invariant.schema;
    }

pub returns : goal.returns
returns c =
    let g = c.args.gtid.now in
    let now = c.settling.self.channel in
    let none = subst (λ o. IsLastOpen now.received g (length now.received) o) c.in_default.is c.settling.invariant.last in
    let nothing : settle_channel g now ≡ now = ap (λ (rs : List Received). let r : ChannelValue = record now { received = rs } in r) (settle_nothing g now.received none) in
    let channel = sym nothing ∙ c.settling.invariant.settles in
    λ i. record { schema = c.settling.invariant.schema i; channel = channel i }
