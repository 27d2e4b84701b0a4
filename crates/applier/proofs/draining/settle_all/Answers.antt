use Rattle.std.proofs.Common.{◌≡◌, Some, None, subst}
use Rattle.replica_core.specs.State.{Replica}
use Rattle.replica_core.specs.Draining.{places}
use Rattle.replica_core.proofs.DrainLemmas.{one_more_channel, all_channels, counted, uncounted}
use Rattle.applier.proofs.Drainings.{drains_further}
use Rattle.applier.proofs.draining.settle_all.Goals as goal

pub returns-in_err-settle_channel-clause-drains : goal.returns-in_err-settle_channel-clause-drains
returns-in_err-settle_channel-clause-drains c = drains_further _ _ _ c.loop-channel.invariant.0 c.settle_channel.ensures.drains

pub loop-channel-preserved : goal.loop-channel-preserved
loop-channel-preserved c =
    let s = c.in_ok-settle_channel.ensures in (
      drains_further _ _ _ c.loop-channel.invariant.0 s.drains,
      s.rests,
      λ k less. one_more_channel c.loop-channel.book.now.state c.settle_channel.new.book.now.state c.loop-channel.channel k c.loop-channel.invariant.2 s.follows s.done less,
    )

pub settle_channel-requires-clause-count : goal.settle_channel-requires-clause-count
settle_channel-requires-clause-count c =
    counted c.loop-channel.book.now.state c.loop-channel.channel c.in-Some.count
    (subst (λ (r : Replica). Some c.in-Some.count ≡ places r.state c.loop-channel.channel) c.state.ensures.state c.in-Some.ensures)

pub returns-in_default-clause-ends : goal.returns-in_default-clause-ends
returns-in_default-clause-ends c =
    all_channels c.loop-channel.book.now.state c.loop-channel.channel c.loop-channel.invariant.2
    (uncounted c.loop-channel.book.now.state c.loop-channel.channel
    (subst (λ (r : Replica). None ≡ places r.state c.loop-channel.channel) c.state.ensures.state c.in_default.ensures))
