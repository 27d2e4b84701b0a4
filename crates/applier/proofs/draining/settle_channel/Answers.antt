use Rattle.std.proofs.Common.{◌≡◌, arith, subst}
use Rattle.replica_core.specs.Draining.{IsDoneBelow}
use Rattle.replica_core.proofs.DrainLemmas.{follows_further, whole_channel}
use Rattle.applier.proofs.Drainings.{drains_further}
use Rattle.applier.proofs.draining.settle_channel.Goals as goal

pub returns-in_err-settle-clause-drains : goal.returns-in_err-settle-clause-drains
returns-in_err-settle-clause-drains c = drains_further _ _ _ c.loop-place.invariant.0 c.settle.ensures.drains

pub loop-place-preserved : goal.loop-place-preserved
loop-place-preserved c =
    let s = c.in_ok-settle.ensures in
    (drains_further _ _ _ c.loop-place.invariant.0 s.drains, s.rests, follows_further _ _ _ c.loop-place.invariant.2 s.follows, s.done)

pub returns-clause-done : goal.returns-clause-done
returns-clause-done c =
    let all : c.loop-place.place ≡ c.args.count = omega (arith, c.loop-place-test.false, c.loop-place.auto.place-end) in
    whole_channel c.args.book.now.now.state c.loop-place.book.now.state c.args.count c.args.channel c.requires.count c.loop-place.invariant.2
    (subst (λ n. IsDoneBelow n c.args.channel c.loop-place.book.now.state) all c.loop-place.invariant.3)
