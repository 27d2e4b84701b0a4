use Rattle.std.proofs.Common.{subst}
use Rattle.replica_core.specs.State.{Replica}
use Rattle.replica_core.specs.Seated.{AreSeated}
use Rattle.replica_core.proofs.FreeLemmas.{freed}
use Rattle.applier.proofs.draining.free.Goals as goal

pub returns-clause-free : goal.returns-clause-free
returns-clause-free c =
    let seated = subst (λ (r : Replica). AreSeated r.state.channels r.state.seats) c.state-2.ensures.state c.one_seat_each.ensures in
    (freed c.args.book.now.now.state c.step.new.self.now.state _ c.args.seat c.requires.low c.requires.high seated c.in_ok-_reply.ensures.step.makes).0

pub returns-clause-others : goal.returns-clause-others
returns-clause-others c =
    let seated = subst (λ (r : Replica). AreSeated r.state.channels r.state.seats) c.state-2.ensures.state c.one_seat_each.ensures in
    (freed c.args.book.now.now.state c.step.new.self.now.state _ c.args.seat c.requires.low c.requires.high seated c.in_ok-_reply.ensures.step.makes).1
