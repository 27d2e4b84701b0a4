use Rattle.std.proofs.Common.{subst, rules}
use Rattle.replica_core.specs.State.{Replica}
use Rattle.replica_core.specs.Kept.{AreKept}
use Rattle.replica_core.specs.Draining.{IsWaiting}
use Rattle.replica_core.proofs.MoveLemmas.{settled_by}
use Rattle.replica_core.proofs.DrainLemmas.{below_follows, one_more_place}
use Rattle.applier.proofs.Drainings.{drains_call, drains_further}
use Rattle.applier.proofs.draining.settle.Goals as goal

pub returns-clause-drains : goal.returns-clause-drains
returns-clause-drains c =
    drains_further _ _ _ (drains_call _ _ _ c.step.result tt c.step.ensures.line c.step.ensures.err) (drains_call _ _ _ c.step-2.result tt c.step-2.ensures.line c.step-2.ensures.err)

pub returns-clause-rests : goal.returns-clause-rests
returns-clause-rests c =
    let w = subst (λ (r : Replica). IsWaiting c.args.place c.args.channel r.state) c.state.ensures.state (c.is_waiting.ensures.open (search rules)) in
    let kept = subst (λ (r : Replica). AreKept r.site.schema r.state.executed r.state.channels) c.state-2.ensures.state c.entries_are_kept.ensures in
    (settled_by c.args.book.now.now.site c.step.new.self.now.site c.args.book.now.now.state c.step.new.self.now.state c.step-2.new.self.now.state _ _ c.args.channel c.args.place c.requires.rests c.requires.done w kept
    c.in_ok-_taken.ensures.step.site c.in_ok-_taken.ensures.step.makes c.in_ok-_committed.ensures.step.makes).rests

pub returns-clause-follows : goal.returns-clause-follows
returns-clause-follows c =
    let w = subst (λ (r : Replica). IsWaiting c.args.place c.args.channel r.state) c.state.ensures.state (c.is_waiting.ensures.open (search rules)) in
    let kept = subst (λ (r : Replica). AreKept r.site.schema r.state.executed r.state.channels) c.state-2.ensures.state c.entries_are_kept.ensures in
    (settled_by c.args.book.now.now.site c.step.new.self.now.site c.args.book.now.now.state c.step.new.self.now.state c.step-2.new.self.now.state _ _ c.args.channel c.args.place c.requires.rests c.requires.done w kept
    c.in_ok-_taken.ensures.step.site c.in_ok-_taken.ensures.step.makes c.in_ok-_committed.ensures.step.makes).follows

pub returns-clause-done : goal.returns-clause-done
returns-clause-done c =
    let w = subst (λ (r : Replica). IsWaiting c.args.place c.args.channel r.state) c.state.ensures.state (c.is_waiting.ensures.open (search rules)) in
    let kept = subst (λ (r : Replica). AreKept r.site.schema r.state.executed r.state.channels) c.state-2.ensures.state c.entries_are_kept.ensures in
    let all = settled_by c.args.book.now.now.site c.step.new.self.now.site c.args.book.now.now.state c.step.new.self.now.state c.step-2.new.self.now.state _ _ c.args.channel c.args.place c.requires.rests c.requires.done w kept
    c.in_ok-_taken.ensures.step.site c.in_ok-_taken.ensures.step.makes c.in_ok-_committed.ensures.step.makes in
    one_more_place c.step-2.new.self.now.state c.args.place c.args.channel (below_follows c.args.book.now.now.state c.step-2.new.self.now.state c.args.place c.args.channel all.follows c.requires.done) all.done
