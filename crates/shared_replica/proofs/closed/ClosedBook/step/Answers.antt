use Rattle.std.proofs.Common.{◌≡◌, ◌++◌, ◌∷◌, [], List, sym, subst}
use Rattle.shared_replica.specs.declared.step.Step.{Step}
use Rattle.shared_replica.specs.History.{line, IsStep, IsReplay}
use Rattle.shared_replica.proofs.Replays.{replay_more}
use Rattle.shared_replica.proofs.closed.ClosedBook.step.Goals as goal

pub invariant_of-self-2 : goal.invariant_of-self-2
invariant_of-self-2 c =
    let old = c.self.inside in
    let reply = c.in_ok-reply.reply in
    let it : c.add.new.list.items ≡ old.steps.items ++ line c.args.event.now reply ∷ [] = cc (c.add.ensures.items, c.reserve.ensures.items, c.in_ok-draft.ensures.ok.copy, c.with_reply.ensures) in
    let made : IsStep old.core c.args.event.now reply c.step.new.self = record { site = c.in_ok-reply.ensures.site; makes = c.in_ok-reply.ensures.ok } in
    subst (λ (l : List Step). IsReplay old.opening.value l c.step.new.self) (sym it)
    (replay_more old.opening.value old.steps.items old.core c.args.event.now reply c.step.new.self c.self.invariant made)
