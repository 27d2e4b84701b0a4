use Rattle.std.proofs.Common.{◌≡◌, arith, [], ap, subst, ◌∙◌}
use Rattle.applier.specs.Tickets.{nowhere, passes_on, reached}
use Rattle.applier.proofs.Onces.{AreMet, one_met, all_met, how_many}
use Rattle.applier.proofs.hand.make_hands.Goals as goal

pub loop-me-preserved : goal.loop-me-preserved
loop-me-preserved c =
    one_met c.args.n c.loop-me.me c.loop-me.hands.items c.meet_at.new.hands.items c.in_ok-others.others.items (reached nowhere []) c.loop-me.invariant
    (c.in_ok-others.ensures ∙ ap passes_on c.as_slice.ensures.value) c.meet_at.ensures

pub returns-clause-reach : goal.returns-clause-reach
returns-clause-reach c =
    let all : c.loop-me.me ≡ c.args.n = omega (arith, c.loop-me-test.false, c.loop-me.auto.me-end) in
    let hands = c.loop-me.hands.items in
    all_met c.args.n hands (how_many c.args.n hands c.loop-me.invariant.fresh) (subst (λ n. AreMet c.args.n n hands) all c.loop-me.invariant)
