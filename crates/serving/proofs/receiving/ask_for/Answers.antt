use Rattle.std.proofs.Common.{rules, [], ◌∷◌, subst, sym}
use Rattle.replica_core.specs.State.{Replica}
use Rattle.std.proofs.lemmas.Result.{IfErr-weaker}
use Rattle.auto_position.specs.Sending.{IsPlanFault}
use Rattle.serving.specs.Faults.{IsFaultWhere, Knows, KnowsToo}
use Rattle.serving.proofs.Conditions.{asked_is}
use Rattle.serving.proofs.Knowing.{knows_opened, plan_fault, weaker}
use Rattle.serving.proofs.receiving.ask_for.Goals as goal

pub returns-in_err-asked-clause-fault : goal.returns-in_err-asked-clause-fault
returns-in_err-asked-clause-fault c =
    let core = c.args.core.now in
    let opened = c.open_channel.new.core in
    let h = weaker c.in_err-asked.field-0.0 (Knows opened.state) (KnowsToo core.state (c.args.journal.now ∷ []))
    (λ cover has. subst (λ (x : Replica). Knows x.state cover) (sym c.in_ok-open_channel.ensures.now) (knows_opened cover core c.args.channel.now has.0))
    c.in_err-asked.ensures.fault in
    search rules

pub returns-clause-fault : goal.returns-clause-fault
returns-clause-fault c =
    let core = c.args.core.now in
    let j = c.args.journal.now in
    IfErr-weaker c.places_sent.result (IsPlanFault j c.in_ok-asked.asked) (IsFaultWhere (KnowsToo core.state (j ∷ [])))
    (λ f h. plan_fault f core.state j c.in_ok-asked.asked (asked_is core c.args.number c.args.channel.now j c.requires c.open_channel.new.core c.in_ok-asked.asked c.in_ok-open_channel.ensures.now c.in_ok-asked.ensures.asked) h)
    c.places_sent.ensures.fault
