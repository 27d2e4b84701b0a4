use Rattle.std.proofs.Common.{◌∙◌, sym}
use Rattle.std.specs.Option.{unwrap_or}
use Rattle.std.proofs.lemmas.Result.{IfOk-weaker, IfErr-weaker}
use Rattle.audit.proofs.Parts.{pass_fault, skips_brought}
use Rattle.audit.proofs.sources.World.skipped_numbers.Goals as goal

pub returns-in-Some-clause-ok : goal.returns-in-Some-clause-ok
returns-in-Some-clause-ok c =
    IfOk-weaker c.skipped_before.result _ _
    (λ skipped e. e ∙ skips_brought c.args.self.now c.args.journals.now c.in_order.result.now c.in-Some.contents c.in_order.ensures
    ((λ i. unwrap_or (sym c.in-Some.is i) c.args.self.now.contents) ∙ c.in_ok-contents.ensures))
    c.skipped_before.ensures.ok

pub returns-in-Some-clause-fault : goal.returns-in-Some-clause-fault
returns-in-Some-clause-fault c =
    IfErr-weaker c.skipped_before.result _ _
    (λ f h. pass_fault f c.args.self.now c.args.journals.now c.in_order.result.now c.in-Some.contents c.in_order.ensures
    ((λ i. unwrap_or (sym c.in-Some.is i) c.args.self.now.contents) ∙ c.in_ok-contents.ensures) h)
    c.skipped_before.ensures.fault

pub returns-in-None-clause-ok : goal.returns-in-None-clause-ok
returns-in-None-clause-ok c =
    IfOk-weaker c.skipped_before-in-None.result _ _
    (λ skipped e. e ∙ skips_brought c.args.self.now c.args.journals.now c.in_order-in-None.result.now c.args.self.now.contents c.in_order-in-None.ensures.listed
    ((λ i. unwrap_or (sym c.in-None.is i) c.args.self.now.contents) ∙ c.in_ok-contents.ensures))
    c.skipped_before-in-None.ensures.ok

pub returns-in-None-clause-fault : goal.returns-in-None-clause-fault
returns-in-None-clause-fault c =
    IfErr-weaker c.skipped_before-in-None.result _ _
    (λ f h. pass_fault f c.args.self.now c.args.journals.now c.in_order-in-None.result.now c.args.self.now.contents c.in_order-in-None.ensures.listed
    ((λ i. unwrap_or (sym c.in-None.is i) c.args.self.now.contents) ∙ c.in_ok-contents.ensures) h)
    c.skipped_before-in-None.ensures.fault
