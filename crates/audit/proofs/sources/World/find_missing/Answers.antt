use Rattle.std.proofs.Common.{◌∙◌, sym}
use Rattle.std.specs.Option.{unwrap_or}
use Rattle.audit.proofs.Missings.{brought_pass}
use Rattle.audit.proofs.sources.World.find_missing.Goals as goal

pub returns-in-Some : goal.returns-in-Some
returns-in-Some c =
    c.first_missing.ensures
    ∙ brought_pass c.args.self.now c.args.journals.now c.opening_set.result.now c.in_order.result.now c.in-Some.contents c.opening_set.ensures c.in_order.ensures
    ((λ i. unwrap_or (sym c.in-Some.is i) c.args.self.now.contents) ∙ c.in_ok-contents.ensures)

pub returns-in-None : goal.returns-in-None
returns-in-None c =
    c.first_missing-in-None.ensures
    ∙ brought_pass c.args.self.now c.args.journals.now c.opening_set-in-None.result.now c.in_order-in-None.result.now c.args.self.now.contents c.opening_set-in-None.ensures c.in_order-in-None.ensures.listed
    ((λ i. unwrap_or (sym c.in-None.is i) c.args.self.now.contents) ∙ c.in_ok-contents.ensures)
