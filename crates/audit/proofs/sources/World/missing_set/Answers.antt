use Rattle.std.proofs.Common.{◌∙◌}
use Rattle.std.specs.FinSet as set
use Rattle.std.proofs.lemmas.Result.{IfOk-weaker}
use Rattle.audit.proofs.Parts.{fault_of_difference, none_in_set}
use Rattle.audit.proofs.Rising.{none_missing}
use Rattle.audit.proofs.sources.World.missing_set.Goals as goal

pub returns-then-ordered-clause-ok : goal.returns-then-ordered-clause-ok
returns-then-ordered-clause-ok c =
    c.empty.ensures ∙ none_in_set c.args.self.now c.args.journals.now (none_missing c.args.self.now c.args.journals.now (c.requires c.if-ordered.true))

pub returns-clause-ok : goal.returns-clause-ok
returns-clause-ok c =
    IfOk-weaker c.subtract.result _ _
    (λ missing e. e ∙ (λ i. set.difference (c.in_ok-skipped.ensures.ok i) (c.opening_set.ensures i)))
    c.subtract.ensures.ok

pub returns-clause-fault : goal.returns-clause-fault
returns-clause-fault c =
    fault_of_difference c.subtract.result c.args.self.now c.args.journals.now _ _ (λ i. set.difference (c.in_ok-skipped.ensures.ok i) (c.opening_set.ensures i)) c.subtract.ensures.full
