use Rattle.std.proofs.Common.{◌≡◌, false, sym, ◌∙◌, subst}
use Rattle.std.proofs.lemmas.Result.{IfErr-weaker}
use Rattle.gtid_set.specs.Edges.{has_before}
use Rattle.gtid_set.specs.Full.{IsFaultOf}
use Rattle.gtid_set.specs.Sets.{Gtids}
use Rattle.audit.proofs.Parts.{fault_of_missing, verdict_begins}
use Rattle.audit.proofs.sources.World.other_missing.Goals as goal

pub without_verdict-requires : goal.without_verdict-requires
without_verdict-requires c = record {
  begins = λ g is. subst (λ (s : Gtids). has_before s g ≡ false) (sym c.in_ok-missing.ensures.ok) (verdict_begins c.args.self.now c.args.journals.now g (sym is ∙ c.requires.first));
}

pub returns-clause-fault : goal.returns-clause-fault
returns-clause-fault c =
    IfErr-weaker c.without_verdict.result _ _
    (λ f h. fault_of_missing f c.args.self.now c.args.journals.now (subst (λ (s : Gtids). IsFaultOf f s) c.in_ok-missing.ensures.ok h))
    c.without_verdict.ensures.fault
