use Rattle.std.proofs.lemmas.Result.{IfErr-weaker}
use Rattle.serving.specs.Faults.{KnowsToo, IsFaultWhere, IsBundleFault}
use Rattle.serving.specs.Serving.{opening}
use Rattle.serving.proofs.Knowing.{bundle_fault, knows_opening}
use Rattle.serving.proofs.outcome.serve_all.Goals as goal

pub returns-clause-fault : goal.returns-clause-fault
returns-clause-fault c =
    let b = c.args.bundle.now in
    let Covers = KnowsToo (opening b).state b.journals in
    IfErr-weaker c.serve_each.result (IsFaultWhere Covers) (IsBundleFault b) (λ f h. bundle_fault f b Covers (knows_opening b) h) c.serve_each.ensures.fault
