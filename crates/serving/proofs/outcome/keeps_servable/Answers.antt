use Rattle.serving.proofs.Written.{bundle_servable}
use Rattle.serving.proofs.outcome.keeps_servable.Goals as goal

pub returns : goal.returns
returns c = bundle_servable c.args.bundle.now c.keeps_rules.ensures
