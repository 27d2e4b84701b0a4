use Rattle.serving.proofs.Conditions.{all_taken}
use Rattle.serving.proofs.outcome.world_of.Goals as goal

pub world_of_fitting-requires : goal.world_of_fitting-requires
world_of_fitting-requires c =
    all_taken c.args.bundle.now c.rows.result.now c.opening_set.result.now c.journals.result.now c.rows.ensures c.opening_set.ensures c.journals.ensures c.keeps_servable.ensures.fits
