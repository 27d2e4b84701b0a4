use Rattle.world.proofs.Standing.{verdicts_stand}
use Rattle.world.proofs.laws.verdicts_name_faults.Goals as goal

pub returns : goal.returns
returns c = verdicts_stand
