use Rattle.world.proofs.StandingInOrder.{verdicts_stand_in_order}
use Rattle.world.proofs.order.verdicts_name_faults_in_order.Goals as goal

pub returns : goal.returns
returns c = verdicts_stand_in_order
