use Rattle.history.proofs.Small.{sound_worlds_exist}
use Rattle.history.proofs.order.sound_worlds_exist.Goals as goal

pub returns : goal.returns
returns c = sound_worlds_exist
