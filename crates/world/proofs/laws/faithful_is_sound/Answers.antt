use Rattle.world.proofs.Saying.{sound_is_said}
use Rattle.world.proofs.laws.faithful_is_sound.Goals as goal

pub returns : goal.returns
returns c = sound_is_said
