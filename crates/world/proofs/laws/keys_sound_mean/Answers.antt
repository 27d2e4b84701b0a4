use Rattle.world.proofs.Meanings.{keys_sound_mean}
use Rattle.world.proofs.laws.keys_sound_mean.Goals as goal

pub returns : goal.returns
returns c = keys_sound_mean
