use Rattle.world.proofs.Meanings.{sound_means_sound}
use Rattle.world.proofs.laws.sound_means_sound.Goals as goal

pub returns : goal.returns
returns c = sound_means_sound
