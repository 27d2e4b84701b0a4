use Rattle.history.proofs.SmallSources.{sound_sources_exist}
use Rattle.history.proofs.sources.sound_sources_exist.Goals as goal

pub returns : goal.returns
returns c = sound_sources_exist
