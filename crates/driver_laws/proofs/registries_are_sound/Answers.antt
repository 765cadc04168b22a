use Rattle.driver_core.proofs.SoundnessLemmas.{registries_sound}
use Rattle.driver_laws.proofs.registries_are_sound.Goals as goal

pub returns : goal.returns
returns c = registries_sound
