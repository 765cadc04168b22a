use Rattle.frame_codec.proofs.JoinLemmas.{joins_are_sound}
use Rattle.frame_codec.proofs.laws.joins_are_sound.Goals as goal

pub returns : goal.returns
returns c = joins_are_sound
