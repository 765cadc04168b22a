use Rattle.driver_laws.proofs.FrameLemmas.{frames_put}
use Rattle.driver_laws.proofs.headline.frames_are_what_was_put.Goals as goal

pub returns : goal.returns
returns c = frames_put
