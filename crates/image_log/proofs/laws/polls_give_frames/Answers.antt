use Rattle.image_log.proofs.FrameLaws.{polls_give}
use Rattle.image_log.proofs.laws.polls_give_frames.Goals as goal

pub returns : goal.returns
returns c = polls_give
