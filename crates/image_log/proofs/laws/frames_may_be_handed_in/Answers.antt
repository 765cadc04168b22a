use Rattle.image_log.proofs.FrameLaws.{handed}
use Rattle.image_log.proofs.laws.frames_may_be_handed_in.Goals as goal

pub returns : goal.returns
returns c = handed
