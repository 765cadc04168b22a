use Rattle.term_log.proofs.WholeLaws.{polled_are_frames}
use Rattle.term_log.proofs.laws.polls_give_frames.Goals as goal

pub returns : goal.returns
returns c = polled_are_frames
