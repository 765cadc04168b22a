use Rattle.command_codec.proofs.ReplyLemmas.{reply_takes}
use Rattle.command_codec.proofs.laws.replies_write_back.Goals as goal

pub returns : goal.returns
returns c = reply_takes
