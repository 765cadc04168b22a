use Rattle.command_codec.proofs.CommandLemmas.{command_takes}
use Rattle.command_codec.proofs.laws.commands_write_back.Goals as goal

pub returns : goal.returns
returns c = command_takes
