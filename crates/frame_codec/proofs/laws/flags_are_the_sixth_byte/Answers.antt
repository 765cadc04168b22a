use Rattle.frame_codec.proofs.FlagsRead.{flags_read, flags_written}
use Rattle.frame_codec.proofs.laws.flags_are_the_sixth_byte.Goals as goal

pub returns-clause-read : goal.returns-clause-read
returns-clause-read c = flags_read

pub returns-clause-written : goal.returns-clause-written
returns-clause-written c = flags_written
