use Rattle.media_wire.proofs.Sources.{were_sent}
use Rattle.media_wire.proofs.laws.letters_were_sent.Goals as goal

pub returns : goal.returns
returns c = were_sent
