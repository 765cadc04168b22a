use Rattle.log_traffic.proofs.PackingLemmas.{held_sound, resends_carry}
use Rattle.log_traffic.proofs.laws.resends_carry_what_is_asked.Goals as goal

pub returns-clause-carry : goal.returns-clause-carry
returns-clause-carry c = resends_carry

pub returns-clause-sound : goal.returns-clause-sound
returns-clause-sound c = held_sound
