use Rattle.driver_laws.proofs.DatagramLemmas.{datagrams_carry}
use Rattle.driver_laws.proofs.headline.datagrams_carry_the_logs_frames.Goals as goal

pub returns : goal.returns
returns c = datagrams_carry
