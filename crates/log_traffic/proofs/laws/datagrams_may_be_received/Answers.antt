use Rattle.log_traffic.proofs.ReceivingLemmas.{frames_are}
use Rattle.log_traffic.proofs.laws.datagrams_may_be_received.Goals as goal

pub returns : goal.returns
returns c = λ ident bytes frames read begins.
    frames_are ident frames begins (c.frames_are_told.ensures bytes frames read) (c.frames_are_of_one_term.ensures bytes frames read)
