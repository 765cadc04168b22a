use Rattle.media_driver.proofs.OpeningLemmas.{many, unsent}
use Rattle.media_driver.proofs.parts.make_store.Goals as goal

pub returns-clause-unsent : goal.returns-clause-unsent
returns-clause-unsent c = rw c.in_ok-senders.ensures.senders (unsent c.in_ok-senders.taker 66 66)

pub returns-clause-senders : goal.returns-clause-senders
returns-clause-senders c = rw c.in_ok-senders.ensures.senders (many c.in_ok-senders.taker 66 66)
