use Rattle.media_driver.proofs.client.Client.poll.Goals as goal

pub returns-clause-memory : goal.returns-clause-memory
returns-clause-memory g c = c.fragments_of.ensures.memory _ _

pub returns-clause-unseen : goal.returns-clause-unseen
returns-clause-unseen g c = c.fragments_of.ensures.seen _ _
