use Rattle.log_steps.proofs.open_log.OpenLog.has_whole.Goals as goal

pub returns-clause-whole : goal.returns-clause-whole
returns-clause-whole c = rw (← c.self.view_is) c.self.invariant
