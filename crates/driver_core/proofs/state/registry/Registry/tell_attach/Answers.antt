use Rattle.driver_core.proofs.state.registry.Registry.tell_attach.Goals as goal

-- the client of each subscription is there
pub returns-then-self-clause-owned : goal.returns-then-self-clause-owned
returns-then-self-clause-owned c = rw (← c.self.view_is) c.self.invariant.kept.order.owned

pub returns-in-Ok-clause-owned : goal.returns-in-Ok-clause-owned
returns-in-Ok-clause-owned c = rw (← c.self.view_is) c.self.invariant.kept.order.owned

pub returns-in-Err-clause-owned : goal.returns-in-Err-clause-owned
returns-in-Err-clause-owned c = rw (← c.self.view_is) c.self.invariant.kept.order.owned
