use Rattle.driver_core.proofs.state.registry.Registry.next_number.Goals as goal

-- the lists of every registry are in order
pub returns-clause-in_order : goal.returns-clause-in_order
returns-clause-in_order c = rw (← c.self.view_is) c.self.invariant.kept.order
