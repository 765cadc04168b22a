use Rattle.std.proofs.Common.{sym}
use Rattle.driver_core.proofs.ClosedLemmas.{read_registry}
use Rattle.driver_core.proofs.state.registry.Registry.drop_unread.Goals as goal

-- each image has a pair
pub returns-then-self : goal.returns-then-self
returns-then-self c = rw (← c.self.view_is) (sym (read_registry _ (c.self.invariant.read c.if-self.true)))
