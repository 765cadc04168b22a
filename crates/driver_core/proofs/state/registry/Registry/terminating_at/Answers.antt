use Rattle.std.proofs.Common.{rules}
use Rattle.driver_core.proofs.LeaveLemmas.{terminating_same}
use Rattle.driver_core.proofs.state.registry.Registry.terminating_at.Goals as goal

pub returns : goal.returns
returns c = rw (terminating_same c.args.self.now c.args.asking.now c.args.asking.handle c.args.asking.client) (search rules)
