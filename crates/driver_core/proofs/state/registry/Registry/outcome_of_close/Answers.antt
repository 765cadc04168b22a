use Rattle.std.proofs.Common.{rules}
use Rattle.driver_core.proofs.LeaveLemmas.{closed_outcome}
use Rattle.driver_core.proofs.state.registry.Registry.outcome_of_close.Goals as goal

pub returns : goal.returns
returns c =
    rw (closed_outcome c.args.self.now c.args.self.now.last_number c.args.asking.now c.args.asking.handle c.args.inputs.now c.args.asking.client
    c.args.asking.correlation c.pairs_of_client.ensures.order) (search rules)
