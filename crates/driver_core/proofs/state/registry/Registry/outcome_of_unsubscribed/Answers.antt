use Rattle.std.proofs.Common.{rules}
use Rattle.driver_core.proofs.UnsubscribeLemmas.{unsubscribed_outcome}
use Rattle.driver_core.proofs.state.registry.Registry.outcome_of_unsubscribed.Goals as goal

pub returns : goal.returns
returns c =
    λ inputs.
    rw (unsubscribed_outcome c.args.self.now c.args.self.now.last_number c.args.asking.now c.args.asking.handle inputs c.args.asking.client
    c.args.asking.correlation c.args.row.now.number c.pairs_with.ensures.order c.requires.own) (search rules)
