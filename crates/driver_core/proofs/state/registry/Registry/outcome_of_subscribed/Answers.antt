use Rattle.std.proofs.Common.{rules}
use Rattle.driver_core.proofs.ComingLemmas.{coming_is}
use Rattle.driver_core.proofs.state.registry.Registry.outcome_of_subscribed.Goals as goal

-- its own images alone come
pub returns : goal.returns
returns c =
    rw (
      coming_is c.args.self.now c.args.asking.now c.args.asking.handle c.args.inputs.now c.args.asking.client
          c.args.asking.correlation c.args.channel.now c.args.stream c.next_number.ensures.in_order,
      ← c.requires.decided,
      ← c.next_number.ensures.number,
    ) (search rules)
