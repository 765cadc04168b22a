use Rattle.std.proofs.Common.{rules}
use Rattle.driver_core.proofs.AskingLemmas.{subscribing_same}
use Rattle.driver_core.proofs.state.registry.Registry.subscribing_at.Goals as goal

pub returns : goal.returns
returns c =
    rw (subscribing_same c.args.self.now c.args.asking.now c.args.asking.handle c.args.asking.client c.args.channel.now
    c.args.stream) (search rules)
