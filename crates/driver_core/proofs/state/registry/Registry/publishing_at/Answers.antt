use Rattle.std.proofs.Common.{rules}
use Rattle.driver_core.proofs.AskingLemmas.{publishing_same}
use Rattle.driver_core.proofs.state.registry.Registry.publishing_at.Goals as goal

pub returns : goal.returns
returns c =
    rw (publishing_same c.args.self.now c.args.asking.now c.args.asking.handle c.args.asking.client c.args.wanted.now)
    (search rules)
