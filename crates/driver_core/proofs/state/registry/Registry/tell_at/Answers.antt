use Rattle.std.proofs.Common.{rules}
use Rattle.driver_core.proofs.AskingLemmas.{quiet_same}
use Rattle.driver_core.proofs.state.registry.Registry.tell_at.Goals as goal

pub returns : goal.returns
returns c =
    rw (quiet_same c.args.self.now c.args.asking.now c.args.asking.handle c.args.asking.client c.args.command.now c.requires.quiet)
    (search rules)
