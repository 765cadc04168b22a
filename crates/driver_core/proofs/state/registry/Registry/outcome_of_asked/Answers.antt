use Rattle.std.proofs.Common.{rules}
use Rattle.driver_core.specs.State.{at_moment}
use Rattle.driver_core.proofs.AskedLemmas.{asked_is}
use Rattle.driver_core.proofs.state.registry.Registry.outcome_of_asked.Goals as goal

-- the client is there
pub returns-in-Some : goal.returns-in-Some
unfolding at_moment
returns-in-Some c =
    rw (asked_is (at_moment c.args.self.now c.args.now) c.args.handle c.args.command.now c.in-Some.client (search rules)
    (search rules)) (search rules)
