use Rattle.std.proofs.Common.{Ok, Err, rules}
use Rattle.driver_core.specs.Commands.{at_asking}
use Rattle.driver_core.proofs.PublishLemmas.{is_granted, publish_is}
use Rattle.driver_core.proofs.state.registry.Registry.outcome_of_publish.Goals as goal

pub outcome_of_published-requires-clause-room : goal.outcome_of_published-requires-clause-room
outcome_of_published-requires-clause-room c =
    (is_granted (at_asking c.args.self.now c.args.asking) c.args.asking.client c.args.wanted.now c.in-Ok.granted
    (search rules)).room

pub outcome_of_published-requires-clause-taken : goal.outcome_of_published-requires-clause-taken
outcome_of_published-requires-clause-taken c =
    (is_granted (at_asking c.args.self.now c.args.asking) c.args.asking.client c.args.wanted.now c.in-Ok.granted
    (search rules)).taken

pub outcome_of_published-requires-clause-decided : goal.outcome_of_published-requires-clause-decided
outcome_of_published-requires-clause-decided c =
    (is_granted (at_asking c.args.self.now c.args.asking) c.args.asking.client c.args.wanted.now c.in-Ok.granted
    (search rules)).decided

-- it is granted
pub returns-in-Ok : goal.returns-in-Ok
returns-in-Ok c =
    rw (publish_is (at_asking c.args.self.now c.args.asking) c.args.asking.client c.args.asking.correlation c.args.wanted.now
    (Ok c.in-Ok.granted) (search rules)) (search rules)

-- it is refused
pub returns-in-Err : goal.returns-in-Err
returns-in-Err c =
    rw (publish_is (at_asking c.args.self.now c.args.asking) c.args.asking.client c.args.asking.correlation c.args.wanted.now
    (Err c.in-Err.refused) (search rules)) (c.outcome_of_refused.ensures c.args.inputs.now)
