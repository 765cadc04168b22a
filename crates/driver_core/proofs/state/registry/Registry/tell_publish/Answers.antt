use Rattle.std.proofs.Common.{Ok, Err, rules}
use Rattle.driver_core.specs.Draft.{refused, replied, told}
use Rattle.driver_core.proofs.PublishLemmas.{is_granted, publish_is}
use Rattle.driver_core.proofs.state.registry.Registry.tell_publish.Goals as goal

pub tell_published-requires-clause-room : goal.tell_published-requires-clause-room
tell_published-requires-clause-room c =
    (is_granted c.args.self.now c.args.client c.args.wanted.now c.in-Ok.granted (search rules)).room

pub tell_published-requires-clause-decided : goal.tell_published-requires-clause-decided
tell_published-requires-clause-decided c =
    (is_granted c.args.self.now c.args.client c.args.wanted.now c.in-Ok.granted (search rules)).decided

-- it is granted
pub returns-in-Ok : goal.returns-in-Ok
returns-in-Ok c =
    rw (publish_is c.args.self.now c.args.client c.args.correlation c.args.wanted.now (Ok c.in-Ok.granted) (search rules))
    (c.tell_published.ensures)

-- it is refused
pub returns-in-Err : goal.returns-in-Err
unfolding refused replied told
returns-in-Err c =
    rw (publish_is c.args.self.now c.args.client c.args.correlation c.args.wanted.now (Err c.in-Err.refused) (search rules))
    (search rules)
