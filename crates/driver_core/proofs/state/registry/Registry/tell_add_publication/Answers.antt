use Rattle.std.proofs.Common.{Err, rules}
use Rattle.driver_core.specs.Draft.{refused, replied, told}
use Rattle.driver_core.proofs.PublishLemmas.{added_on, not_taken}
use Rattle.driver_core.proofs.state.registry.Registry.tell_add_publication.Goals as goal

-- the command does not take the channel
pub returns-then-not-is_publishable : goal.returns-then-not-is_publishable
unfolding refused replied told
returns-then-not-is_publishable c =
    rw (not_taken c.args.self.now c.args.client c.args.correlation c.args.fields.now c.args.exclusive c.in-Ok.channel.now (search rules)
    (search rules)) (search rules)

-- the text is no channel
pub returns-in-Err : goal.returns-in-Err
unfolding refused replied told
returns-in-Err c =
    rw (added_on c.args.self.now c.args.client c.args.correlation c.args.fields.now c.args.exclusive (Err c.in-Err.field-0) (search rules))
    (search rules)
