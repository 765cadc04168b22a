use Rattle.compiled_policy.specs.Numbered.{standing}
use Rattle.std.proofs.Common.{◌≡◌, ◌+◌, rules, ap, ◌∙◌}
use Rattle.driver_core.specs.State.{State}
use Rattle.client_registry.specs.Clients.{principal_at}
use Rattle.std.specs.Prelude.{true, is_some}
use Rattle.log_readers.specs.Readers.{all_readers}
use Rattle.stream_registry.specs.Adding.{subscribed}
use Rattle.driver_core.proofs.StillReadLemmas.{tended_subscribed}
use Rattle.driver_core.proofs.state.registry.Registry.put_subscription.Goals as goal

pub invariant_of-self : goal.invariant_of-self
invariant_of-self c =
    let number : c.next_number.result ≡ c.self.inside.last_number + 1 = search rules in
    let owned : is_some (principal_at c.self.inside.clients.rows c.args.client) ≡ true =
    ap (λ (s : State). is_some (principal_at s.clients.rows c.args.client)) c.self.view_is ∙ c.requires.owned
    in
    let rows : c.add_subscription-2.new.self ≡ subscribed c.self.inside.streams (c.self.inside.last_number + 1) c.args.client c.args.channel.now c.args.stream = search rules in
    let after : c.add_subscription.new.self ≡ all_readers (subscribed c.self.inside.streams (c.self.inside.last_number + 1) c.args.client c.args.channel.now c.args.stream) c.self.inside.clients.rows (standing c.self.inside.compiled) c.self.inside.compiled.epoch = search rules in
    rw (number, rows)
    (tended_subscribed c.self.inside.streams c.self.inside.clients.rows (standing c.self.inside.compiled) c.self.inside.compiled.epoch c.self.inside.last_number
    c.args.client c.args.channel.now c.args.stream c.self.inside.readers c.add_subscription.new.self c.self.inside.all_read c.self.invariant owned after)
