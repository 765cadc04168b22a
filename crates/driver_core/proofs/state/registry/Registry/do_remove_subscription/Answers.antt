use Rattle.compiled_policy.specs.Numbered.{standing}
use Rattle.std.proofs.Common.{◌≡◌, true, rules, sym, ap, ◌∙◌}
use Rattle.std.specs.List.{Contains}
use Rattle.stream_registry.specs.declared.row.Subscription.{Subscription}
use Rattle.stream_registry.specs.Leaving.{has_subscription, unsubscribed}
use Rattle.stream_registry.specs.Wish.{row_of}
use Rattle.log_readers.specs.Readers.{all_readers}
use Rattle.driver_core.proofs.KeptLemmas.{kept_length, kept_unsubscribed, unknown}
use Rattle.driver_core.proofs.UnsubscribeLemmas.{own_number}
use Rattle.driver_core.proofs.state.registry.Registry.do_remove_subscription.Goals as goal

pub remove_row-requires : goal.remove_row-requires
remove_row-requires c =
    kept_length c.self.inside.streams c.self.inside.clients.rows (standing c.self.inside.compiled) c.self.inside.compiled.epoch c.self.inside.last_number
    c.self.inside.readers c.self.invariant.kept

pub invariant_of-self : goal.invariant_of-self
invariant_of-self c =
    let number : c.in-Some.row.now.number ≡ c.args.fields.registration =
    own_number c.args.client.number c.args.fields.registration c.in-Some.row.now c.in-Some.ensures.own in
    let same : c.wish.result.number ≡ c.args.fields.registration = ap (λ (row : Subscription). row.number) c.wish.ensures ∙ number in
    let own : has_subscription c.self.inside.streams c.args.client.number c.args.fields.registration ≡ true = sym c.in-Some.ensures.known in
    let known : has_subscription c.self.inside.streams c.args.client.number c.wish.result.number ≡ true = rw same own in
    let there : Contains c.self.inside.streams.subscriptions (row_of c.wish.result) = rw c.wish.ensures c.in-Some.ensures.there in
    let rows : c.remove_subscription.new.self ≡ unsubscribed c.self.inside.streams c.args.client.number c.args.fields.registration = search rules in
    let after : c.remove_row.new.self
    ≡ all_readers (unsubscribed c.self.inside.streams c.args.client.number c.args.fields.registration) c.self.inside.clients.rows
    (standing c.self.inside.compiled) c.self.inside.compiled.epoch =
    rw same at
    (c.remove_row.ensures c.self.inside.clients.rows (standing c.self.inside.compiled) c.self.inside.compiled.epoch c.args.client.number 0
    c.self.inside.last_number c.self.invariant.kept.order.numbers there known c.self.invariant.kept.exact)
    in
    rw rows
    (unknown (kept_unsubscribed c.self.inside.streams c.self.inside.clients.rows (standing c.self.inside.compiled) c.self.inside.compiled.epoch c.self.inside.last_number
    c.args.client.number c.args.fields.registration c.self.inside.readers c.remove_row.new.self c.self.invariant.kept after))
