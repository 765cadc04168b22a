use Rattle.std.proofs.Common.{rules, sym, ap, subst, ◌∙◌, List, Some, Ok, Err}
use Rattle.std.proofs.lemmas.List.Sorted.{answers_always}
use Rattle.std.proofs.lemmas.Option.{slice_get-get_or}
use Rattle.driver_core.specs.Renewal.{subscription_at}
use Rattle.driver_core.specs.State.{State}
use Rattle.driver_core.proofs.SearchLemmas.{searched}
use Rattle.driver_core.proofs.state.registry.Registry.subscription.Goals as goal
use Rattle.log_readers.specs.Numbering.{Rises, number_of}
use Rattle.stream_registry.specs.declared.row.Subscription.{Subscription}

pub returns-in-Ok : goal.returns-in-Ok
returns-in-Ok c =
    let read = c.subscriptions-subscriptions.result.now in
    let same = c.subscriptions-subscriptions.ensures.value ∙ ap (λ (s : State). s.streams.subscriptions) c.self.view_is in
    let up = subst (λ rows. Rises number_of 0 c.self.inside.last_number rows) (sym c.subscriptions-subscriptions.ensures.value) c.self.invariant.kept.order.numbers in
    let by_number = c.in-Ok.ensures.position (λ (row : Subscription). row.number) (answers_always _ _ _ (λ f a r g called. search rules)) in
    ap Some c.index-subscriptions-at.is ∙ sym (slice_get-get_or read c.in-Ok.at _ c.in-Ok.ensures.bound)
    ∙ searched number_of c.args.number 0 c.self.inside.last_number read up (Ok c.in-Ok.at) c.in-Ok.ensures.bound by_number
    ∙ ap (λ (rows : List Subscription). subscription_at rows c.args.number) same

pub returns-in-Err : goal.returns-in-Err
returns-in-Err c =
    let read = c.subscriptions-subscriptions.result.now in
    let same = c.subscriptions-subscriptions.ensures.value ∙ ap (λ (s : State). s.streams.subscriptions) c.self.view_is in
    let up = subst (λ rows. Rises number_of 0 c.self.inside.last_number rows) (sym c.subscriptions-subscriptions.ensures.value) c.self.invariant.kept.order.numbers in
    let by_number = c.in-Err.ensures.position (λ (row : Subscription). row.number) (answers_always _ _ _ (λ f a r g called. search rules)) in
    searched number_of c.args.number 0 c.self.inside.last_number read up (Err c.in-Err.field-0) c.in-Err.ensures.bound by_number
    ∙ ap (λ (rows : List Subscription). subscription_at rows c.args.number) same
