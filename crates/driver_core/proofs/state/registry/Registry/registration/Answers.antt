use Rattle.std.proofs.Common.{rules, sym, ap, subst, ◌∙◌, List, Some, Ok, Err, find, ◌==◌}
use Rattle.std.proofs.lemmas.List.Sorted.{answers_always}
use Rattle.std.proofs.lemmas.Option.{slice_get-get_or}
use Rattle.driver_core.specs.State.{State}
use Rattle.driver_core.proofs.SearchLemmas.{searched}
use Rattle.driver_core.proofs.state.registry.Registry.registration.Goals as goal
use Rattle.log_readers.specs.Numbering.{Rises, registered_as}
use Rattle.stream_registry.specs.declared.row.Registration.{Registration}

pub returns-in-Ok-clause-found : goal.returns-in-Ok-clause-found
returns-in-Ok-clause-found c =
    let read = c.registrations-registrations.result.now in
    let same = c.registrations-registrations.ensures ∙ ap (λ (s : State). s.streams.registrations) c.self.view_is in
    let up = subst (λ rows. Rises registered_as 0 c.self.inside.last_number rows) (sym c.registrations-registrations.ensures) c.self.invariant.kept.order.registered in
    let by_number = c.in-Ok.ensures.position (λ (row : Registration). row.number) (answers_always _ _ _ (λ f a r g called. search rules)) in
    ap Some c.index-registrations-at.is ∙ sym (slice_get-get_or read c.in-Ok.at _ c.in-Ok.ensures.bound)
    ∙ searched registered_as c.args.number 0 c.self.inside.last_number read up (Ok c.in-Ok.at) c.in-Ok.ensures.bound by_number
    ∙ ap (λ (rows : List Registration). find (λ (row : Registration). row.number == c.args.number) rows) same

pub returns-in-Err-clause-found : goal.returns-in-Err-clause-found
returns-in-Err-clause-found c =
    let read = c.registrations-registrations.result.now in
    let same = c.registrations-registrations.ensures ∙ ap (λ (s : State). s.streams.registrations) c.self.view_is in
    let up = subst (λ rows. Rises registered_as 0 c.self.inside.last_number rows) (sym c.registrations-registrations.ensures) c.self.invariant.kept.order.registered in
    let by_number = c.in-Err.ensures.position (λ (row : Registration). row.number) (answers_always _ _ _ (λ f a r g called. search rules)) in
    searched registered_as c.args.number 0 c.self.inside.last_number read up (Err c.in-Err.field-0) c.in-Err.ensures.bound by_number
    ∙ ap (λ (rows : List Registration). find (λ (row : Registration). row.number == c.args.number) rows) same

pub returns-in-Ok-clause-order : goal.returns-in-Ok-clause-order
returns-in-Ok-clause-order c = rw (← c.self.view_is) c.self.invariant.kept.order.registered

pub returns-in-Err-clause-order : goal.returns-in-Err-clause-order
returns-in-Err-clause-order c = rw (← c.self.view_is) c.self.invariant.kept.order.registered
