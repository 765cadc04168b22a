use Rattle.std.proofs.Common.{rules, sym, ap, subst, ◌∙◌, Ok, Err}
use Rattle.std.proofs.lemmas.List.Sorted.{answers_always}
use Rattle.client_registry.specs.declared.client.Client.{Client}
use Rattle.client_registry.specs.Clients.{ClientList}
use Rattle.client_registry.specs.Laws.{Rises}
use Rattle.client_registry.specs.Place.{place_of}
use Rattle.client_registry.proofs.PlaceLemmas.{searched}
use Rattle.client_registry.proofs.clients.Clients.place_by_halving.Goals as goal

pub returns-in-Ok-clause-place : goal.returns-in-Ok-clause-place
returns-in-Ok-clause-place c =
    let same = c.as_slice-rows.ensures.value ∙ ap (λ (clients : ClientList). clients.rows) c.self.view_is in
    let rises = subst (λ rows. Rises 0 c.self.inside.last rows) (sym c.as_slice-rows.ensures.value) c.self.invariant in
    let by_number = c.in-Ok.ensures.position (λ (client : Client). client.number) (answers_always _ _ _ (λ f a r g called. search rules)) in
    searched c.args.number 0 c.self.inside.last c.as_slice-rows.result.now rises (Ok c.in-Ok.at) c.in-Ok.ensures.bound by_number
    ∙ ap (place_of c.args.number) same

pub returns-in-Err-clause-place : goal.returns-in-Err-clause-place
returns-in-Err-clause-place c =
    let same = c.as_slice-rows.ensures.value ∙ ap (λ (clients : ClientList). clients.rows) c.self.view_is in
    let rises = subst (λ rows. Rises 0 c.self.inside.last rows) (sym c.as_slice-rows.ensures.value) c.self.invariant in
    let by_number = c.in-Err.ensures.position (λ (client : Client). client.number) (answers_always _ _ _ (λ f a r g called. search rules)) in
    searched c.args.number 0 c.self.inside.last c.as_slice-rows.result.now rises (Err c.in-Err.field-0) c.in-Err.ensures.bound by_number
    ∙ ap (place_of c.args.number) same
