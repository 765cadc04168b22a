use Rattle.std.proofs.Common.{◌≡◌, ◌<◌, rules, sym, ap, subst, ◌∙◌, length, get_or}
use Rattle.client_registry.specs.declared.client.Client.{Client}
use Rattle.client_registry.specs.Clients.{ClientList}
use Rattle.client_registry.specs.Laws.{Rises}
use Rattle.client_registry.specs.Place.{place_of}
use Rattle.client_registry.proofs.PlaceLemmas.{place_here}
use Rattle.client_registry.proofs.clients.Clients.place_unless_some_went.Goals as goal

pub returns-then-rows-at-clause-place : goal.returns-then-rows-at-clause-place
returns-then-rows-at-clause-place c =
    let same = c.as_slice-rows.ensures.value ∙ ap (λ (clients : ClientList). clients.rows) c.self.view_is in
    let rises = subst (λ rows. Rises 0 c.self.inside.last rows) (sym c.as_slice-rows.ensures.value) c.self.invariant in
    let none : Client = record { number = 0; principal = 0; heard = 0 } in
    let within : c.in_ok-at.at < length c.as_slice-rows.result.now = search rules in
    let is : (get_or c.as_slice-rows.result.now c.in_ok-at.at none).number ≡ c.args.number = search rules in
    place_here c.args.number 0 c.self.inside.last c.as_slice-rows.result.now c.in_ok-at.at none rises within is
    ∙ ap (place_of c.args.number) same
