use Rattle.std.proofs.Common.{List, ap, ◌∙◌, Some, slice_index_or}
use Rattle.client_registry.specs.declared.client.Client.{Client}
use Rattle.client_registry.specs.Clients.{ClientList}
use Rattle.client_registry.proofs.PlaceLemmas.{client_there, client_missing}
use Rattle.client_registry.proofs.clients.Clients.get.Goals as goal

pub returns-in-Some : goal.returns-in-Some
returns-in-Some c =
    let same = c.as_slice.ensures.value ∙ ap (λ (clients : ClientList). clients.rows) c.self.view_is in
    let none : Client = record { number = 0; principal = 0; heard = 0 } in
    ap (λ (rows : List Client). Some (slice_index_or rows c.in-Some.at none)) same
    ∙ client_there c.args.number c.in-Some.at c.args.self.now.rows none c.in-Some.ensures.place c.in-Some.ensures.within

pub returns-in-None : goal.returns-in-None
returns-in-None c = client_missing c.args.number c.args.self.now.rows c.in-None.ensures.place
