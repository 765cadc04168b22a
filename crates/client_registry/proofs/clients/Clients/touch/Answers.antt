use Rattle.std.proofs.Common.{List, sym, ap, subst, ◌∙◌}
use Rattle.client_registry.specs.declared.client.Client.{Client}
use Rattle.client_registry.specs.Clients.{ClientList, touched}
use Rattle.client_registry.specs.Laws.{Rises, IsOrderly}
use Rattle.client_registry.specs.Place.{place_of}
use Rattle.client_registry.proofs.OrderLemmas.{rises_heard}
use Rattle.client_registry.proofs.PlaceLemmas.{heard_there, heard_nowhere}
use Rattle.client_registry.proofs.clients.Clients.touch.Goals as goal

pub invariant_of-self : goal.invariant_of-self
invariant_of-self c =
    let place = c.in-Some.ensures.place ∙ ap (λ (clients : ClientList). place_of c.args.number clients.rows) (sym c.self.view_is) in
    let heard = (rw (c.max-heard.ensures, c.as_slice.ensures.value) at c.set.ensures)
    ∙ heard_there c.args.number c.args.now 0 c.self.inside.last c.in-Some.at c.self.inside.rows _ c.self.invariant place in
    subst (λ rows. Rises 0 c.self.inside.last rows) (sym heard)
    (rises_heard c.args.number c.args.now 0 c.self.inside.last c.self.inside.rows c.self.invariant)

pub returns-in-Some : goal.returns-in-Some
unfolding touched
returns-in-Some c =
    let place = c.in-Some.ensures.place ∙ ap (λ (clients : ClientList). place_of c.args.number clients.rows) (sym c.self.view_is) in
    let heard = (rw (c.max-heard.ensures, c.as_slice.ensures.value) at c.set.ensures)
    ∙ heard_there c.args.number c.args.now 0 c.self.inside.last c.in-Some.at c.self.inside.rows _ c.self.invariant place in
    let all : List Client → ClientList = λ rows. record { liveness = c.self.inside.liveness; rows = rows; last = c.self.inside.last } in
    ap all heard ∙ ap (λ (clients : ClientList). touched clients c.args.number c.args.now) c.self.view_is

pub returns-in-None : goal.returns-in-None
unfolding touched
returns-in-None c =
    let orderly = subst IsOrderly c.self.view_is c.self.invariant in
    let all : List Client → ClientList = λ rows. record c.args.self.now { rows = rows } in
    ap all (heard_nowhere c.args.number c.args.now 0 c.args.self.now.last c.args.self.now.rows
    (record { number = 0; principal = 0; heard = 0 }) orderly c.in-None.ensures.place)
