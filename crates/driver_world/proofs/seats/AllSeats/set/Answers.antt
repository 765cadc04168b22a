use Rattle.std.proofs.Common.{◌≡◌, Some, None, refl, sym, ◌∙◌}
use Rattle.driver_world.specs.Views.{seat_place}
use Rattle.driver_world.proofs.PlaceLemmas.{found_at, found_nowhere}
use Rattle.driver_world.proofs.ViewLemmas.{seated_changed, unseated}
use Rattle.driver_world.proofs.seats.AllSeats.set.Goals as goal

pub returns-in-Some : goal.returns-in-Some
returns-in-Some c =
    let place : seat_place c.self.inside.clients.items c.in-Client.id ≡ Some c.in-Some.at =
    rw (← c.as_slice.ensures.value) (sym c.place_of.ensures ∙ c.in-Some.is) in
    let found = found_at c.self.inside.clients.items c.in-Client.id c.in-Some.at place in
    rw (c.in-Client.is, ← c.self.view_is)
    (rw (seated_changed c.in-Client.id c.args.seat c.self.inside.clients.items, found.2 c.args.seat c.index_mut.result.now, ← c.index_mut.ensures.value) refl)

pub returns-in-None : goal.returns-in-None
returns-in-None c =
    let place : seat_place c.self.inside.clients.items c.in-Client.id ≡ None =
    rw (← c.as_slice.ensures.value) (sym c.place_of.ensures ∙ c.in-None.is) in
    rw (c.in-Client.is, ← c.self.view_is)
    (rw (unseated c.in-Client.id c.args.seat c.self.inside.clients.items (found_nowhere c.self.inside.clients.items c.in-Client.id place)) refl)
