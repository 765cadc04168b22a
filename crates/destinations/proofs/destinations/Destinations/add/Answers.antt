use Rattle.std.proofs.Common.{refl, sym, subst, ◌∙◌}
use Rattle.destinations.specs.Destinations.{DestinationList}
use Rattle.destinations.specs.Laws.{AreOrderly}
use Rattle.destinations.proofs.OrderLemmas.{Adds, adds, next_orderly}
use Rattle.destinations.proofs.destinations.Destinations.add.Goals as goal

pub invariant_of-self : goal.invariant_of-self
invariant_of-self c =
    let told = adds c.args.self.now c.args.source c.args.address.now c.in_ok-number.number (sym c.adding.ensures ∙ c.in_ok-number.was) in
    let from = subst (λ (d : DestinationList). Adds d c.args.source c.args.address.now c.in_ok-number.number) (sym c.self.view_is) told in
    subst (λ rows. AreOrderly c.in_ok-number.number rows) (sym c.push_by.ensures)
    (next_orderly c.self.inside.last c.in_ok-number.number c.self.inside.rows _ from.next refl from.room from.missing c.self.invariant)
