use Rattle.std.proofs.Common.{sym, subst}
use Rattle.destinations.specs.Destinations.{is_other}
use Rattle.destinations.specs.Laws.{AreOrderly}
use Rattle.destinations.proofs.OrderLemmas.{kept_orderly}
use Rattle.destinations.proofs.destinations.Destinations.remove.Goals as goal

pub invariant_of-self : goal.invariant_of-self
invariant_of-self c =
    subst (λ rows. AreOrderly c.self.inside.last rows) (sym c.retain.ensures)
    (kept_orderly (is_other c.args.source c.args.address.now) c.self.inside.last c.self.inside.rows c.self.invariant)
