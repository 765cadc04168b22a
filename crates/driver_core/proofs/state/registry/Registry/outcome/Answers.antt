use Rattle.std.proofs.Common.{◌≡◌, sym, ap}
use Rattle.driver_core.specs.declared.state.outcome.Outcome.{Outcome}
use Rattle.driver_core.specs.Change.{Change}
use Rattle.driver_core.specs.Conduct.{coming_to, conduct, drafted}
use Rattle.driver_core.specs.Renewal.{renewed}
use Rattle.driver_core.specs.Unread.{dropping}
use Rattle.driver_core.proofs.state.registry.Registry.outcome.Goals as goal

pub returns : goal.returns
unfolding conduct dropping renewed
returns c =
    let change : Change = renewed c.args.self.now c.args.inputs.now (drafted (coming_to c.args.self.now c.args.event.now) c.args.event.now c.args.inputs.now) in
    let is : c.in_ok-outcome.outcome ≡ change.outcome = c.in_ok-outcome.ensures in
    let closes = c.in_ok-outcome-2.ensures change (sym is) (ap (λ (outcome : Outcome). outcome.gone) is) (ap (λ (outcome : Outcome). outcome.come) is) in
    λ i. record (is i) { closes = closes i }
