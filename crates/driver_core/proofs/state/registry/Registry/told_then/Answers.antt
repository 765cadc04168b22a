use Rattle.std.proofs.Common.{◌≡◌, sym, subst}
use Rattle.std.specs.Prelude.{IfOk}
use Rattle.driver_core.specs.Conduct.{drafted}
use Rattle.driver_core.specs.Renewal.{outcome_by}
use Rattle.driver_core.specs.State.{State}
use Rattle.driver_core.proofs.RuledLemmas.{coming_so}
use Rattle.driver_core.proofs.state.registry.Registry.told_then.Goals as goal

-- no bound comes before the event
pub returns-then-is_ruled_so : goal.returns-then-is_ruled_so
returns-then-is_ruled_so c =
    subst (λ (t : State). IfOk c.told.result (λ outcome. outcome ≡ outcome_by c.args.self.now c.args.inputs.now (drafted t c.args.event.now c.args.inputs.now)))
    (sym (coming_so c.args.self.now c.args.event.now c.moment.result c.moment.ensures (c.is_ruled_so.ensures c.if-is_ruled_so.true)))
    c.told.ensures
