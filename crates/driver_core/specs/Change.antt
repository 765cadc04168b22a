-- What an event leaves, and what it reports.
use Rattle.driver_core.specs.declared.state.outcome.Outcome.{Outcome}
use Rattle.driver_core.specs.State.{State}

pub record Change : Type 0 where
  pub after : State
  pub outcome : Outcome
