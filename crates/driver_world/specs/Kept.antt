-- Events as a world keeps them. Own rules.
use Rattle.driver_core.specs.declared.state.event.Event.{Event}
use Rattle.driver_core.specs.declared.state.event.Event.TheVariants as event
use Rattle.driver_world.specs.declared.kept.Happening.{Happening}
use Rattle.driver_world.specs.declared.kept.Happening.TheVariants.{Attach, Command, Reload, Tick, Setup}

-- the event that it was
abbrev pub event_of : Happening → Event
event_of (Attach now principal) = event.Attach now principal
event_of (Command now client bytes) = event.Command now client bytes
event_of (Reload now policy) = event.Reload now policy
event_of (Tick now) = event.Tick now
event_of (Setup now local from setup) = event.Setup now local from setup
