-- A client comes.
use Rattle.std.specs.Prelude.{ℕ, ◌+◌, if◌then◌else◌}
use Rattle.driver_core.specs.Draft.{Draft}
use Rattle.driver_core.specs.declared.state.outcome.Response.TheVariants.{Attached, Full, Stopped}
use Rattle.driver_core.specs.Draft.{answered}
use Rattle.driver_core.specs.State.{State}
use Rattle.client_registry.specs.Clients.{admitted, has_room}

-- the client is there, under the next id, and was heard of now
unfoldable pub attached : State → ℕ → Draft
attached s principal =
    answered (record s { clients = admitted s.clients principal s.moment }) (Attached (s.clients.last + 1))

-- nobody comes to a driver that was stopped, and then none past the limit
unfoldable pub attach : State → ℕ → Draft
attach s principal =
    if s.stopped then answered s Stopped
    else if has_room s.clients then attached s principal
    else answered s Full
