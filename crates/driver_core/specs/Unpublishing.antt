-- REMOVE_PUBLICATION.
use Rattle.std.specs.Prelude.{ℕ, [], if◌then◌else◌}
use Rattle.driver_core.specs.Draft.{Draft}
use Rattle.driver_core.specs.declared.state.refusal.Refusal.TheVariants.{UnknownPublication}
use Rattle.driver_core.specs.declared.state.replies.Reply.TheVariants.{OperationSuccess}
use Rattle.driver_core.specs.Draft.{replied, refused}
use Rattle.driver_core.specs.State.{State}
use Rattle.client_registry.specs.declared.client.Client.{Client}
use Rattle.command_codec.specs.declared.removal.Removal.{Removal}
use Rattle.stream_registry.specs.Leaving.{has_registration, unregistered}

-- the registration goes; its publication lingers from now on where it was the last one
unfoldable pub unpublished : State → Client → ℕ → ℕ → Draft
unpublished s client correlation number =
    replied (record s { streams = unregistered s.streams client.number number s.moment }) [] client.number
    (OperationSuccess correlation)

-- what another client registered is as unknown as what nobody did
unfoldable pub remove_publication : State → Client → ℕ → Removal → Draft
remove_publication s client correlation fields =
    if has_registration s.streams client.number fields.registration
    then unpublished s client correlation fields.registration
    else refused s [] client.number correlation UnknownPublication
