-- REMOVE_SUBSCRIPTION.
use Rattle.std.specs.Prelude.{ℕ, [], if◌then◌else◌}
use Rattle.driver_core.specs.Draft.{Draft}
use Rattle.driver_core.specs.declared.state.refusal.Refusal.TheVariants.{UnknownSubscription}
use Rattle.driver_core.specs.declared.state.replies.Reply.TheVariants.{OperationSuccess}
use Rattle.driver_core.specs.Draft.{replied, refused}
use Rattle.driver_core.specs.State.{State}
use Rattle.client_registry.specs.declared.client.Client.{Client}
use Rattle.command_codec.specs.declared.removal.Removal.{Removal}
use Rattle.stream_registry.specs.Leaving.{has_subscription, unsubscribed as unsubscribed_in}

-- it goes, and all others stay
unfoldable pub unsubscribed : State → Client → ℕ → ℕ → Draft
unsubscribed s client correlation number =
    replied (record s { streams = unsubscribed_in s.streams client.number number }) [] client.number
    (OperationSuccess correlation)

-- what another client subscribed to is as unknown as what nobody did
unfoldable pub remove_subscription : State → Client → ℕ → Removal → Draft
remove_subscription s client correlation fields =
    if has_subscription s.streams client.number fields.registration
    then unsubscribed s client correlation fields.registration
    else refused s [] client.number correlation UnknownSubscription
