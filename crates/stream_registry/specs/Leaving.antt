-- What goes where a registration, a subscription or a client goes.
use Rattle.std.specs.Prelude.{◌≡◌, ℕ, ◌<◌, Bool, true, not, ◌==◌, ◌&&◌, List, filter, length, slice_index_or}
use Rattle.std.specs.List.{list_any}
use Rattle.stream_registry.specs.declared.row.Registration.{Registration}
use Rattle.stream_registry.specs.declared.row.Subscription.{Subscription}
use Rattle.stream_registry.specs.Lingering.{settled}
use Rattle.stream_registry.specs.Streams.{Streams}

-- the client's registration of this number
abbrev pub is_own_registration : ℕ → ℕ → Registration → Bool
is_own_registration client number registration = registration.client == client && registration.number == number

-- and it is with that log
abbrev pub is_own_with : ℕ → ℕ → ℕ → Registration → Bool
is_own_with client number source registration =
    is_own_registration client number registration && registration.source == source

abbrev pub is_another_registration : ℕ → ℕ → Registration → Bool
is_another_registration client number registration = not (is_own_registration client number registration)

-- what another client registered is as unknown as what nobody did
abbrev pub has_registration : Streams → ℕ → ℕ → Bool
has_registration s client number = list_any (is_own_registration client number) s.registrations

-- it goes, and its publication lingers from now on where nobody else is registered with it
unfoldable pub unregistered : Streams → ℕ → ℕ → ℕ → Streams
unregistered s client number now =
    settled (record s { registrations = filter (is_another_registration client number) s.registrations }) now

-- the client's subscription of this number
abbrev pub is_own_subscription : ℕ → ℕ → Subscription → Bool
is_own_subscription client number subscription = subscription.client == client && subscription.number == number

-- it is the row at this place
abbrev pub IsOwnAt : ℕ → ℕ → List Subscription → ℕ → Type 0
IsOwnAt client number rows at =
    (at < length rows) × ((d : Subscription) → is_own_subscription client number (slice_index_or rows at d) ≡ true)

abbrev pub is_another_subscription : ℕ → ℕ → Subscription → Bool
is_another_subscription client number subscription = not (is_own_subscription client number subscription)

abbrev pub has_subscription : Streams → ℕ → ℕ → Bool
has_subscription s client number = list_any (is_own_subscription client number) s.subscriptions

unfoldable pub unsubscribed : Streams → ℕ → ℕ → Streams
unsubscribed s client number = record s { subscriptions = filter (is_another_subscription client number) s.subscriptions }

-- what is not this client's
abbrev pub is_registration_of_another : ℕ → Registration → Bool
is_registration_of_another client registration = not (registration.client == client)

abbrev pub is_subscription_of_another : ℕ → Subscription → Bool
is_subscription_of_another client subscription = not (subscription.client == client)

-- all that the client registered and subscribed to goes; the publications that it leaves alone linger from now on
unfoldable pub left : Streams → ℕ → ℕ → Streams
left s client now =
    settled (record s {
      registrations = filter (is_registration_of_another client) s.registrations;
      subscriptions = filter (is_subscription_of_another client) s.subscriptions;
    }) now
