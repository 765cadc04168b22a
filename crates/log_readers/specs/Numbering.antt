-- What lists keep so that what goes and comes is known from the rows that an event changes. Own rules.
use Rattle.std.specs.Prelude.{◌≡◌, ℕ, ◌<◌, ◌≤◌, true, List, [], ◌∷◌, All, is_some}
use Rattle.client_registry.specs.declared.client.Client.{Client}
use Rattle.client_registry.specs.Clients.{principal_at}
use Rattle.stream_registry.specs.declared.row.LogRow.{LogRow}
use Rattle.stream_registry.specs.declared.row.Registration.{Registration}
use Rattle.stream_registry.specs.declared.row.Subscription.{Subscription}
use Rattle.stream_registry.specs.Streams.{Streams}

-- each row's number is above that of the row before it, the first one's above `low`, and the last one's at most `last`
abbrev pub Rises : {A : Type 0} → (A → ℕ) → ℕ → ℕ → List A → Type 0
Rises number_of low last [] = low ≤ last
Rises number_of low last (row ∷ rows) = (low < number_of row) × Rises number_of (number_of row) last rows

abbrev pub source_of : LogRow → ℕ
source_of log = log.number

abbrev pub number_of : Subscription → ℕ
number_of subscription = subscription.number

abbrev pub registered_as : Registration → ℕ
registered_as registration = registration.number

-- the client whose subscription it is is there
abbrev pub IsOwned : List Client → Subscription → Type 0
IsOwned clients subscription = is_some (principal_at clients subscription.client) ≡ true

-- where this number was drawn last, numbers rise among the logs, among the registrations with them, and among the
-- subscriptions, and each subscription is owned
pub record AreInOrder (s : Streams) (clients : List Client) (last : ℕ) : Type 0 where
  pub sources : Rises source_of 0 last s.sources
  pub registered : Rises registered_as 0 last s.registrations
  pub numbers : Rises number_of 0 last s.subscriptions
  pub owned : All (IsOwned clients) s.subscriptions
