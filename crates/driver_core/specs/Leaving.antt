-- A client goes, and all that it registered goes with it.
use Rattle.std.specs.Prelude.{ℕ, List, [], ◌∷◌}
use Rattle.driver_core.specs.State.{State}
use Rattle.client_registry.specs.Clients.{without}
use Rattle.counters.specs.Counters.{without_those_of}
use Rattle.stream_registry.specs.Leaving.{left as left_in}

-- the client of this id is gone, with its registrations, its subscriptions and its counters; the publications that it
-- leaves alone linger from now on
unfoldable pub left : State → ℕ → State
left s client = record s {
  clients = without s.clients client;
  streams = left_in s.streams client s.moment;
  counters = without_those_of s.counters client;
}

-- these clients are gone, and what each had
abbrev pub all_left : State → List ℕ → State
all_left s [] = s
all_left s (client ∷ clients) = all_left (left s client) clients
