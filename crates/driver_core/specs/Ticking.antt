-- Time goes on: clients of which nothing was heard for too long go, and publications that linger for too long close, as do
-- images of which nothing was heard.
use Rattle.std.specs.Prelude.{ℕ, List, [], map, filter, None}
use Rattle.driver_core.specs.Draft.{Draft}
use Rattle.driver_core.specs.declared.state.outcome.Response.TheVariants.{Nothing}
use Rattle.driver_core.specs.declared.state.replies.Message.{Message}
use Rattle.driver_core.specs.declared.state.replies.Reply.TheVariants.{ClientTimeout}
use Rattle.driver_core.specs.Leaving.{all_left}
use Rattle.driver_core.specs.State.{State}
use Rattle.client_registry.specs.Clients.{expired_of}
use Rattle.destinations.specs.Destinations.{without_sources}
use Rattle.stream_registry.specs.declared.row.LogRow.{LogRow}
use Rattle.stream_registry.specs.Lingering.{closed, closing_of, is_closing}

-- the clients of which nothing was heard for longer than the liveness, by their ids
abbrev pub late : State → List ℕ
late s = expired_of s.clients s.moment

-- what is reported to a client that is late, over its own handle
abbrev pub timeout_of : ℕ → Message
timeout_of client = record { client = client; reply = ClientTimeout client }

-- the numbers of the logs that close
abbrev pub numbers_of_closing : ℕ → List ℕ → List LogRow → List ℕ
numbers_of_closing now silent logs = map (λ log. log.number) (filter (is_closing now silent) logs)

-- the logs close that linger for too long, with their destinations, and these images, which are silent
unfoldable pub closed_past : State → List ℕ → State
closed_past s silent = record s {
  streams = closed s.streams s.moment silent;
  destinations = without_sources s.destinations (numbers_of_closing s.moment silent s.streams.sources);
}

-- they close, and it is reported to these clients that they are gone
unfoldable pub ticked : State → List ℕ → List ℕ → Draft
ticked s clients silent = record {
  after = closed_past s silent;
  response = Nothing;
  replies = [];
  later = map timeout_of clients;
  decisions = [];
  opens = None;
  closes = closing_of s.streams s.moment silent;
}

-- the late ones go first, each with what it registered
unfoldable pub tick : State → List ℕ → Draft
tick s silent = ticked (all_left s (late s)) (late s) silent
