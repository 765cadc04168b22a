-- What the conductor knows, as plain data.
use Rattle.std.specs.Prelude.{ℕ, Bool, false, nat_lt, List, [], max}
use Rattle.driver_core.specs.declared.state.peer.Peer.{Peer}
use Rattle.driver_core.specs.declared.state.settings.Settings.{Settings}
use Rattle.client_registry.specs.Clients.{ClientList, opened as nobody}
use Rattle.counters.specs.declared.counter.Counter.{Counter}
use Rattle.destinations.specs.Destinations.{DestinationList, none as nothing_named}
use Rattle.policy_core.specs.Moments.{at, coming}
use Rattle.policy_core.specs.RuleList.{Rules}
use Rattle.stream_registry.specs.declared.measures.Measures.{Measures}
use Rattle.stream_registry.specs.Streams.{Streams, opened as nothing_published}

-- the policy in force as its text has it (`given`), what it is at the greatest moment seen (`policy`) and what it becomes later
-- (`prospects`), with its number, that moment, the clients, what they publish and subscribe to, where
-- their publications are directed, their counters in the order in which they came, the number that was drawn last, and
-- whether the driver was stopped
pub record State : Type 0 where
  pub settings : Settings
  pub peers : List Peer
  pub given : Rules
  pub policy : Rules
  pub prospects : List Rules
  pub epoch : ℕ
  pub moment : ℕ
  pub clients : ClientList
  pub streams : Streams
  pub destinations : DestinationList
  pub counters : List Counter
  pub last_number : ℕ
  pub stopped : Bool

-- what a log is made by where its channel says nothing
abbrev pub measures_in : Settings → Measures
measures_in settings =
    record { mtu = settings.mtu; term_length = settings.term_length; linger = settings.linger }

-- nobody is there, under policy 1
unfoldable pub opened : Settings → Rules → List Peer → State
opened settings policy peers = record {
  settings = settings;
  peers = peers;
  given = policy;
  policy = at policy 0;
  prospects = coming policy 0;
  epoch = 1;
  moment = 0;
  clients = nobody settings.client_liveness;
  streams = nothing_published (measures_in settings) settings.first_session;
  destinations = nothing_named;
  counters = [];
  last_number = 0;
  stopped = false;
}

-- a number is left that was not drawn yet
unfoldable pub has_number : State → Bool
has_number s = nat_lt s.last_number 18446744073709551615

-- at this moment; an earlier one counts as the one seen
unfoldable pub at_moment : State → ℕ → State
at_moment s now = record s { moment = max s.moment now }

-- the policy is what it is at this moment; an earlier one counts as the one seen
unfoldable pub ruled : State → ℕ → State
ruled s now = record s {
  policy = at s.given (max s.moment now);
  prospects = coming s.given (max s.moment now);
}
