-- TERMINATE_DRIVER.
use Rattle.std.specs.Prelude.{ℕ, true, not, pos, [], ◌∷◌, map, None, Result, Ok, Err, if◌then◌else◌}
use Rattle.driver_core.specs.Draft.{Draft}
use Rattle.driver_core.specs.declared.state.outcome.Response.TheVariants.{Nothing}
use Rattle.driver_core.specs.declared.state.refusal.Refusal.TheVariants.{Denied}
use Rattle.driver_core.specs.declared.state.replies.Reply.TheVariants.{OperationSuccess}
use Rattle.driver_core.specs.Draft.{refused}
use Rattle.driver_core.specs.Deciding.{decision_by}
use Rattle.driver_core.specs.declared.state.refused.Refused.{Refused}
use Rattle.driver_core.specs.Refusing.{denied}
use Rattle.driver_core.specs.State.{State}
use Rattle.channel_uri.specs.Channel.{ipc_shape}
use Rattle.client_registry.specs.declared.client.Client.{Client}
use Rattle.client_registry.specs.Clients.{cleared}
use Rattle.destinations.specs.Destinations.{cleared as all_recalled}
use Rattle.policy_core.specs.declared.act.Act.TheVariants.{Terminate}
use Rattle.policy_core.specs.declared.decision.Decision.{Decision}
use Rattle.stream_registry.specs.Lingering.{place_of}
use Rattle.stream_registry.specs.Streams.{cleared as all_closed}

-- what the policy in force decides: the driver goes by shared memory and stream 0
abbrev pub termination_decision : State → Client → Decision
termination_decision s client = decision_by s client Terminate ipc_shape (pos 0)

-- all clients go, with all that they registered, and nobody comes any more
unfoldable pub stopped_for_good : State → State
stopped_for_good s = record s {
  clients = cleared s.clients;
  streams = all_closed s.streams;
  destinations = all_recalled s.destinations;
  counters = [];
  stopped = true;
}

-- all logs close at once, and who asked is answered
unfoldable pub terminated : State → Client → ℕ → Draft
terminated s client correlation = record {
  after = stopped_for_good s;
  response = Nothing;
  replies = record { client = client.number; reply = OperationSuccess correlation } ∷ [];
  later = [];
  decisions = termination_decision s client ∷ [];
  opens = None;
  closes = map place_of s.streams.sources;
}

-- denied, or done
unfoldable pub terminate : State → Client → ℕ → Draft
terminate s client correlation =
    if not (termination_decision s client).verdict.allow
    then refused s (termination_decision s client ∷ []) client.number correlation
    (Denied (termination_decision s client).verdict)
    else terminated s client correlation

-- what is decided on it: why it is refused, or on which decision it is granted
unfoldable pub terminating_of : State → Client → Result Decision Refused
terminating_of s client =
    if not (termination_decision s client).verdict.allow
    then Err (denied (termination_decision s client))
    else Ok (termination_decision s client)
