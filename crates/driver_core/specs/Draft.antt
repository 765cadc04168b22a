-- What an event's own rule makes of the registry, before the pairs are renewed.
use Rattle.std.specs.Prelude.{ℕ, List, [], ◌∷◌, Option, None}
use Rattle.driver_core.specs.declared.state.outcome.Response.{Response}
use Rattle.driver_core.specs.declared.state.outcome.Response.TheVariants.{Nothing}
use Rattle.driver_core.specs.declared.state.refusal.Refusal.{Refusal}
use Rattle.driver_core.specs.declared.state.replies.Message.{Message}
use Rattle.driver_core.specs.declared.state.replies.Reply.{Reply}
use Rattle.driver_core.specs.declared.state.replies.Reply.TheVariants.{Error}
use Rattle.driver_core.specs.State.{State}
use Rattle.policy_core.specs.declared.decision.Decision.{Decision}
use Rattle.stream_registry.specs.declared.lingering.LogPlace.{LogPlace}

-- what an event's own rule leaves, and what it reports: its answer, its replies, those after the replies of images, what
-- was decided, and which logs open and close
pub record Draft : Type 0 where
  pub after : State
  pub response : Response
  pub replies : List Message
  pub later : List Message
  pub decisions : List Decision
  pub opens : Option LogPlace
  pub closes : List LogPlace

-- the event is answered, and nobody is notified
unfoldable pub answered : State → Response → Draft
answered after response = record {
  after = after;
  response = response;
  replies = [];
  later = [];
  decisions = [];
  opens = None;
  closes = [];
}

-- these replies, the later ones after those of images, and these decisions before them
unfoldable pub told : State → List Decision → List Message → List Message → Draft
told after decisions replies later = record {
  after = after;
  response = Nothing;
  replies = replies;
  later = later;
  decisions = decisions;
  opens = None;
  closes = [];
}

-- one reply to one client, after these decisions
unfoldable pub replied : State → List Decision → ℕ → Reply → Draft
replied after decisions client reply = told after decisions (record { client = client; reply = reply } ∷ []) []

-- one reply to one client, after these decisions, and this log opens, if one does
unfoldable pub replied_opening : State → List Decision → ℕ → Reply → Option LogPlace → Draft
replied_opening after decisions client reply opens =
    record (replied after decisions client reply) { opens = opens }

-- the client's command of this correlation id is refused, after these decisions
unfoldable pub refused : State → List Decision → ℕ → ℕ → Refusal → Draft
refused after decisions client correlation refusal =
    replied after decisions client (Error correlation refusal)
