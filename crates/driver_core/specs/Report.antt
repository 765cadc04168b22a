-- What an event's own rule reports: a draft but for the registry.
use Rattle.std.specs.Prelude.{ℕ, List, [], ◌∷◌, Option, None}
use Rattle.driver_core.specs.declared.state.outcome.Response.{Response}
use Rattle.driver_core.specs.declared.state.outcome.Response.TheVariants.{Nothing}
use Rattle.driver_core.specs.declared.state.refusal.Refusal.{Refusal}
use Rattle.driver_core.specs.declared.state.replies.Message.{Message}
use Rattle.driver_core.specs.declared.state.replies.Reply.{Reply}
use Rattle.driver_core.specs.declared.state.replies.Reply.TheVariants.{Error}
use Rattle.driver_core.specs.declared.state.report.Report.{Report}
use Rattle.driver_core.specs.Draft.{Draft}
use Rattle.policy_core.specs.declared.decision.Decision.{Decision}
use Rattle.stream_registry.specs.declared.lingering.LogPlace.{LogPlace}

abbrev pub report_of : Draft → Report
report_of draft = record {
  response = draft.response;
  replies = draft.replies;
  later = draft.later;
  decisions = draft.decisions;
  opens = draft.opens;
  closes = draft.closes;
}

-- an answer to the event, and nothing else
abbrev pub tells_answer : Response → Report
tells_answer response =
    record { response = response; replies = []; later = []; decisions = []; opens = None; closes = [] }

-- replies to commands, the later ones after those of images, and these decisions before them; and the log that opens
abbrev pub tells_replies : List Decision → List Message → List Message → Option LogPlace → Report
tells_replies decisions replies later opens = record {
  response = Nothing;
  replies = replies;
  later = later;
  decisions = decisions;
  opens = opens;
  closes = [];
}

-- one reply to one client, after these decisions
abbrev pub tells_reply : List Decision → ℕ → Reply → Report
tells_reply decisions client reply = tells_replies decisions (record { client = client; reply = reply } ∷ []) [] None

-- the client's command of this correlation id is refused, after these decisions
abbrev pub tells_refusal : List Decision → ℕ → ℕ → Refusal → Report
tells_refusal decisions client correlation refusal = tells_reply decisions client (Error correlation refusal)
