-- Which command a reply answers, and how, as far as it counts. Own rules.
use Rattle.std.specs.Prelude.{ℕ, Option, Some, None}
use Rattle.driver_core.specs.declared.state.refusal.Refusal.{Refusal}
use Rattle.driver_core.specs.declared.state.refusal.Refusal.TheVariants as refusals
use Rattle.driver_core.specs.declared.state.replies.Reply.{Reply}
use Rattle.driver_core.specs.declared.state.replies.Reply.TheVariants as replies
use Rattle.media_agents.specs.declared.mail.ClientReply.{ClientReply}
use Rattle.media_agents.specs.declared.mail.ClientReply.TheVariants as client_replies
use Rattle.service_bounds.specs.declared.outcome.Outcome.{Outcome}
use Rattle.service_bounds.specs.declared.outcome.Outcome.TheVariants as outcomes

-- the client has nothing of that sort under the number that it names; or there is another reason
abbrev pub refusal_outcome : Refusal → Outcome
refusal_outcome refusals.UnknownPublication = outcomes.Missing
refusal_outcome refusals.UnknownSubscription = outcomes.Missing
refusal_outcome refusals.UnknownCounter = outcomes.Missing
refusal_outcome other = outcomes.Refused

-- other replies answer no command
abbrev pub reply_answer : Reply → Option (ℕ × Outcome)
reply_answer (replies.Error correlation refusal) = Some (correlation, refusal_outcome refusal)
reply_answer (replies.OperationSuccess correlation) = Some (correlation, outcomes.Done)
reply_answer (replies.PublicationReady correlation registration session stream) = Some (correlation, outcomes.Stands registration)
reply_answer (replies.ExclusivePublicationReady correlation registration session stream) = Some (correlation, outcomes.Stands registration)
reply_answer (replies.SubscriptionReady correlation registration) = Some (correlation, outcomes.Stands registration)
reply_answer (replies.CounterReady correlation registration) = Some (correlation, outcomes.Stands registration)
reply_answer other = None

abbrev pub answer_to : ClientReply → Option (ℕ × Outcome)
answer_to (client_replies.NoMemory correlation) = Some (correlation, outcomes.Refused)
answer_to (client_replies.Of reply) = reply_answer reply
