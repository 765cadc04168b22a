-- A client attaches in two steps: the conductor is asked and answers, and then one more is out.
use Rattle.std.proofs.Common.{◌≡◌, ℕ, ◌+◌, Option, Some, [], ◌∷◌, ◌++◌, ap, ap₂, subst, sym, ◌∙◌}
use mathlib.Core.List.{IsPrefix}
use Rattle.command_queue.specs.Sent.{Sent}
use Rattle.driver_core.specs.declared.state.event.Event.{Event}
use Rattle.driver_core.specs.declared.state.event.Event.TheVariants.{Attach, Command, Reload, Setup, Tick}
use Rattle.driver_core.specs.declared.state.outcome.Response.{Response}
use Rattle.driver_core.specs.declared.state.outcome.Response.TheVariants as responses
use Rattle.media_agents.specs.Answering.{Answers, AnswersTo, IsAnswer, question_in}
use Rattle.media_agents.specs.declared.answering.Question.{Question}
use Rattle.media_agents.specs.declared.answering.Question.TheVariants as questions
use Rattle.media_driver.specs.Attaching.{Attaches}
use Rattle.media_driver.specs.Clients.{Attached}
use Rattle.media_driver.specs.Parts.{DriverState}
use Rattle.published_registry.specs.Histories.{Known}

-- an event that is the question of a client that attaches is its attach
attach_in : (event : Event) (now principal : ℕ) → question_in event ≡ Some (questions.Attach now principal) → event ≡ Attach now principal
attach_in (Attach at whose) now principal is = cc is
attach_in (Command at client bytes) now principal is = absurd (cc is)
attach_in (Reload at policy) now principal is = absurd (cc is)
attach_in (Tick at) now principal is = absurd (cc is)
attach_in (Setup at local from setup) now principal is = absurd (cc is)

-- the question was answered that it attached under that number
attach_answer : (question : Question) (response : Option Response) (receipt : Known) (now principal number : ℕ) → question ≡ questions.Attach now principal →
    response ≡ Some (responses.Attached number) → IsAnswer question response receipt → Answers (Attach now principal) (responses.Attached number) receipt.entries
attach_answer question response receipt now principal number asked responded answer =
    let found : AnswersTo (questions.Attach now principal) (responses.Attached number) receipt.entries =
    subst (λ (q : Question). IsAnswer q (Some (responses.Attached number)) receipt) asked
    (subst (λ (r : Option Response). IsAnswer question r receipt) responded answer) in
    subst (λ (event : Event). Answers event (responses.Attached number) receipt.entries) (attach_in found.event now principal found.question_is) found.answers

pub attaches : (principal number now : ℕ) (old seen : DriverState) (queue : Sent Event) (new : DriverState) (question : Question)
    (response : Option Response) (receipt given : Known) (client : Attached) → seen ≡ old →
    queue ≡ record seen.queue { sent = seen.queue.sent ++ Attach now principal ∷ [] } → new ≡ record seen { out = seen.out + 1; queue = queue } →
    question ≡ questions.Attach now principal → response ≡ Some (responses.Attached number) → IsAnswer question response receipt →
    given ≡ receipt → client.number ≡ number → IsPrefix given.entries client.known.entries → Attaches principal client.number client.known old new
attaches principal number now old seen queue new question response receipt given client is pushed one_more asked responded answer same numbered learned = record {
  now = now;
  asks = one_more
      ∙ ap₂ (λ (s : DriverState) (q : Sent Event). record s { out = s.out + 1; queue = q }) is (
      pushed ∙ ap (λ (s : DriverState). record s.queue { sent = s.queue.sent ++ Attach now principal ∷ [] }) is);
  entries = receipt.entries;
  answers = subst (λ (n : ℕ). Answers (Attach now principal) (responses.Attached n) receipt.entries) (sym numbered)
      (attach_answer question response receipt now principal number asked responded answer);
  seen = subst (λ (known : Known). IsPrefix known.entries client.known.entries) same learned;
}
