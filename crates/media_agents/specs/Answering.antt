-- What the owner of a driver asks, and what the conductor answers. Own rules.
use Rattle.std.specs.Prelude.{◌≡◌, List, [], ◌∷◌, ◌++◌, Option, Some, None}
use Rattle.driver_core.specs.declared.state.entry.Entry.{Entry}
use Rattle.driver_core.specs.declared.state.event.Event.{Event}
use Rattle.driver_core.specs.declared.state.event.Event.TheVariants.{Attach, Command, Reload, Setup, Tick}
use Rattle.driver_core.specs.declared.state.outcome.Response.{Response}
use Rattle.media_agents.specs.declared.answering.Question.{Question}
use Rattle.media_agents.specs.declared.answering.Question.TheVariants as questions
use Rattle.published_registry.specs.Histories.{Known}

-- which question an event is, if it is one
abbrev pub question_in : Event → Option Question
question_in (Attach now principal) = Some (questions.Attach now principal)
question_in (Command now client bytes) = None
question_in (Reload now policy) = Some (questions.Reload now)
question_in (Tick now) = None
question_in (Setup now local from setup) = None

-- the last of these entries is of that event, and has that response
pub record Answers (event : Event) (response : Response) (entries : List Entry) : Type 0 where
  pub before : List Entry
  pub entry : Entry
  pub last : entries ≡ before ++ entry ∷ []
  pub event_is : entry.event ≡ event
  pub response_is : entry.outcome.response ≡ response

-- the last of these entries is of an event that is that question, and has that response
pub record AnswersTo (question : Question) (response : Response) (entries : List Entry) : Type 0 where
  pub event : Event
  pub question_is : question_in event ≡ Some question
  pub answers : Answers event response entries

-- what a question is answered: the response of the receipt's entry; nothing where there was no memory, since no entry was made
abbrev pub IsAnswer : Question → Option Response → Known → Type 0
IsAnswer question (Some response) receipt = AnswersTo question response receipt.entries
IsAnswer question None receipt = Unit {0}

-- an answer to a question, with the receipt that goes with it
pub record GivenAnswer : Type 0 where
  pub question : Question
  pub response : Option Response
  pub receipt : Known
