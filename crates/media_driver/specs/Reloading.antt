-- What a driver asks and answers as a policy is put in force. Own rules.
use Rattle.std.specs.Prelude.{◌≡◌, ◌⊎◌, ℕ, List, Ok, Err}
use Rattle.driver_core.specs.declared.state.event.Event.TheVariants.{Reload}
use Rattle.driver_core.specs.declared.state.outcome.Response.TheVariants.{PolicyInForce}
use Rattle.media_agents.specs.Answering.{AnswersTo}
use Rattle.media_agents.specs.declared.answering.Question.TheVariants as questions
use Rattle.media_driver.specs.declared.faults.ReloadFault.{ReloadFault}
use Rattle.media_driver.specs.declared.faults.ReloadFault.TheVariants.{Policy, Full, NoMemory}
use Rattle.media_driver.specs.Parts.{Asks, DriverState}
use Rattle.policy_core.specs.RuleList.{Rules}
use Rattle.policy_text.specs.Document.{policy_of}
use Rattle.policy_text.specs.Names.{Known as Names}
use Rattle.published_registry.specs.Histories.{Known}

-- it asks for the policy of that text, which may name these principals, once, and nothing else changes
pub record AsksToReload (names : Names) (text : List ℕ) (old new : DriverState) : Type 0 where
  pub now : ℕ
  pub policy : Rules
  pub policy_is : policy_of names text ≡ Ok policy
  pub asks : Asks (Reload now policy) old new

-- the same, and the receipt's entry is of a reload at that moment, which put a policy in force
pub record Reloads (names : Names) (text : List ℕ) (receipt : Known) (old new : DriverState) : Type 0 where
  pub now : ℕ
  pub policy : Rules
  pub policy_is : policy_of names text ≡ Ok policy
  pub asks : Asks (Reload now policy) old new
  pub number : ℕ
  pub answers : AnswersTo (questions.Reload now) (PolicyInForce number) receipt.entries

-- Why it is not put in force. Of a text that is no policy nothing is asked, nor where memory runs out before; all else the
-- conductor answers.
abbrev pub ReloadFails : Names → List ℕ → ReloadFault → DriverState → DriverState → Type 0
ReloadFails names text (Policy fault) old new = (policy_of names text ≡ Err fault) × (new ≡ old)
ReloadFails names text Full old new = AsksToReload names text old new
ReloadFails names text NoMemory old new = (new ≡ old) ⊎ AsksToReload names text old new
