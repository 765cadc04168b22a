-- The same answers as JSON.
use Rattle.std.specs.Prelude.{◌≡◌, ℕ, ℤ, List, true, Result, Ok, Err}
use Rattle.json_answers.specs.Answers.{checked_data, decided_data}
use Rattle.json_answers.specs.Line.{IsLine}
use Rattle.policy_query.specs.Deciding.{decided, rules_in}
use Rattle.policy_query.specs.declared.document.Document.{Document}
use Rattle.policy_text.specs.Names.{Known}
use Rattle.serde_json.specs.Data.{Data}
use Rattle.policy_answers.specs.Answers.{answerable}
use Rattle.policy_answers.specs.Asked.{sound}
use Rattle.policy_answers.specs.Fault.{Fails, ◌>>=◌}
use Rattle.policy_answers.specs.declared.answer.Answer.{Answer}
use Rattle.policy_answers.specs.declared.fault.AskFault.{AskFault}

-- the answer is a line of this JSON, and nothing was to hold
pub record IsAnswer (answer : Answer) (content : Data) : Type 0 where
  pub line : IsLine answer.text content
  pub well : answer.is_well ≡ true

-- the answer is a line of the meaning, unless there was no memory for it
abbrev pub GivesLine : Result Answer AskFault → Result Data AskFault → Type 0
GivesLine (Ok answer) meaning = (content : Data) × (meaning ≡ Ok content) × IsAnswer answer content
GivesLine (Err fault) meaning = Fails fault meaning

-- how many rules the policy has
abbrev pub checked_content : Known → Document → Result Data AskFault
checked_content names document = sound (rules_in names document) >>= λ rules. Ok (checked_data rules)

-- the verdict
abbrev pub decided_content : Known → Document → List ℕ → List ℕ → List ℕ → ℤ → ℕ → Result Data AskFault
decided_content names document principal act channel stream moment =
    answerable (decided names document principal act channel stream moment) >>= λ verdict.
    Ok (decided_data verdict.allow verdict.rule verdict.epoch)
