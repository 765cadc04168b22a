-- Whether a policy keeps the cases that it has to keep. Own rules.
use Rattle.std.specs.Prelude.{◌≡◌, ℕ, Bool, true, false, List, Result, Ok, Err}
use Rattle.policy_answers.specs.Answers.{try_well}
use Rattle.policy_answers.specs.declared.fault.AskFault.{AskFault}
use Rattle.policy_query.specs.Document.{document_in, document_of}
use Rattle.policy_query.specs.declared.document.Document.{Document}
use Rattle.policy_text.specs.Names.{Known}

-- what has no answer is not well
abbrev pub is_well : Result Bool AskFault → Bool
is_well (Ok well) = well
is_well (Err fault) = false

-- whether the document is a policy, and the bytes are cases, each of which has the answer that it wants of it at a moment
abbrev pub keeps : Known → Document → List ℕ → ℕ → Bool
keeps names document cases moment = is_well (try_well names document cases moment)

-- the document that these bytes are keeps the cases
abbrev pub Keeps : List ℕ → Known → List ℕ → ℕ → Type 0
Keeps bytes names cases moment =
    (document : Document) × (document_of document ≡ document_in bytes) × (keeps names document cases moment ≡ true)
