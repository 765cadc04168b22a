-- What is answered to each question about the policy in a file, from the document that it is.
use Rattle.std.specs.Prelude.{◌++◌, ◌∷◌, [], ℕ, ℤ, Bool, true, List, Result, Ok, Err}
use Rattle.std.specs.List.{list_all}
use Rattle.policy_core.specs.Act.{act_named}
use Rattle.policy_core.specs.Question.{Question}
use Rattle.policy_core.specs.Moments.{at}
use Rattle.policy_core.specs.RuleList.{Rules}
use Rattle.policy_core.specs.Verdict.{verdict_text}
use Rattle.policy_core.specs.declared.verdict.Verdict.{Verdict}
use Rattle.policy_diff.specs.Diff.{AreApart}
use Rattle.policy_diff.specs.Scope.{IsStream}
use Rattle.policy_query.specs.Deciding.{checked_text, decided, rules_in}
use Rattle.policy_query.specs.declared.document.Document.{Document}
use Rattle.policy_query.specs.declared.deciding.DecideFault.{DecideFault}
use Rattle.policy_query.specs.declared.deciding.DecideFault.TheVariants as query
use Rattle.policy_text.specs.Names.{Known, number_of}
use Rattle.policy_tools.specs.CaseLines.{cases_of}
use Rattle.policy_tools.specs.Cases.{passes}
use Rattle.policy_tools.specs.declared.case_lines.CasesFault.{CasesFault}
use Rattle.policy_tools.specs.declared.cases.Case.{Case}
use Rattle.policy_answers.specs.Asked.{channel_of, policy_of, sound}
use Rattle.policy_answers.specs.Fault.{◌>>=◌, known}
use Rattle.policy_answers.specs.declared.answer.Answer.{Answer}
use Rattle.policy_answers.specs.declared.fault.AskFault.{AskFault}
use Rattle.policy_answers.specs.declared.fault.AskFault.TheVariants as faults

-- a line that answers a question of which nothing was to hold
abbrev pub line : List ℕ → Answer
line text = record { text = text ++ 10 ∷ []; is_well = true; is_sure = true }

-- ---- `check`

-- how many rules the policy has
abbrev pub check_answer : Known → Document → Result Answer AskFault
check_answer names document = sound (rules_in names document) >>= λ rules. Ok (line (checked_text rules))

-- ---- `decide`

abbrev pub answerable : Result Verdict DecideFault → Result Verdict AskFault
answerable (Ok verdict) = Ok verdict
answerable (Err fault) = Err (faults.Decide fault)

-- the verdict
abbrev pub decide_answer : Known → Document → List ℕ → List ℕ → List ℕ → ℤ → ℕ → Result Answer AskFault
decide_answer names document principal act channel stream moment =
    answerable (decided names document principal act channel stream moment) >>= λ verdict. Ok (line (verdict_text verdict))

-- ---- `explain`

-- all is well, where there is a policy and a question
abbrev pub explain_well : Known → Document → List ℕ → List ℕ → List ℕ → Result Bool AskFault
explain_well names document principal act channel =
    policy_of names document >>= λ policy.
    known (faults.Decide query.UnknownPrincipal) (number_of principal names) >>= λ number.
    known (faults.Decide query.UnknownAct) (act_named act) >>= λ named.
    channel_of channel >>= λ shape.
    Ok true

-- ---- `show` and `table`

-- all is well, where there is a policy
abbrev pub list_well : Known → Document → Result Bool AskFault
list_well names document = policy_of names document >>= λ policy. Ok true

-- all is well, where there is a policy and a principal of that name
abbrev pub table_well : Known → Document → List ℕ → Result Bool AskFault
table_well names document principal =
    policy_of names document >>= λ policy. known faults.UnknownPrincipal (number_of principal names) >>= λ number. Ok true

-- ---- `test`

-- what is no file of cases is at fault
abbrev pub some_cases : Result (List Case) CasesFault → Result (List Case) AskFault
some_cases (Ok cases) = Ok cases
some_cases (Err fault) = Err (faults.Cases fault)

-- all is well exactly where each case of the file of cases has the answer that it wants of the policy
abbrev pub try_well : Known → Document → List ℕ → ℕ → Result Bool AskFault
try_well names document cases moment =
    policy_of names document >>= λ policy. some_cases (cases_of names cases) >>= λ wanted. Ok (list_all (passes (at policy moment)) wanted)

-- ---- `diff`

-- both files are policies
abbrev pub both_read : Known → Document → Document → Result Bool AskFault
both_read names old new = policy_of names old >>= λ before. policy_of names new >>= λ after. Ok true

-- no request is allowed by the one policy and denied by the other; streams are of 32 bits
abbrev pub DecideAlike : Rules → Rules → Type 0
DecideAlike old new = (question : Question) → IsStream question.stream → AreApart old new question → ⊥

-- some request is
abbrev pub DecideApart : Rules → Rules → Type 0
DecideApart old new = (question : Question) × AreApart old new question
