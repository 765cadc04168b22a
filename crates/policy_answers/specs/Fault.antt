-- How an answer stands to the meaning of a question about the policy in a file.
use Rattle.std.specs.Prelude.{◌≡◌, Option, Some, None, Result, Ok, Err}
use Rattle.policy_query.specs.declared.deciding.DecideFault.TheVariants as query
use Rattle.policy_text.specs.declared.fault.PolicyFault.TheVariants as text
use Rattle.policy_tools.specs.declared.case_lines.CasesFault.TheVariants as cases
use Rattle.policy_answers.specs.declared.fault.AskFault.{AskFault}
use Rattle.policy_answers.specs.declared.fault.AskFault.TheVariants as faults

-- the meaning is this fault; out of memory says nothing of it
abbrev pub Fails : {M : Type 0} → AskFault → Result M AskFault → Type 0
Fails faults.NoMemory meaning = Unit {0}
Fails (faults.Policy text.NoMemory) meaning = Unit {0}
Fails (faults.Decide query.NoMemory) meaning = Unit {0}
Fails (faults.Cases cases.NoMemory) meaning = Unit {0}
Fails fault meaning = meaning ≡ Err fault

-- the answer is the meaning, seen by `view`, unless there was no memory for it
abbrev pub Gives : {T M : Type 0} → (T → M) → Result T AskFault → Result M AskFault → Type 0
Gives view (Ok value) meaning = meaning ≡ Ok (view value)
Gives view (Err fault) meaning = Fails fault meaning

infixl 10 ◌>>=◌
-- goes on with what was read, or stays at the first fault
abbrev pub ◌>>=◌ : {A B : Type 0} → Result A AskFault → (A → Result B AskFault) → Result B AskFault
Ok value >>= next = next value
Err fault >>= next = Err fault

-- what has to be known
abbrev pub known : {A : Type 0} → AskFault → Option A → Result A AskFault
known fault (Some value) = Ok value
known fault None = Err fault
