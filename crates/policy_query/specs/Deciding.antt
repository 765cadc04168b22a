-- What the policy in a file decides of a question: a principal, an act, a channel and a stream (own).
use Rattle.std.specs.Prelude.{◌≡◌, ℕ, ◌+◌, ℤ, zero, suc, List, [], ◌∷◌, ◌++◌, Option, Some, None, Result, Ok, Err, length, codes, if◌then◌else◌}
use Rattle.std.specs.Fmt.{decimal}
use Rattle.std.specs.Str.{bytes_eq}
use Rattle.channel_uri.specs.declared.error.UriError.{UriError}
use Rattle.channel_uri.specs.Channel.{Shape, counter_shape, denotes}
use Rattle.policy_core.specs.declared.verdict.Verdict.{Verdict}
use Rattle.policy_core.specs.Act.{act_named}
use Rattle.policy_core.specs.Moments.{at}
use Rattle.policy_core.specs.RuleList.{Rules}
use Rattle.policy_core.specs.Rules.{verdict_of}
use Rattle.policy_text.specs.declared.fault.PolicyFault.{PolicyFault}
use Rattle.policy_text.specs.Fault.{fault_text as policy_fault_text}
use Rattle.policy_text.specs.Names.{Known, number_of}
use Rattle.policy_query.specs.Document.{policy_in}
use Rattle.policy_query.specs.declared.deciding.DecideFault.{DecideFault}
use Rattle.policy_query.specs.declared.document.Document.{Document}
use Rattle.policy_query.specs.declared.deciding.DecideFault.TheVariants.{Policy, UnknownPrincipal, UnknownAct, InvalidChannel, NoMemory}

-- `p1`, `p2` and so on, each with its number
abbrev pub principals_to : ℕ → Known
principals_to zero = []
principals_to (suc n) = principals_to n ++ (codes "p" ++ decimal (n + 1), n + 1) ∷ []

-- the principals that a policy's file may name, beside `nobody`
unfoldable pub principals : Known
principals = principals_to 63

-- how many rules the policy in a file has
abbrev pub count_of : Result Rules PolicyFault → Result ℕ PolicyFault
count_of (Ok policy) = Ok (length policy.rules)
count_of (Err fault) = Err fault

unfoldable pub rules_in : Known → Document → Result ℕ PolicyFault
rules_in names document = count_of (policy_in names document)

abbrev pub checked_text : ℕ → List ℕ
checked_text rules = codes "ok: " ++ (decimal rules ++ codes " rules")

-- ---- a question

infixl 10 ◌>>=◌
-- goes on with what was read, or stays at the first fault
abbrev pub ◌>>=◌ : {A B : Type 0} → Result A DecideFault → (A → Result B DecideFault) → Result B DecideFault
Ok value >>= next = next value
Err fault >>= next = Err fault

-- what has to be known
abbrev pub known : {A : Type 0} → DecideFault → Option A → Result A DecideFault
known fault (Some value) = Ok value
known fault None = Err fault

-- the policy that has to be there
abbrev pub sound : Result Rules PolicyFault → Result Rules DecideFault
sound (Ok policy) = Ok policy
sound (Err fault) = Err (Policy fault)

-- the channel that has to be one
abbrev pub valid : Result Shape UriError → Result Shape DecideFault
valid (Ok channel) = Ok channel
valid (Err error) = Err (InvalidChannel error)

-- rules on counters are asked about a channel that no other text denotes
unfoldable pub subject_of : List ℕ → Result Shape DecideFault
subject_of word = if bytes_eq word (codes "aeron:counter") then Ok counter_shape else valid (denotes word)

-- the verdict of the policy in the file at that moment, as policy 1; or the first fault of the policy, the principal, the act and the
-- channel
unfoldable pub decided : Known → Document → List ℕ → List ℕ → List ℕ → ℤ → ℕ → Result Verdict DecideFault
decided names document principal act channel stream moment =
    sound (policy_in names document) >>= λ policy.
    known UnknownPrincipal (number_of principal names) >>= λ number.
    known UnknownAct (act_named act) >>= λ named.
    subject_of channel >>= λ shape.
    Ok (verdict_of (at policy moment) 1 (record { principal = number; act = named; channel = shape; stream = stream }))

-- ---- the faults

-- the words for a fault
abbrev pub fault_text : DecideFault → List ℕ
fault_text (Policy fault) = policy_fault_text fault
fault_text UnknownPrincipal = codes "unknown principal"
fault_text UnknownAct = codes "unknown act"
fault_text (InvalidChannel error) = codes "invalid channel"
fault_text NoMemory = codes "no memory"

-- the meaning is this fault; out of memory says nothing of it
abbrev pub Fails : {M : Type 0} → DecideFault → Result M DecideFault → Type 0
Fails NoMemory meaning = Unit {0}
Fails fault meaning = meaning ≡ Err fault

-- the answer is the meaning, seen by `view`, unless there was no memory for it
abbrev pub Gives : {T M : Type 0} → (T → M) → Result T DecideFault → Result M DecideFault → Type 0
Gives view (Ok value) meaning = meaning ≡ Ok (view value)
Gives view (Err fault) meaning = Fails fault meaning
