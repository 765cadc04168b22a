-- The faults of a policy's text, in words, and how an answer stands to the text's meaning.
use Rattle.std.specs.Prelude.{◌≡◌, ℕ, List, ◌++◌, Option, Some, None, Result, Ok, Err, codes}
use Rattle.std.specs.Fmt.{decimal}
use Rattle.policy_text.specs.declared.fault.Field.{Field}
use Rattle.policy_text.specs.declared.fault.Field.TheVariants.{Unknown, Default, Rule, Name, Principal, Act, Channel, Stream, From, Until, Allow}
use Rattle.policy_text.specs.declared.fault.PolicyFault.{PolicyFault}
use Rattle.policy_text.specs.declared.fault.PolicyFault.TheVariants.{NotToml, BadVersion, BadField, TooManyRules, UnknownPrincipal, UnknownAct, BadRange, NoMemory}

-- what a fault calls a part
abbrev pub field_name : Field → List ℕ
field_name Unknown = codes "unknown"
field_name Default = codes "default"
field_name Rule = codes "rule"
field_name Name = codes "name"
field_name Principal = codes "principal"
field_name Act = codes "act"
field_name Channel = codes "channel"
field_name Stream = codes "stream"
field_name From = codes "from"
field_name Until = codes "until"
field_name Allow = codes "allow"

-- the words for a fault
abbrev pub fault_text : PolicyFault → List ℕ
fault_text NotToml = codes "not toml"
fault_text BadVersion = codes "bad version"
fault_text (BadField rule field) = codes "rule " ++ (decimal rule ++ (codes ": bad field " ++ field_name field))
fault_text TooManyRules = codes "too many rules"
fault_text (UnknownPrincipal rule) = codes "rule " ++ (decimal rule ++ codes ": unknown principal")
fault_text (UnknownAct rule) = codes "rule " ++ (decimal rule ++ codes ": unknown act")
fault_text (BadRange rule) = codes "rule " ++ (decimal rule ++ codes ": bad range")
fault_text NoMemory = codes "no memory"

-- the meaning of a text is this fault; out of memory says nothing of the text
abbrev pub Fails : {M : Type 0} → PolicyFault → Result M PolicyFault → Type 0
Fails NoMemory meaning = Unit {0}
Fails fault meaning = meaning ≡ Err fault

-- the answer is the meaning of the text, seen by `view`, unless there was no memory for it
abbrev pub Gives : {T M : Type 0} → (T → M) → Result T PolicyFault → Result M PolicyFault → Type 0
Gives view (Ok value) meaning = meaning ≡ Ok (view value)
Gives view (Err fault) meaning = Fails fault meaning

-- the same of a reader that takes no memory: each answer is the meaning of the text
abbrev pub Equals : {T M : Type 0} → (T → M) → Result T PolicyFault → Result M PolicyFault → Type 0
Equals view (Ok value) meaning = meaning ≡ Ok (view value)
Equals view (Err fault) meaning = meaning ≡ Err fault

infixl 10 ◌>>=◌
-- goes on with what was read, or stays at the first fault
abbrev pub ◌>>=◌ : {A B : Type 0} → Result A PolicyFault → (A → Result B PolicyFault) → Result B PolicyFault
Ok value >>= next = next value
Err fault >>= next = Err fault

-- what has to be there
abbrev pub needed : {A : Type 0} → PolicyFault → Option A → Result A PolicyFault
needed fault (Some value) = Ok value
needed fault None = Err fault
