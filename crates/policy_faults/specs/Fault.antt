-- Which refusal of a policy's text a finding is.
use Rattle.std.specs.Prelude.{◌≡◌, ℕ, List, [], Option, Some, codes, option_map, slice_get, unwrap_or, if◌then◌else◌}
use Rattle.std.specs.Str.{bytes_eq}
use Rattle.policy_text.specs.declared.fault.Field.{Field}
use Rattle.policy_text.specs.declared.fault.Field.TheVariants.{Unknown, Default, Rule, Name, Principal, Act, Channel, Stream, From, Until, Allow}
use Rattle.policy_text.specs.declared.fault.PolicyFault.{PolicyFault}
use Rattle.policy_text.specs.declared.fault.PolicyFault.TheVariants as text
use Rattle.policy_faults.specs.declared.fault.Cause.{Cause}
use Rattle.policy_faults.specs.declared.fault.Cause.TheVariants.{NotText, NotToml, Missing, UnknownKey, LaterKey, Date, Wanted, BadRange, UnknownPrincipal, UnknownAct, BadPattern, TooManyRules, Refused}
use Rattle.policy_faults.specs.declared.fault.Fault.{Fault}

-- the part of a policy's text that a key is
abbrev pub field_of : List ℕ → Field
field_of key =
    if bytes_eq key (codes "default") then Default
    else if bytes_eq key (codes "rule") then Rule
    else if bytes_eq key (codes "name") then Name
    else if bytes_eq key (codes "principal") then Principal
    else if bytes_eq key (codes "act") then Act
    else if bytes_eq key (codes "channel") then Channel
    else if bytes_eq key (codes "stream") then Stream
    else if bytes_eq key (codes "from") then From
    else if bytes_eq key (codes "until") then Until
    else if bytes_eq key (codes "allow") then Allow
    else Unknown

-- a part that is missing, or not of its form; the version has a refusal of its own
abbrev pub bad_part : ℕ → List ℕ → PolicyFault
bad_part rule key = if bytes_eq key (codes "version") then text.BadVersion else text.BadField rule (field_of key)

-- the refusal, by the number of the rule, the key and the cause
abbrev pub refusal_by : ℕ → List ℕ → Cause → PolicyFault
refusal_by rule key NotText = text.NotToml
refusal_by rule key (NotToml message) = text.NotToml
refusal_by rule key Missing = bad_part rule key
refusal_by rule key (UnknownKey meant) = text.BadField rule Unknown
refusal_by rule key LaterKey = text.BadField rule Unknown
refusal_by rule key (Date moment) = bad_part rule key
refusal_by rule key (Wanted wanted) = bad_part rule key
refusal_by rule key (BadRange wanted) = text.BadRange rule
refusal_by rule key (UnknownPrincipal meant) = text.UnknownPrincipal rule
refusal_by rule key (UnknownAct meant) = text.UnknownAct rule
refusal_by rule key (BadPattern error) = bad_part rule key
refusal_by rule key (TooManyRules count) = text.TooManyRules
refusal_by rule key (Refused fault) = fault

abbrev pub refusal_of : Fault → PolicyFault
refusal_of fault = refusal_by fault.rule (unwrap_or fault.key []) fault.cause

-- the first of the findings is this refusal
abbrev pub IsFirst : PolicyFault → List Fault → Type 0
IsFirst refusal faults = option_map refusal_of (slice_get faults 0) ≡ Some refusal
