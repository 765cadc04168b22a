-- The policy that a text is: a TOML document with the version of the language, a default and perhaps rules.
use Rattle.std.specs.Prelude.{ℕ, ◌+◌, ℤ, pos, Bool, true, false, not, nat_lt, List, [], ◌∷◌, Option, Some, None, Result, Ok, Err, is_some, codes, if◌then◌else◌}
use Rattle.std.specs.List.{list_any}
use Rattle.std.specs.Ordering.{int_eq}
use Rattle.std.specs.Str.{bytes_eq}
use Rattle.toml.specs.Data.{Data, Items, no_items, item, Members, get_member, as_array, as_table}
use Rattle.toml.specs.Parse.{parse_document}
use Rattle.policy_core.specs.declared.rule.Rule.{Rule}
use Rattle.policy_core.specs.RuleList.{Rules}
use Rattle.policy_text.specs.declared.fault.Field.TheVariants.{Unknown, Default, Rule as RuleField}
use Rattle.policy_text.specs.declared.version.Version.{Version}
use Rattle.policy_text.specs.declared.fault.PolicyFault.{PolicyFault}
use Rattle.policy_text.specs.declared.fault.PolicyFault.TheVariants.{NotToml, BadVersion, BadField, TooManyRules}
use Rattle.policy_text.specs.Fault.{◌>>=◌, needed}
use Rattle.policy_text.specs.Fields.{rule_of}
use Rattle.policy_text.specs.Members.{all_items, all_keys, integer_at, items_len, text_at}
use Rattle.policy_text.specs.Names.{Known}
use Rattle.policy_text.specs.Version.{version_of}

-- the keys of a document
abbrev pub is_document_key : List ℕ → Bool
is_document_key key = list_any (bytes_eq key) (codes "version" ∷ codes "default" ∷ codes "rule" ∷ [])

-- the default is a word of two
abbrev pub default_from : Option (List ℕ) → Result Bool PolicyFault
default_from None = Err (BadField 0 Default)
default_from (Some word) =
    if bytes_eq word (codes "allow") then Ok true
    else if bytes_eq word (codes "deny") then Ok false
    else Err (BadField 0 Default)

abbrev pub default_of : Members → Result Bool PolicyFault
default_of table = default_from (text_at (codes "default") table)

-- the rule that a value is
abbrev pub rule_at : Known → Version → ℕ → Data → Result Rule PolicyFault
rule_at names version number value =
    needed (BadField 0 RuleField) (as_table value) >>= λ table. rule_of names version number table

-- the rules of the items, counted from this number, or the first fault of the first bad one
abbrev pub rules_from : Known → Version → ℕ → Items → Result (List Rule) PolicyFault
rules_from names version number no_items = Ok []
rules_from names version number (item value items) =
    rule_at names version number value >>= λ rule. rules_from names version (number + 1) items >>= λ rules. Ok (rule ∷ rules)

-- the rules are an array of tables, at most 1,024
abbrev pub listed_rules : Known → Version → Items → Result (List Rule) PolicyFault
listed_rules names version items =
    if not (all_items (λ value. is_some (as_table value)) items) then Err (BadField 0 RuleField)
    else if nat_lt 1024 (items_len items) then Err TooManyRules
    else rules_from names version 1 items

abbrev pub rules_at : Known → Version → Option Data → Result (List Rule) PolicyFault
rules_at names version None = Ok []
rules_at names version (Some value) = needed (BadField 0 RuleField) (as_array value) >>= λ items. listed_rules names version items

abbrev pub rules_of : Known → Version → Members → Result (List Rule) PolicyFault
rules_of names version table = rules_at names version (get_member (codes "rule") table)

-- the document has rules to keep; another one takes no memory
abbrev pub has_rules : Members → Bool
has_rules table = is_some (get_member (codes "rule") table)

-- the policy that a document of that version is, or its first fault
abbrev pub policy_by : Known → Members → Option Version → Result Rules PolicyFault
policy_by names table None = Err BadVersion
policy_by names table (Some version) =
    if not (all_keys is_document_key table) then Err (BadField 0 Unknown)
    else default_of table >>= λ default.
    rules_of names version table >>= λ rules.
    Ok (record { rules = rules; default_allows = default })

-- the policy that a document is, or its first fault
unfoldable pub policy_from : Known → Members → Result Rules PolicyFault
policy_from names table = policy_by names table (version_of table)

abbrev pub policy_at : Known → Option Members → Result Rules PolicyFault
policy_at names None = Err NotToml
policy_at names (Some table) = policy_from names table

-- the policy that a text is, or its first fault
unfoldable pub policy_of : Known → List ℕ → Result Rules PolicyFault
policy_of names text = policy_at names (parse_document text)
