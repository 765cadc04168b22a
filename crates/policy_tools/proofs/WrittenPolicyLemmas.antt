-- The words of a document are those of its policy's rules.
use Rattle.std.proofs.Common.{◌≡◌, ℕ, ◌+◌, Bool, true, false, not, cond, List, [], ◌∷◌, Option, Some, None, Result, Ok, Err, refl, sym, ap, ◌∙◌, subst, codes, nat_lt, unwrap_or, slice_get, get_or, zero, suc}
use Rattle.std.specs.Prelude.{ℤ, is_some}
use Rattle.toml.specs.Data.{Data, Items, no_items, item, Members, get_member, as_array, as_table}
use Rattle.channel_uri.specs.declared.error.UriError.{UriError}
use Rattle.channel_uri.specs.declared.pattern.Pattern.{Pattern}
use Rattle.channel_uri.specs.Pattern.{pattern_of}
use Rattle.policy_core.specs.declared.acts.Acts.{Acts}
use Rattle.policy_core.specs.declared.rule.Principals.{Principals}
use Rattle.policy_core.specs.declared.rule.Rule.{Rule}
use Rattle.policy_core.specs.RuleList.{Rules}
use Rattle.policy_text.specs.declared.fault.PolicyFault.{PolicyFault}
use Rattle.policy_text.specs.declared.fault.PolicyFault.TheVariants.{BadField, TooManyRules}
use Rattle.policy_text.specs.declared.fault.Field.TheVariants.{Unknown, Rule as RuleField}
use Rattle.policy_text.specs.Document.{default_of, is_document_key, listed_rules, policy_by, policy_from, rule_at, rules_at, rules_from, rules_of}
use Rattle.policy_text.specs.Fault.{◌>>=◌, needed}
use Rattle.policy_text.specs.Version.{version_of}
use Rattle.policy_text.specs.declared.version.Version.{Version}
use Rattle.policy_text.specs.Fields.{is_rule_key, acts_of, allow_of, channel_from, channel_of, name_of, pattern_from, moments_of, principal_of, rule_of, stream_of}
use Rattle.policy_text.specs.Members.{all_items, all_keys, items_len, text_at}
use Rattle.policy_text.specs.Names.{Known}
use Rattle.policy_tools.specs.declared.written_policy.Words.{Words}
use Rattle.policy_tools.specs.WrittenPolicy.{AreWords, rule_words, text_in, words_from, words_in, words_of, words_under}

-- what came first is there, where there is an answer
bound : {A B : Type 0} (first : Result A PolicyFault) (next : A → Result B PolicyFault) (b : B) → (first >>= next) ≡ Ok b → (a : A) × (first ≡ Ok a) × (next a ≡ Ok b)
bound (Err fault) next b is = absurd (cc)
bound (Ok a) next b is = (a, refl, is)

kept_on : {B : Type 0} (test : Bool) (fault : PolicyFault) (next : Result B PolicyFault) (b : B) → cond test (Err fault) next ≡ Ok b → next ≡ Ok b
kept_on true fault next b is = absurd (cc)
kept_on false fault next b is = is

there : {A : Type 0} (fault : PolicyFault) (option : Option A) (a : A) → needed fault option ≡ Ok a → option ≡ Some a
there fault None a is = absurd (cc)
there fault (Some b) a is = cc

-- ---- one rule

pattern_there : (number : ℕ) (read : Result Pattern UriError) (pattern : Pattern) → pattern_from number read ≡ Ok pattern → read ≡ Ok pattern
pattern_there number (Ok other) pattern is = cc
pattern_there number (Err error) pattern is = absurd (cc)

text_there : (number : ℕ) (text : Option (List ℕ)) (pattern : Pattern) → channel_from number text ≡ Ok pattern → pattern_of (unwrap_or text []) ≡ Ok pattern
text_there number None pattern is = absurd (cc)
text_there number (Some text) pattern is = pattern_there number (pattern_of text) pattern is

-- of what is read one after the other
rule_parts : (name : Result (List ℕ) PolicyFault) (principals : Result Principals PolicyFault) (acts : Result Acts PolicyFault) (channel : Result Pattern PolicyFault)
    (range : Result (ℤ × ℤ) PolicyFault) (span : Result (Option ℕ × Option ℕ) PolicyFault) (allow : Result Bool PolicyFault) (rule : Rule) →
    (name >>= λ n. principals >>= λ p. acts >>= λ a. channel >>= λ c. range >>= λ r. span >>= λ m. allow >>= λ w.
    Ok (record { name = n; principals = p; acts = a; channel = c; low = r.0; high = r.1; from = m.0; until = m.1; allow = w })) ≡ Ok rule → channel ≡ Ok rule.channel
rule_parts (Err f) principals acts channel range span allow rule is = absurd (cc)
rule_parts (Ok n) (Err f) acts channel range span allow rule is = absurd (cc)
rule_parts (Ok n) (Ok p) (Err f) channel range span allow rule is = absurd (cc)
rule_parts (Ok n) (Ok p) (Ok a) (Err f) range span allow rule is = absurd (cc)
rule_parts (Ok n) (Ok p) (Ok a) (Ok c) (Err f) span allow rule is = absurd (cc)
rule_parts (Ok n) (Ok p) (Ok a) (Ok c) (Ok r) (Err f) allow rule is = absurd (cc)
rule_parts (Ok n) (Ok p) (Ok a) (Ok c) (Ok r) (Ok m) (Err f) rule is = absurd (cc)
rule_parts (Ok n) (Ok p) (Ok a) (Ok c) (Ok r) (Ok m) (Ok w) rule is =
    let same : record { name = n; principals = p; acts = a; channel = c; low = r.0; high = r.1; from = m.0; until = m.1; allow = w } ≡ rule = cc in
    ap (λ (x : Rule). Ok x.channel) same

channel_stands : (names : Known) (version : Version) (number : ℕ) (table : Members) (rule : Rule) → rule_of names version number table ≡ Ok rule → channel_of number table ≡ Ok rule.channel
unfolding rule_of
channel_stands names version number table rule is =
    rule_parts (name_of number table) (principal_of names number table) (acts_of number table) (channel_of number table) (stream_of number table) (moments_of number table) (allow_of number table) rule
    (kept_on (not (all_keys (is_rule_key version) table)) (BadField number Unknown) _ rule is)

rule_text : (names : Known) (version : Version) (number : ℕ) (value : Data) (rule : Rule) → rule_at names version number value ≡ Ok rule → pattern_of (text_in (codes "channel") (as_table value)) ≡ Ok rule.channel
rule_text names version number value rule is =
    let table = bound (needed (BadField 0 RuleField) (as_table value)) (λ t. rule_of names version number t) rule is in
    let stands : as_table value ≡ Some table.0 = there (BadField 0 RuleField) (as_table value) table.0 table.1 in
    subst (λ (t : Option Members). pattern_of (text_in (codes "channel") t) ≡ Ok rule.channel) (sym stands)
    (text_there number (text_at (codes "channel") table.0) rule.channel (channel_stands names version number table.0 rule table.2))

-- ---- all rules

items_words : (names : Known) (version : Version) (number : ℕ) (items : Items) (rules : List Rule) → rules_from names version number items ≡ Ok rules → AreWords (words_of items) rules
items_words names version number no_items rules is = let none : [] ≡ rules = cc in subst (λ (r : List Rule). AreWords [] r) none refl
items_words names version number (item value items) rules is =
    let rule = bound (rule_at names version number value) (λ r. rules_from names version (number + 1) items >>= λ more. Ok (r ∷ more)) rules is in
    let more = bound (rules_from names version (number + 1) items) (λ more. Ok (rule.0 ∷ more)) rules rule.2 in
    let whole : rule.0 ∷ more.0 ≡ rules = let e = more.2 in cc in
    subst (λ (r : List Rule). AreWords (rule_words (as_table value) ∷ words_of items) r) whole
    (rw (rule_text names version number value rule.0 rule.1, items_words names version (number + 1) items more.0 more.1) refl)

listed : (names : Known) (version : Version) (items : Items) (rules : List Rule) → listed_rules names version items ≡ Ok rules → rules_from names version 1 items ≡ Ok rules
listed names version items rules is =
    kept_on (nat_lt 1024 (items_len items)) TooManyRules (rules_from names version 1 items) rules
    (kept_on (not (all_items (λ value. is_some (as_table value)) items)) (BadField 0 RuleField) _ rules is)

at_words : (names : Known) (version : Version) (value : Option Data) (rules : List Rule) → rules_at names version value ≡ Ok rules → AreWords (words_under value) rules
at_words names version None rules is = let none : [] ≡ rules = cc in subst (λ (r : List Rule). AreWords [] r) none refl
at_words names version (Some value) rules is =
    let items = bound (needed (BadField 0 RuleField) (as_array value)) (λ items. listed_rules names version items) rules is in
    let stands : as_array value ≡ Some items.0 = there (BadField 0 RuleField) (as_array value) items.0 items.1 in
    subst (λ (o : Option Items). AreWords (words_from o) rules) (sym stands)
    (items_words names version 1 items.0 rules (listed names version items.0 rules items.2))

policy_parts : (default : Result Bool PolicyFault) (rules : Result (List Rule) PolicyFault) (policy : Rules) →
    (default >>= λ d. rules >>= λ r. Ok (record { rules = r; default_allows = d })) ≡ Ok policy → rules ≡ Ok policy.rules
policy_parts (Err f) rules policy is = absurd (cc)
policy_parts (Ok d) (Err f) policy is = absurd (cc)
policy_parts (Ok d) (Ok r) policy is =
    let same : record { rules = r; default_allows = d } ≡ policy = cc in
    ap (λ (p : Rules). Ok p.rules) same

document_by : (names : Known) (table : Members) (version : Option Version) (policy : Rules) → policy_by names table version ≡ Ok policy → AreWords (words_in table) policy.rules
document_by names table None policy is = absurd (cc)
document_by names table (Some version) policy is =
    at_words names version (get_member (codes "rule") table) policy.rules
    (policy_parts (default_of table) (rules_of names version table) policy
    (kept_on (not (all_keys is_document_key table)) (BadField 0 Unknown) _ policy is))

pub document_words : (names : Known) (table : Members) (policy : Rules) → policy_from names table ≡ Ok policy → AreWords (words_in table) policy.rules
unfolding policy_from
document_words names table policy is = document_by names table (version_of table) policy is

none_stands : (at : ℕ) (rule : Rule) → slice_get [] at ≡ Some rule → ⊥
none_stands zero rule stands = cc
none_stands (suc at) rule stands = cc

-- the pattern of a rule
pub pattern_stands : (words : List Words) (rules : List Rule) (at : ℕ) (rule : Rule) (word : Words) → AreWords words rules → slice_get rules at ≡ Some rule →
    word ≡ get_or words at word → pattern_of word.channel ≡ Ok rule.channel
pattern_stands words [] at rule word are stands is = absurd (none_stands at rule stands)
pattern_stands [] (first ∷ rules) at rule word are stands is = absurd (cc)
pattern_stands (w ∷ words) (first ∷ rules) zero rule word are stands is =
    let same : first ≡ rule = cc in
    let here : pattern_of w.channel ≡ Ok first.channel = cc in
    ap (λ (x : Words). pattern_of x.channel) is ∙ (here ∙ ap (λ (r : Rule). Ok r.channel) same)
pattern_stands (w ∷ words) (first ∷ rules) (suc at) rule word are stands is =
    let rest : AreWords words rules = cc in
    pattern_stands words rules at rule word rest stands is
