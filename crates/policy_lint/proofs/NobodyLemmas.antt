-- What a policy denies to each principal that its rules name, and to a stranger, it denies to everybody.
use Rattle.std.proofs.Common.{◌≡◌, ℕ, ℤ, ◌+◌, ◌<◌, ◌≤◌, Bool, true, false, cond, not, ◌&&◌, ◌||◌, map, List, [], ◌∷◌, length, refl, sym, ap, ◌∙◌, subst, ⊎_elim, arith, ltb, Option, Some, None}
use Rattle.std.proofs.lemmas.Bool.{cases_Bool, eqb-true, false≢true, ne_eqb, or_parts}
use Rattle.std.proofs.lemmas.List.Elements.{All-map}
use Rattle.std.proofs.lemmas.List.Folds.{Any-from_list_any, list_any_none}
use Rattle.std.specs.List.{All, position_or_len}
use Rattle.std.specs.Option.{IfSome, SomeIff}
use Rattle.std.specs.Prelude.{int_le}
use Rattle.channel_uri.specs.Channel.{Shape}
use Rattle.channel_uri.specs.Pattern.{covers}
use Rattle.policy_core.specs.declared.act.Act.{Act}
use Rattle.policy_core.specs.declared.rule.Principals.{Principals}
use Rattle.policy_core.specs.declared.rule.Principals.TheVariants.{Any, One}
use Rattle.policy_core.specs.declared.rule.Rule.{Rule}
use Rattle.policy_core.specs.Acts.{holds}
use Rattle.policy_core.specs.Moments.{as_of, at}
use Rattle.policy_core.specs.Question.{Question}
use Rattle.policy_core.specs.Rule.{matches, speaks_of}
use Rattle.policy_core.specs.RuleList.{Rules}
use Rattle.policy_core.specs.Rules.{verdict_at, verdict_of}
use Rattle.policy_lint.specs.Nobody.{NobodyMay, is_named, may, names}

-- ---- a number above all that are named

abbrev pub IsUpTo : ℕ → Principals → Type 0
IsUpTo most Any = Unit {0}
IsUpTo most (One one) = one ≤ most

pub up_to_more : (principals : Principals) (most more : ℕ) → most ≤ more → IsUpTo most principals → IsUpTo more principals
up_to_more Any most more le h = tt
up_to_more (One one) most more le h = omega arith

not_above : (principals : Principals) (most : ℕ) → IsUpTo most principals → names (most + 1) principals ≡ false
not_above Any most h = refl
not_above (One one) most h = ne_eqb one (most + 1) (λ (e : one ≡ most + 1). absurd (omega arith))

pub unnamed : (rules : List Rule) (most : ℕ) → All (λ rule. IsUpTo most rule.principals) rules → is_named rules (most + 1) ≡ false
unnamed rules most all =
    list_any_none (λ rule. names (most + 1) rule.principals) rules (λ k d inside. not_above _ most (all k d inside))

pub above : (next : Option ℕ) (rules : List Rule) (most : ℕ) → SomeIff next (most + 1 < 4294967296) (most + 1)
    → All (λ rule. IsUpTo most rule.principals) rules → IfSome next (λ number. is_named rules number ≡ false)
above None rules most is all = tt
above (Some number) rules most is all =
    subst (λ (n : ℕ). is_named rules n ≡ false) (sym is.1) (unnamed rules most all)

-- ---- those who are named

abbrev pub IsDenied : Rules → Act → Shape → ℤ → Principals → Type 0
IsDenied policy act channel stream Any = Unit {0}
IsDenied policy act channel stream (One one) = may policy act channel stream one ≡ false

denied_one : (policy : Rules) (act : Act) (channel : Shape) (stream : ℤ) (principals : Principals) (principal : ℕ)
    → IsDenied policy act channel stream principals → names principal principals ≡ true → may policy act channel stream principal ≡ false
denied_one policy act channel stream Any principal h named = absurd (false≢true named)
denied_one policy act channel stream (One one) principal h named =
    subst (λ (p : ℕ). may policy act channel stream p ≡ false) (eqb-true one principal named) h

denied_named : (policy : Rules) (act : Act) (channel : Shape) (stream : ℤ) (principal : ℕ)
    → All (λ rule. IsDenied policy act channel stream rule.principals) policy.rules → is_named policy.rules principal ≡ true
    → may policy act channel stream principal ≡ false
denied_named policy act channel stream principal all named =
    let found = Any-from_list_any (λ rule. names principal rule.principals) policy.rules named in
    let denied : IsDenied policy act channel stream found.1.principals =
    subst (λ (rule : Rule). IsDenied policy act channel stream rule.principals) found.3 (all found.0 found.1 found.2) in
    denied_one policy act channel stream found.1.principals principal denied found.4

-- ---- strangers are all alike

abbrev pub asked_by : Act → Shape → ℤ → ℕ → Question
asked_by act channel stream principal = record { principal = principal; act = act; channel = channel; stream = stream }

spoken_alike : (principals : Principals) (one other : ℕ) → names one principals ≡ false → names other principals ≡ false
    → speaks_of principals one ≡ speaks_of principals other
spoken_alike Any one other a b = refl
spoken_alike (One number) one other a b = a ∙ sym b

matched_alike : (rule : Rule) (act : Act) (channel : Shape) (stream : ℤ) (one other : ℕ) → names one rule.principals ≡ false
    → names other rule.principals ≡ false → matches rule (asked_by act channel stream one) ≡ matches rule (asked_by act channel stream other)
unfolding matches
matched_alike rule act channel stream one other a b =
    ap (λ (h : Bool). h && holds rule.acts act && covers rule.channel channel && int_le rule.low stream && int_le stream rule.high)
    (spoken_alike rule.principals one other a b)

first_alike : (rules : List Rule) (act : Act) (channel : Shape) (stream : ℤ) (one other : ℕ) → is_named rules one ≡ false → is_named rules other ≡ false
    → position_or_len (λ rule. matches rule (asked_by act channel stream one)) rules
    ≡ position_or_len (λ rule. matches rule (asked_by act channel stream other)) rules
first_alike [] act channel stream one other a b = refl
first_alike (rule ∷ rules) act channel stream one other a b =
    let ones = or_parts (names one rule.principals) (is_named rules one) a in
    let others = or_parts (names other rule.principals) (is_named rules other) b in
    let rest = position_or_len (λ r. matches r (asked_by act channel stream one)) rules in
    ap (λ (h : Bool). cond (not h) (1 + rest) 0) (matched_alike rule act channel stream one other ones.0 others.0)
    ∙ ap (λ (n : ℕ). cond (not (matches rule (asked_by act channel stream other))) (1 + n) 0)
    (first_alike rules act channel stream one other ones.1 others.1)

may_alike : (policy : Rules) (act : Act) (channel : Shape) (stream : ℤ) (one other : ℕ) → is_named policy.rules one ≡ false
    → is_named policy.rules other ≡ false → may policy act channel stream one ≡ may policy act channel stream other
unfolding verdict_of
may_alike policy act channel stream one other a b =
    ap (λ (n : ℕ). (verdict_at policy 1 (cond (ltb n (length policy.rules)) (Some n) None)).allow)
    (first_alike policy.rules act channel stream one other a b)

pub nobody : (policy : Rules) (act : Act) (channel : Shape) (stream : ℤ) (stranger : ℕ)
    → All (λ rule. IsDenied policy act channel stream rule.principals) policy.rules → is_named policy.rules stranger ≡ false
    → may policy act channel stream stranger ≡ false → NobodyMay policy act channel stream
nobody policy act channel stream stranger all none denied = λ principal.
    ⊎_elim
    (λ (yes : is_named policy.rules principal ≡ true). denied_named policy act channel stream principal all yes)
    (λ (no : is_named policy.rules principal ≡ false). may_alike policy act channel stream principal stranger no none ∙ denied)
    (cases_Bool (is_named policy.rules principal))

-- ---- at a moment

named_then : (rules : List Rule) (moment principal : ℕ) → is_named (map (as_of moment) rules) principal ≡ is_named rules principal
unfolding as_of
named_then [] moment principal = refl
named_then (rule ∷ rules) moment principal = ap (λ (rest : Bool). names principal rule.principals || rest) (named_then rules moment principal)

denied_then : (policy : Rules) (act : Act) (channel : Shape) (stream : ℤ) (rules : List Rule) (moment : ℕ)
    → All (λ rule. IsDenied policy act channel stream rule.principals) rules → All (λ rule. IsDenied policy act channel stream rule.principals) (map (as_of moment) rules)
unfolding as_of
denied_then policy act channel stream rules moment all =
    All-map (λ rule. IsDenied policy act channel stream rule.principals) (as_of moment) rules all

-- what the policy denies at a moment to those whom its rules name, and to a stranger, it denies to everybody then
pub nobody_then : (policy : Rules) (moment : ℕ) (act : Act) (channel : Shape) (stream : ℤ) (stranger : ℕ)
    → All (λ rule. IsDenied (at policy moment) act channel stream rule.principals) policy.rules → is_named policy.rules stranger ≡ false
    → may (at policy moment) act channel stream stranger ≡ false → NobodyMay (at policy moment) act channel stream
unfolding at
nobody_then policy moment act channel stream stranger all none denied =
    nobody (at policy moment) act channel stream stranger (denied_then (at policy moment) act channel stream policy.rules moment all)
    (named_then policy.rules moment stranger ∙ none) denied

pub denied_of : (b : Bool) → not b ≡ true → b ≡ false
denied_of true h = absurd (false≢true h)
denied_of false h = refl
