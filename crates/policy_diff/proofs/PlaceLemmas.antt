-- The first rule that matches each request of a scope.
use Rattle.std.proofs.Common.{◌≡◌, ℕ, ◌<◌, ◌≤◌, Bool, true, false, List, [], ◌∷◌, Option, Some, None, refl, sym, ap, ◌∙◌, get_or, slice_get, length, position, subst, arith, ⊎_elim}
use Rattle.std.specs.List.{position_or_len}
use Rattle.std.proofs.lemmas.Bool.{and_parts, cases_lt, cond-false, cond-true, false_from_ne_true, le-ltb, lt-ltb, true≢false}
use Rattle.std.proofs.lemmas.List.Sums.{fails_before_first, passes_at_first}
use Rattle.std.proofs.lemmas.Option.{get_or_from_slice_get, slice_get-get_or, slice_get_within}
use Rattle.channel_uri.specs.Channel.{Shape}
use Rattle.channel_uri.specs.Pattern.{covers}
use Rattle.policy_core.specs.Question.{Question}
use Rattle.policy_core.specs.Rule.{matches}
use Rattle.policy_core.specs.RuleList.{Rules}
use Rattle.policy_core.specs.declared.rule.Rule.{Rule}
use Rattle.policy_diff.specs.Deciding.{DecidesEach, IsBefore, IsCovered, IsDecidedBy, IsExample, IsTaken, Takes, may_match}
use Rattle.policy_diff.specs.Diff.{rule_of}
use Rattle.policy_diff.specs.Scope.{IsIn, may_reach, reaches_each}
use Rattle.policy_diff.specs.declared.examples.Example.{Example}
use Rattle.policy_diff.specs.declared.pairs.Deciders.{Deciders}
use Rattle.policy_diff.specs.declared.scope.Scope.{Scope}
use Rattle.policy_diff.proofs.ReachLemmas.{position_is, position_none}
use Rattle.policy_diff.proofs.ScopeLemmas.{IsEither, is_new, is_old, not_missed, parts_of, reached}

-- ---- the first place

len_from_some : {X : Type 0} (p : X → Bool) (xs : List X) (at : ℕ) → position p xs ≡ Some at → position_or_len p xs ≡ at
len_from_some p xs at is =
    ⊎_elim
    (λ (inside : position_or_len p xs < length xs).
    let found : Some (position_or_len p xs) ≡ Some at = sym (cond-true _ _ _ (lt-ltb _ _ inside)) ∙ is in
    cc)
    (λ (past : length xs ≤ position_or_len p xs).
    let none : None ≡ Some at = sym (cond-false _ _ _ (le-ltb _ _ past)) ∙ is in
    absurd (cc))
    (cases_lt (position_or_len p xs) (length xs))

within_from_some : {X : Type 0} (p : X → Bool) (xs : List X) (at : ℕ) → position p xs ≡ Some at → at < length xs
within_from_some p xs at is =
    ⊎_elim
    (λ (inside : position_or_len p xs < length xs). let same = len_from_some p xs at is in omega arith)
    (λ (past : length xs ≤ position_or_len p xs).
    let none : None ≡ Some at = sym (cond-false _ _ _ (le-ltb _ _ past)) ∙ is in
    absurd (cc))
    (cases_lt (position_or_len p xs) (length xs))

len_from_none : {X : Type 0} (p : X → Bool) (xs : List X) → position p xs ≡ None → length xs ≤ position_or_len p xs
len_from_none p xs is =
    ⊎_elim
    (λ (inside : position_or_len p xs < length xs).
    let found : Some (position_or_len p xs) ≡ None = sym (cond-true _ _ _ (lt-ltb _ _ inside)) ∙ is in
    absurd (cc))
    (λ (past : length xs ≤ position_or_len p xs). past)
    (cases_lt (position_or_len p xs) (length xs))

none_passes : {X : Type 0} (p q : X → Bool) (xs : List X) → position p xs ≡ None →
    ((at : ℕ) (x : X) → at < length xs → get_or xs at x ≡ x → q x ≡ true → p x ≡ true) → position q xs ≡ None
none_passes p q [] is implied = refl
none_passes p q (y ∷ ys) is implied =
    position_none q (y ∷ ys) y (λ k within.
    let x = get_or (y ∷ ys) k y in
    let past = len_from_none p (y ∷ ys) is in
    let fails : p x ≡ false = fails_before_first p (y ∷ ys) k y (omega arith) in
    false_from_ne_true _ (λ passes.
    let stands : get_or (y ∷ ys) k x ≡ x = get_or_from_slice_get (y ∷ ys) k x x (slice_get-get_or (y ∷ ys) k y within) in
    true≢false (sym (implied k x within stands passes) ∙ fails)))

some_passes : {X : Type 0} (p q : X → Bool) (xs : List X) (at : ℕ) (d : X) → position p xs ≡ Some at →
    ((at : ℕ) (x : X) → at < length xs → get_or xs at x ≡ x → q x ≡ true → p x ≡ true) → q (get_or xs at d) ≡ true → position q xs ≡ Some at
some_passes p q xs at d is implied here =
    let within = within_from_some p xs at is in
    let same = len_from_some p xs at is in
    position_is q xs at d within
    (λ k before.
    let x = get_or xs k d in
    let inside : k < length xs = omega arith in
    let fails : p x ≡ false = fails_before_first p xs k d (omega arith) in
    false_from_ne_true _ (λ passes.
    let stands : get_or xs k x ≡ x = get_or_from_slice_get xs k x x (slice_get-get_or xs k d inside) in
    true≢false (sym (implied k x inside stands passes) ∙ fails)))
    here

before_first : {X : Type 0} (p : X → Bool) (xs : List X) (at : ℕ) (decider : Option ℕ) → position p xs ≡ decider → at < length xs → IsBefore at decider → at < position_or_len p xs
before_first p xs at None is inside before = let past = len_from_none p xs is in omega arith
before_first p xs at (Some first) is inside before = let same = len_from_some p xs first is in omega (arith, before)

-- ---- on one channel

some_from : (rules : List Rule) (at : ℕ) → at < length rules → (rule : Rule) × (slice_get rules at ≡ Some rule)
some_from [] at within = absurd (omega arith)
some_from (rule ∷ rules) at within = (get_or (rule ∷ rules) at rule, slice_get-get_or (rule ∷ rules) at rule within)

covers_of_may : (rule : Rule) (scope : Scope) (channel : Shape) → may_match rule scope channel ≡ true → covers rule.channel channel ≡ true
covers_of_may rule scope channel h = (and_parts (may_reach rule scope) (covers rule.channel channel) h).1

-- the rule that is first matches
pub matched_at : (policy : Rules) (question : Question) (at : ℕ) (rule : Rule) → position (λ rule. matches rule question) policy.rules ≡ Some at →
    slice_get policy.rules at ≡ Some rule → matches rule question ≡ true
matched_at policy question at rule is stands =
    let p = λ (r : Rule). matches r question in
    let within = within_from_some p policy.rules at is in
    let place = len_from_some p policy.rules at is in
    let passes : p (get_or policy.rules (position_or_len p policy.rules) rule) ≡ true = passes_at_first p policy.rules rule (omega arith) in
    ap p (sym (get_or_from_slice_get policy.rules at rule rule stands)) ∙ ap (λ (n : ℕ). p (get_or policy.rules n rule)) (sym place) ∙ passes

-- the rule decides each request of the scope on the channel
pub decided : (policy old new : Rules) (decider : Option ℕ) (scope : Scope) (channel : Shape) (question : Question) → IsEither old new policy.rules →
    DecidesEach policy decider scope channel → IsIn old new scope question → question.channel ≡ channel → position (λ rule. matches rule question) policy.rules ≡ decider
decided policy old new None scope channel question either each is same =
    none_passes (λ rule. may_match rule scope channel) (λ rule. matches rule question) policy.rules each.first
    (λ at rule within stands h. not_missed policy.rules at rule old new scope channel question either within stands is same h)
decided policy old new (Some at) scope channel question either each is same =
    let may = λ (rule : Rule). may_match rule scope channel in
    let within = within_from_some may policy.rules at each.first in
    let found = some_from policy.rules at within in
    let rule = found.0 in
    let place = len_from_some may policy.rules at each.first in
    let stands = get_or_from_slice_get policy.rules at rule rule found.1 in
    let passes : may (get_or policy.rules (position_or_len may policy.rules) rule) ≡ true = passes_at_first may policy.rules rule (omega arith) in
    let may_here : may_match rule scope channel ≡ true = ap may (sym stands) ∙ ap (λ (n : ℕ). may (get_or policy.rules n rule)) (sym place) ∙ passes in
    let covered : covers rule.channel question.channel ≡ true = ap (covers rule.channel) same ∙ covers_of_may rule scope channel may_here in
    let here : matches rule question ≡ true = reached rule old new scope question (each.reaches rule found.1) is covered in
    some_passes may (λ rule. matches rule question) policy.rules at rule each.first
    (λ at rule within stands h. not_missed policy.rules at rule old new scope channel question either within stands is same h)
    (ap (λ (r : Rule). matches r question) stands ∙ here)

-- the two of an example decide each request of its scope on its channel
pub both_decide : (old new : Rules) (deciders : Deciders) (scope : Scope) (example : Example) (question : Question) → IsExample old new deciders scope example →
    IsIn old new scope question → question.channel ≡ example.channel → IsDecidedBy old new question deciders
both_decide old new deciders scope example question shown is same = record {
  by_old = decided old old new deciders.old scope example.channel question (is_old old new) shown.by_old is same;
  by_new = decided new old new deciders.new scope example.channel question (is_new old new) shown.by_new is same;
}

-- ---- on every channel

-- what decides a request covers its channel
pub covered_by : (policy : Rules) (question : Question) (decider : Option ℕ) → position (λ rule. matches rule question) policy.rules ≡ decider →
    IsCovered policy decider question.channel
covered_by policy question None is = λ rule stands. absurd (cc)
covered_by policy question (Some at) is = λ rule stands. (parts_of rule question (matched_at policy question at rule is stands)).covered

-- a request of a scope that is taken is not decided by what comes later
pub not_left : (old new : Rules) (deciders : Deciders) (scope : Scope) (rules : List Rule) (decider : Option ℕ) (question : Question) →
    IsTaken old new deciders scope rules decider → IsIn old new scope question → IsDecidedBy old new question deciders →
    position (λ rule. matches rule question) rules ≡ decider → ⊥
not_left old new deciders scope rules decider question taken is by first =
    let rule = taken.rule in
    let within = slice_get_within rules taken.at rule taken.stands in
    let here : matches rule question ≡ true = taken.takes.each question is (covered_by old question deciders.old by.by_old) (covered_by new question deciders.new by.by_new) in
    let stands = get_or_from_slice_get rules taken.at rule rule taken.stands in
    let before = before_first (λ (r : Rule). matches r question) rules taken.at decider first within taken.before in
    true≢false (sym here ∙ ap (λ (r : Rule). matches r question) (sym stands) ∙ fails_before_first (λ (r : Rule). matches r question) rules taken.at rule before)

-- a rule that reaches each request of the scope, and covers each channel that one of the two covers, takes each
pub takes_by_old : (old new : Rules) (deciders : Deciders) (scope : Scope) (rule : Rule) → reaches_each rule scope ≡ true →
    ((channel : Shape) → IsCovered old deciders.old channel → covers rule.channel channel ≡ true) → Takes old new deciders scope rule
takes_by_old old new deciders scope rule reaches wide = record {
  each = λ question is one other. reached rule old new scope question reaches is (wide question.channel one);
}

pub takes_by_new : (old new : Rules) (deciders : Deciders) (scope : Scope) (rule : Rule) → reaches_each rule scope ≡ true →
    ((channel : Shape) → IsCovered new deciders.new channel → covers rule.channel channel ≡ true) → Takes old new deciders scope rule
takes_by_new old new deciders scope rule reaches wide = record {
  each = λ question is one other. reached rule old new scope question reaches is (wide question.channel other);
}
