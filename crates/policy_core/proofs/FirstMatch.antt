-- The first rule that matches, by its place.
use Rattle.std.proofs.Common.{◌≡◌, ℕ, ◌<◌, false, List, Some, ap, ◌∙◌, sym, length, get_or, slice_get, position, arith, ⊎_elim, true≢false}
use Rattle.std.specs.List.{position_or_len}
use Rattle.std.proofs.lemmas.Bool.{cond-true, cond-false, lt-ltb, le-ltb}
use Rattle.std.proofs.lemmas.List.Sums.{position_or_len_is, fails_before_first, passes_at_first}
use Rattle.std.proofs.lemmas.List.{get_or-map}
use Rattle.std.proofs.lemmas.Option.{slice_get_within, slice_get-get_or, get_or_from_slice_get, slice_get_cases}
use Rattle.policy_core.specs.declared.rule.Rule.{Rule}
use Rattle.policy_core.specs.Question.{Question}
use Rattle.policy_core.specs.Rule.{matches}
use Rattle.policy_core.specs.RuleList.{Rules}
use Rattle.policy_core.specs.Rules.{IsFirstMatch, SomeRuleMatches, NoRuleMatches, verdict_of, word_at, ruled, defaulted, verdict_at}

-- the place of the first rule that matches
first_place : (rules : List Rule) (question : Question) (index : ℕ) (rule : Rule) → IsFirstMatch rules question index rule →
    position_or_len (λ r. matches r question) rules ≡ index
first_place rules question index rule first =
    let within : index < length rules = slice_get_within rules index rule first.stands in
    position_or_len_is (λ r. matches r question) rules index rule (omega arith)
    (λ k before. let inside : k < length rules = omega arith in
    first.none_before k (get_or rules k rule) before (slice_get-get_or rules k rule inside))
    (λ _. ap (λ r. matches r question) (get_or_from_slice_get rules index rule rule first.stands) ∙ first.is_match)

-- the word of the rule at its place
word_at-stands : (rules : List Rule) (index : ℕ) (rule : Rule) → slice_get rules index ≡ Some rule → word_at rules index ≡ rule.allow
word_at-stands rules index rule stands =
    get_or-map (λ r. r.allow) rules index rule false (slice_get_within rules index rule stands)
    ∙ ap (λ r. r.allow) (get_or_from_slice_get rules index rule rule stands)

pub first_decides : (policy : Rules) (epoch : ℕ) (question : Question) (index : ℕ) (rule : Rule) →
    IsFirstMatch policy.rules question index rule → verdict_of policy epoch question ≡ ruled rule.allow index epoch
unfolding verdict_of
first_decides policy epoch question index rule first =
    let place : position_or_len (λ r. matches r question) policy.rules ≡ index = first_place policy.rules question index rule first in
    let within : index < length policy.rules = slice_get_within policy.rules index rule first.stands in
    let found : position (λ r. matches r question) policy.rules ≡ Some index =
    let inside : position_or_len (λ r. matches r question) policy.rules < length policy.rules = omega arith in
    cond-true _ _ _ (lt-ltb _ _ inside) ∙ ap Some place in
    ap (verdict_at policy epoch) found ∙ ap (λ allow. ruled allow index epoch) (word_at-stands policy.rules index rule first.stands)

-- a rule that matches at this place, whatever stands before it, keeps the first one within the list
no_match_before : (rules : List Rule) (question : Question) (index : ℕ) (rule : Rule) →
    slice_get rules index ≡ Some rule → index < position_or_len (λ r. matches r question) rules → matches rule question ≡ false
no_match_before rules question index rule stands before =
    ap (λ r. matches r question) (sym (get_or_from_slice_get rules index rule rule stands))
    ∙ fails_before_first (λ r. matches r question) rules index rule before

pub some_first : (rules : List Rule) (question : Question) → SomeRuleMatches rules question →
    (index : ℕ) × (rule : Rule) × IsFirstMatch rules question index rule
some_first rules question some =
    ⊎_elim
    (λ found. (
      position_or_len (λ r. matches r question) rules,
      found.0,
      record {
        stands = found.2;
        is_match =
            ap (λ r. matches r question) (sym found.3)
            ∙ passes_at_first (λ r. matches r question) rules found.0 found.1;
        none_before = λ j earlier before stands. no_match_before rules question j earlier stands before;
      },
    ))
    (λ past.
    let within : some.0 < length rules = slice_get_within rules some.0 some.1 some.2 in
    let before : some.0 < position_or_len (λ r. matches r question) rules = omega (arith, past.0) in
    absurd (true≢false (sym some.3 ∙ no_match_before rules question some.0 some.1 some.2 before)))
    (slice_get_cases rules (position_or_len (λ r. matches r question) rules)).1

pub none_defaults : (policy : Rules) (epoch : ℕ) (question : Question) → NoRuleMatches policy.rules question →
    verdict_of policy epoch question ≡ defaulted policy.default_allows epoch
unfolding verdict_of
none_defaults policy epoch question none =
    ⊎_elim
    (λ found.
    absurd (true≢false (
    sym (passes_at_first (λ r. matches r question) policy.rules found.0 found.1)
    ∙ ap (λ r. matches r question) found.3 ∙ none _ found.0 found.2)))
    (λ past. ap (verdict_at policy epoch) (cond-false _ _ _ (le-ltb _ _ past.0)))
    (slice_get_cases policy.rules (position_or_len (λ r. matches r question) policy.rules)).1
