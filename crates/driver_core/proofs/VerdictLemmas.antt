-- Which rule a verdict is by.
use Rattle.std.proofs.Common.{◌≡◌, zero, suc, false, List, [], ◌∷◌, ◌⊎◌, inl, inr, refl, sym, ap, ◌∙◌, ⊎_elim}
use Rattle.std.proofs.lemmas.Bool.{cases_Bool}
use Rattle.driver_core.specs.State.{State}
use Rattle.driver_core.specs.Verdicts.{IsByPolicy, verdict_on}
use Rattle.policy_core.specs.declared.rule.Rule.{Rule}
use Rattle.policy_core.specs.Question.{Question}
use Rattle.policy_core.specs.Rule.{matches}
use Rattle.policy_core.specs.Rules.{SomeRuleMatches, NoRuleMatches}
use Rattle.policy_core.proofs.FirstMatch.{first_decides, some_first, none_defaults}

-- ---- some rule matches, or none

none_more : (rule : Rule) (rules : List Rule) (question : Question) → matches rule question ≡ false →
    NoRuleMatches rules question → NoRuleMatches (rule ∷ rules) question
none_more rule rules question misses none zero other stands =
    let is : rule ≡ other = cc in
    ap (λ (r : Rule). matches r question) (sym is) ∙ misses
none_more rule rules question misses none (suc index) other stands = none index other stands

pub some_or_none : (rules : List Rule) (question : Question) → SomeRuleMatches rules question ⊎ NoRuleMatches rules question
some_or_none [] question = inr (λ index rule stands. absurd (cc))
some_or_none (rule ∷ rules) question =
    ⊎_elim
    (λ hits. inl (0, rule, refl, hits))
    (λ misses.
    ⊎_elim
    (λ some. inl (suc some.0, some.1, some.2, some.3))
    (λ none. inr (none_more rule rules question misses none))
    (some_or_none rules question))
    (cases_Bool (matches rule question))

-- ---- the policy's verdict

pub by_policy : (s : State) (question : Question) → IsByPolicy s question (verdict_on s question)
by_policy s question =
    ⊎_elim
    (λ some.
    let first = some_first s.policy.rules question some in
    inl (record {
      index = first.0;
      rule = first.1;
      first = first.2;
      verdict_is = first_decides s.policy s.epoch question first.0 first.1 first.2;
    }))
    (λ none.
    inr (record { none_matches = none; verdict_is = none_defaults s.policy s.epoch question none }))
    (some_or_none s.policy.rules question)
