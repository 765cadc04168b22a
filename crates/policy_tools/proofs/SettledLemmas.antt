-- A policy at a moment has the patterns that it has.
use Rattle.std.proofs.Common.{◌≡◌, ℕ, List, [], ◌∷◌, Result, Ok, map, refl, sym, ap₂, ◌∙◌}
use Rattle.channel_uri.specs.declared.error.UriError.{UriError}
use Rattle.channel_uri.specs.declared.pattern.Pattern.{Pattern}
use Rattle.policy_core.specs.Moments.{as_of, at}
use Rattle.policy_core.specs.RuleList.{Rules}
use Rattle.policy_core.specs.declared.rule.Rule.{Rule}
use Rattle.policy_tools.specs.declared.written_policy.Words.{Words}
use Rattle.policy_tools.specs.WrittenPolicy.{AreWords}

patterns : List Rule → List (Result Pattern UriError)
patterns rules = map (λ rule. Ok rule.channel) rules

same_patterns : (moment : ℕ) (rules : List Rule) → patterns (map (as_of moment) rules) ≡ patterns rules
unfolding as_of patterns
same_patterns moment [] = refl
same_patterns moment (rule ∷ rules) = ap₂ (λ (p : Result Pattern UriError) (ps : List (Result Pattern UriError)). p ∷ ps) refl (same_patterns moment rules)

pub settled_words : (words : List Words) (policy now : Rules) (moment : ℕ) → now ≡ at policy moment → AreWords words policy.rules → AreWords words now.rules
unfolding at patterns
settled_words words policy now moment is are =
    are ∙ (sym (same_patterns moment policy.rules) ∙ (λ i. patterns (sym is i).rules))
