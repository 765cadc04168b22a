-- What is found of rules, one after the other.
use Rattle.std.proofs.Common.{◌≡◌, List, [], ◌∷◌, ◌++◌, sym, subst}
use Rattle.std.specs.List.{All}
use Rattle.std.proofs.lemmas.List.Elements.{All-push}
use Rattle.policy_core.specs.declared.rule.Rule.{Rule}
use Rattle.policy_lint.specs.declared.hiding.Hidden.{Hidden}
use Rattle.policy_core.specs.RuleList.{Rules}
use Rattle.policy_lint.specs.declared.unmet.Unmet.{Unmet}
use Rattle.policy_lint.specs.Hiding.{IsHiddenBy}
use Rattle.policy_lint.specs.Nobody.{IsUnmet}

-- one more that is hidden
pub all_pushed : (rules : List Rule) (before after : List Hidden) (one : Hidden) → after ≡ before ++ one ∷ [] →
    All (λ hidden. IsHiddenBy rules hidden.at hidden.by.items) before → IsHiddenBy rules one.at one.by.items →
    All (λ hidden. IsHiddenBy rules hidden.at hidden.by.items) after
all_pushed rules before after one is known here =
    subst (λ (found : List Hidden). All (λ hidden. IsHiddenBy rules hidden.at hidden.by.items) found) (sym is)
    (All-push (λ hidden. IsHiddenBy rules hidden.at hidden.by.items) before one known here)

-- one more that is unmet
pub unmet_pushed : (policy : Rules) (before after : List Unmet) (one : Unmet) → after ≡ before ++ one ∷ [] →
    All (IsUnmet policy) before → IsUnmet policy one → All (IsUnmet policy) after
unmet_pushed policy before after one is known here =
    subst (λ (found : List Unmet). All (IsUnmet policy) found) (sym is) (All-push (IsUnmet policy) before one known here)
