-- What is reported of a policy.
use Rattle.std.specs.Prelude.{◌≡◌, ◌+◌, ◌==◌, ◌&&◌, ◌||◌, not, ℕ, Bool, Option, [], length, map}
use Rattle.std.specs.List.{All, Contains}
use Rattle.policy_core.specs.RuleList.{Rules}
use Rattle.policy_lint.specs.declared.ending.Ends.TheVariants.{Past}
use Rattle.policy_lint.specs.declared.report.Report.{Report}
use Rattle.policy_lint.specs.Ending.{IsGone, ended_from, ending_of, is_among}
use Rattle.policy_lint.specs.Hiding.{IsHiddenBy, IsHider, NeverDecides}
use Rattle.policy_lint.specs.Nobody.{IsUnmet}

-- no fault is reported; each rule that is said never to decide never does: those that are named hide it, and each that one rule
-- hides by itself is said to; where a rule is said to
-- grant one end of what nobody may be the other end of, so it is; the rules that are over at the moment are said to be, and stand
-- at none from then on; and those that end within the period, if one is given, are said to end, and stand at no moment from
-- their ends on
pub record IsOf (policy : Rules) (moment : ℕ) (soon : Option ℕ) (report : Report) : Type 0 where
  pub sound : report.faults.items ≡ []
  pub hidden : All (λ rule. IsHiddenBy policy.rules rule.at rule.by.items) report.hidden.items
  pub found : (at place : ℕ) → IsHider policy.rules place at → Contains (map (λ rule. rule.at) report.hidden.items) at
  pub unmet : All (IsUnmet policy) report.unmet.items
  pub never : All (λ rule. NeverDecides policy (rule.at + 1)) report.hidden.items
  pub over : report.over.items ≡ ended_from 0 (is_among (Past moment)) policy.rules
  pub gone : All (λ ended. IsGone policy.rules moment ended.at) report.over.items
  pub ending : report.ending.items ≡ ending_of moment soon policy.rules
  pub ends : All (λ ended. IsGone policy.rules ended.until ended.at) report.ending.items

-- there is no fault and, where warnings count, no warning
abbrev pub is_clean : Bool → Report → Bool
is_clean strict report =
    (length report.faults.items == 0)
    && (not strict || (length report.hidden.items == 0) && (length report.unmet.items == 0) && (length report.over.items == 0)
    && (length report.ending.items == 0) && (length report.warnings.items == 0))
