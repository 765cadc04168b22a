-- What is reported of the policy that was read.
use Rattle.std.proofs.Common.{◌≡◌, ◌+◌, ℕ, Option, subst, List, Result, Ok}
use Rattle.std.specs.List.{All}
use Rattle.std.specs.Result.{IfOk}
use Rattle.std.specs.declared.alloc.AllocError.{AllocError}
use Rattle.std.proofs.lemmas.List.Elements.{All-weaker}
use Rattle.policy_core.specs.RuleList.{Rules}
use Rattle.policy_text.specs.declared.fault.PolicyFault.{PolicyFault}
use Rattle.policy_lint.specs.declared.hiding.Hidden.{Hidden}
use Rattle.policy_lint.specs.declared.report.Report.{Report}
use Rattle.policy_lint.specs.Hiding.{IsHiddenBy, NeverDecides}
use Rattle.policy_lint.specs.Report.{IsOf}
use Rattle.policy_lint.proofs.HidingLemmas.{never}

pub never_each : (policy : Rules) (found : List Hidden) → All (λ rule. IsHiddenBy policy.rules rule.at rule.by.items) found →
    All (λ rule. NeverDecides policy (rule.at + 1)) found
never_each policy found hidden =
    All-weaker (λ rule. IsHiddenBy policy.rules rule.at rule.by.items) (λ rule. NeverDecides policy (rule.at + 1))
    (λ rule is. never policy rule.at rule.by.items is) found hidden

pub of_read : (meaning : Result Rules PolicyFault) (read policy : Rules) (moment : ℕ) (soon : Option ℕ) (result : Result Report AllocError) → meaning ≡ Ok read →
    IfOk result (λ report. IsOf read moment soon report) → meaning ≡ Ok policy → IfOk result (λ report. IsOf policy moment soon report)
of_read meaning read policy moment soon result is of same =
    let equal : read ≡ policy = cc in
    subst (λ (p : Rules). IfOk result (λ report. IsOf p moment soon report)) equal of
