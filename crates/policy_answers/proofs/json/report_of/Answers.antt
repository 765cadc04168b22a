use Rattle.std.proofs.Common.{rules, ◌≡◌, ◌∙◌, ◌==◌, ap, length}
use Rattle.policy_tools.specs.Cases.{failure_of}
use Rattle.policy_answers.proofs.CaseLemmas.{none_fails}
use Rattle.policy_answers.proofs.json.report_of.Goals as goal

pub returns : goal.returns
returns c =
    let empty : c.is_empty.result ≡ (length c.in_ok-report.report.failures.items == 0) = search rules in
    empty
    ∙ (ap (λ failures. length failures == 0) c.in_ok-report.ensures.failures_are
    ∙ none_fails (failure_of c.args.policy.now) c.args.cases.now)
