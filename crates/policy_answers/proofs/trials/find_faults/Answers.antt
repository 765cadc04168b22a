use Rattle.std.proofs.Common.{◌∙◌, sym}
use Rattle.policy_query.specs.Document.{policy_in}
use Rattle.policy_answers.proofs.LintLemmas.{clean_is_policy, policy_is_clean}
use Rattle.policy_answers.proofs.trials.find_faults.Goals as goal

pub returns-clause-sound : goal.returns-clause-sound
returns-clause-sound c = λ well.
    clean_is_policy (policy_in c.args.directory.now c.args.policy.now) c.in_ok-report.report c.args.strict c.in_ok-report.ensures.refused (sym c.is_clean.ensures ∙ well)

pub returns-clause-exact : goal.returns-clause-exact
returns-clause-exact c = λ lenient.
    c.is_clean.ensures
    ∙ policy_is_clean (policy_in c.args.directory.now c.args.policy.now) c.args.moment c.args.soon c.in_ok-report.report c.args.strict c.in_ok-report.ensures.accepted c.in_ok-report.ensures.refused lenient
