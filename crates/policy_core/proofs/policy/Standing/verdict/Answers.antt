use Rattle.std.proofs.Common.{◌≡◌, refl, subst, ◌∙◌}
use Rattle.policy_core.specs.Question.{question_of}
use Rattle.policy_core.specs.RuleList.{Rules}
use Rattle.policy_core.specs.Rules.{verdict_of}
use Rattle.policy_core.proofs.AtMoment.{verdict_by}
use Rattle.policy_core.proofs.policy.Standing.verdict.Goals as goal

pub returns : goal.returns
returns c =
    let policy : Rules = record { rules = c.self.inside.rules.now; default_allows = c.self.inside.default } in
    subst (λ (p : Rules). c.verdict_in.result ≡ verdict_of p c.args.epoch (question_of c.args.request.now)) c.self.view_is
    (c.verdict_in.ensures ∙ verdict_by policy c.self.inside.moment c.args.epoch (question_of c.args.request.now) _ refl)
