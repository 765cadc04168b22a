use Rattle.std.proofs.Common.{◌≡◌}
use Rattle.policy_core.specs.declared.rule.Rule.{Rule}
use Rattle.policy_core.specs.Question.{question_of}
use Rattle.policy_core.specs.Rule.{matches}
use Rattle.policy_core.specs.RuleList.{Rules}
use Rattle.policy_core.proofs.AtPlace.{as_stands, within}
use Rattle.policy_core.proofs.policy.Standing.matches.Goals as goal

pub matches_at-requires-clause-within : goal.matches_at-requires-clause-within
matches_at-requires-clause-within c =
    within (record { rules = c.self.inside.rules.now; default_allows = c.self.inside.default }) c.args.self.now c.self.inside.moment c.args.place c.self.view_is c.requires

pub returns : goal.returns
returns c = λ rule stands.
    let policy : Rules = record { rules = c.self.inside.rules.now; default_allows = c.self.inside.default } in
    as_stands (λ (r : Rule). c.matches_at.result ≡ matches r (question_of c.args.request.now)) policy c.args.self.now c.self.inside.moment c.args.place rule c.self.view_is
    (within policy c.args.self.now c.self.inside.moment c.args.place c.self.view_is c.requires) stands c.matches_at.ensures
