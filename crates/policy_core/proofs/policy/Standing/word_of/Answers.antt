use Rattle.std.proofs.Common.{◌≡◌, sym, ◌∙◌}
use Rattle.policy_core.specs.declared.rule.Rule.{Rule}
use Rattle.policy_core.specs.RuleList.{Rules}
use Rattle.policy_core.proofs.AtMoment.{as_of_allow}
use Rattle.policy_core.proofs.AtPlace.{as_stands, within}
use Rattle.policy_core.proofs.policy.Standing.word_of.Goals as goal

pub word_at-requires-clause-within : goal.word_at-requires-clause-within
word_at-requires-clause-within c =
    within (record { rules = c.self.inside.rules.now; default_allows = c.self.inside.default }) c.args.self.now c.self.inside.moment c.args.place c.self.view_is c.requires

pub returns : goal.returns
returns c = λ rule stands.
    let policy : Rules = record { rules = c.self.inside.rules.now; default_allows = c.self.inside.default } in
    as_stands (λ (r : Rule). c.word_at.result ≡ r.allow) policy c.args.self.now c.self.inside.moment c.args.place rule c.self.view_is
    (within policy c.args.self.now c.self.inside.moment c.args.place c.self.view_is c.requires) stands
    (λ found there. c.word_at.ensures found there ∙ sym (as_of_allow c.self.inside.moment found))
