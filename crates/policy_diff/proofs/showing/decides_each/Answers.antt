use Rattle.std.proofs.Common.{◌≡◌, ◌∙◌, List, position, rules, subst, sym}
use Rattle.policy_core.specs.declared.rule.Rule.{Rule}
use Rattle.policy_diff.specs.Deciding.{may_match}
use Rattle.policy_diff.proofs.showing.decides_each.Goals as goal

pub returns-then-eq : goal.returns-then-eq
returns-then-eq c = λ same.
    let first : c.first_reached.result ≡ c.args.decider = search rules in
    record {
      first = subst (λ (r : List Rule). position (λ rule. may_match rule c.args.scope.now c.args.channel.now) r ≡ c.args.decider) c.rules.ensures.value (sym c.first_reached.ensures ∙ first);
      reaches = c.is_reached.ensures same;
    }
