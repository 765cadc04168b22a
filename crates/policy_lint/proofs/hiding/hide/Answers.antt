use Rattle.std.proofs.Common.{◌≡◌, List, rules, subst, true}
use Rattle.policy_core.specs.declared.act.Act.{Act}
use Rattle.policy_core.specs.declared.rule.Rule.{Rule}
use Rattle.policy_lint.specs.Hiding.{ActIsHeld}
use Rattle.policy_lint.proofs.HidingLemmas.{hidden_from}
use Rattle.policy_lint.proofs.hiding.hide.Goals as goal

pub returns : goal.returns
returns c = λ held.
    let over : c.are_over.result ≡ true = search rules in
    hidden_from c.args.source.now.policy.rules c.args.places.now c.args.at (c.are_over.ensures over)
    (subst (λ (r : List Rule). (act : Act) → ActIsHeld r c.args.places.now c.args.at act) c.rules.ensures.value (c.acts_are_held.ensures held))
