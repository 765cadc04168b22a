use Rattle.std.proofs.Common.{◌≡◌, rules, true}
use Rattle.policy_core.specs.declared.act.Act.{Act}
use Rattle.policy_lint.specs.Hiding.{ActIsHeld}
use Rattle.policy_lint.proofs.HidingLemmas.{acts_more}
use Rattle.policy_lint.proofs.hiding.acts_are_held.Goals as goal

pub loop-number-preserved : goal.loop-number-preserved
loop-number-preserved c =
    let passed : c.act_is_held.result ≡ true = search rules in
    acts_more (λ (act : Act). ActIsHeld c.args.rules.now c.args.places.now c.args.at act) c.loop-number.number c.loop-number.invariant
    (c.act_is_held.ensures passed)
