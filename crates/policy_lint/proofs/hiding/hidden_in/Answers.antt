use Rattle.std.proofs.Common.{◌<◌, List, arith, length, subst, sym}
use Rattle.policy_core.specs.declared.rule.Rule.{Rule}
use Rattle.policy_lint.proofs.HiderLemmas.{hider_within}
use Rattle.policy_lint.proofs.hiding.hidden_in.Goals as goal

pub loop-at-preserved : goal.loop-at-preserved
loop-at-preserved c = record {
  sound = c.in_ok-put_hidden.ensures.sound c.loop-at.invariant.sound;
  found = c.in_ok-put_hidden.ensures.found c.loop-at.invariant.found;
}

pub returns-clause-found : goal.returns-clause-found
returns-clause-found c = λ at place hider.
    let within : at < length c.rules-at-end.result.now =
    subst (λ (r : List Rule). at < length r) (sym c.rules-at-end.ensures.value) (hider_within c.args.source.now.policy.rules place at hider) in
    c.loop-at.invariant.found at place (omega (arith, c.loop-at-test.false)) hider
