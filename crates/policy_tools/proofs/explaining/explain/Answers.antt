use Rattle.std.proofs.Common.{List, subst}
use Rattle.policy_core.specs.Question.{question_of}
use Rattle.policy_core.specs.declared.rule.Rule.{Rule}
use Rattle.policy_tools.specs.Explaining.{AreMisses}
use Rattle.policy_tools.proofs.ExplainingLemmas.{explains}
use Rattle.policy_tools.proofs.explaining.explain.Goals as goal

pub returns : goal.returns
returns c =
    explains c.args.policy.now (question_of c.args.request.now) c.in_ok-misses.misses.items c.settled_verdict.result
    (subst (λ (rules : List Rule). AreMisses rules (question_of c.args.request.now) c.in_ok-misses.misses.items) c.rules.ensures.value c.in_ok-misses.ensures)
    c.settled_verdict.ensures
