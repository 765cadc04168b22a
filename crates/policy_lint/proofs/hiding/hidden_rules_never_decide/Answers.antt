use Rattle.policy_lint.proofs.HidingLemmas.{never}
use Rattle.policy_lint.proofs.hiding.hidden_rules_never_decide.Goals as goal

pub returns : goal.returns
returns c = never
