use Rattle.policy_faults.proofs.FirstLemmas.{first_put}
use Rattle.policy_faults.proofs.faults.faults_of.Goals as goal

pub returns : goal.returns
returns c = first_put c.args.refusal c.refused.result _ _ c.refused.ensures c.in_ok-insert.ensures.items
