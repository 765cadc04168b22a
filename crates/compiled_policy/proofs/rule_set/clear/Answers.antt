use Rattle.compiled_policy.proofs.SetLemmas.{empty_replicated}
use Rattle.compiled_policy.proofs.rule_set.clear.Goals as goal

pub returns-clause-empty : goal.returns-clause-empty
returns-clause-empty c = rw c.refill.ensures.items (empty_replicated c.args.count c.empty.result c.empty.ensures)
