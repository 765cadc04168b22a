use Rattle.policy_diff.proofs.ScopeLemmas.{any_covers}
use Rattle.policy_diff.proofs.taking.is_any.Goals as goal

pub returns-in-Any : goal.returns-in-Any
returns-in-Any c = λ _ channel. any_covers c.args.pattern.now channel c.in-Any.is
