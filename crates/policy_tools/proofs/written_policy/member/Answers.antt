use Rattle.policy_tools.proofs.written_policy.member.Goals as goal
use Rattle.toml.proofs.Views.{table_get}

pub returns : goal.returns
returns c = table_get c.get.result c.args.key.now c.args.table.now.entries c.get.ensures.value
