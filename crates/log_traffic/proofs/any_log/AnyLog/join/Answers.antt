use Rattle.log_traffic.specs.declared.any_log.AnyLog.TheVariants.{Term}
use Rattle.log_traffic.proofs.PairLemmas.{joined_carries}
use Rattle.log_traffic.proofs.any_log.AnyLog.join.Goals as goal

pub returns-in-Term-clause-whole : goal.returns-in-Term-clause-whole
returns-in-Term-clause-whole c = rw (c.in-Term.is, c.join_pair.ensures.joined) (joined_carries c.args.subscription (Term c.in-Term.log))
