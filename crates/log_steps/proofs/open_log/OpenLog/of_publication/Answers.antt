use Rattle.log_steps.proofs.open_log.OpenLog.of_publication.Goals as goal
use Rattle.log_traffic.specs.Whole.{whole}
use Rattle.term_log.specs.Whole.{fresh}

pub invariant_of-result : goal.invariant_of-result
invariant_of-result c = record { whole = whole (fresh c.args.ident); stands = c.open.ensures.whole }
