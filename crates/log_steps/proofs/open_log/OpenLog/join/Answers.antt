use Rattle.std.proofs.Common.{sym, subst}
use Rattle.log_steps.proofs.MoveLemmas.{held_lies}
use Rattle.log_steps.proofs.open_log.OpenLog.join.Goals as goal
use Rattle.log_traffic.specs.declared.any_log.AnyLog.{AnyLog}
use Rattle.log_traffic.specs.Held.{Lies}
use Rattle.log_traffic.proofs.PairLemmas.{joined_lies}

pub returns-clause-lies : goal.returns-clause-lies
returns-clause-lies c =
    rw (← c.self.view_is)
    (held_lies c.self.inside.source c.self.inside.recovery c.self.inside.recovery c.self.inside.log c.join.new.self
    (subst (λ (l : AnyLog). Lies c.self.inside.log l) (sym c.join.ensures.exact)
    (joined_lies c.args.subscription c.self.inside.log)))
