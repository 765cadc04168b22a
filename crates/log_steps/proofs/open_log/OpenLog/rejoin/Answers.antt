use Rattle.std.proofs.Common.{sym, subst}
use Rattle.log_steps.proofs.GateLemmas.{has_carried}
use Rattle.log_steps.proofs.LieLemmas.{readers_lie}
use Rattle.log_steps.proofs.open_log.OpenLog.rejoin.Goals as goal
use Rattle.log_traffic.specs.declared.any_log.AnyLog.{AnyLog}
use Rattle.log_traffic.specs.Whole.{Carries, rejoined}
use Rattle.log_traffic.proofs.PairLemmas.{rejoined_carries}

pub invariant_of-self : goal.invariant_of-self
invariant_of-self c =
    has_carried (rejoined c.args.subscriptions.now) c.self.inside.log c.rejoin.new.self
    (subst (λ (l : AnyLog). Carries c.self.inside.log l (rejoined c.args.subscriptions.now)) (sym c.rejoin.ensures)
    (rejoined_carries c.args.subscriptions.now c.self.inside.log)) c.self.invariant

pub returns-clause-whole : goal.returns-clause-whole
returns-clause-whole c =
    rw (← c.self.view_is)
    (subst (λ (l : AnyLog). Carries c.self.inside.log l (rejoined c.args.subscriptions.now)) (sym c.rejoin.ensures)
    (rejoined_carries c.args.subscriptions.now c.self.inside.log))

pub returns-clause-lies : goal.returns-clause-lies
returns-clause-lies c =
    rw (← c.self.view_is)
    (readers_lie c.self.inside.source c.self.inside.recovery c.args.subscriptions.now c.self.inside.log c.rejoin.new.self c.rejoin.ensures)
