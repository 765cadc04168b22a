use Rattle.std.proofs.Common.{List, subst}
use Rattle.media_agents.specs.Acts.{GoesOn}
use Rattle.media_agents.specs.Asking.{Gathers, Joins, JoinsSome}
use Rattle.media_agents.proofs.AskingLemmas.{joins_all, on_err}
use Rattle.stream_registry.specs.declared.pairs.Pair.{Pair}
use Rattle.media_agents.proofs.planning.plan_joined.Goals as goal

pub returns-clause-err : goal.returns-clause-err
returns-clause-err g c =
    let did = g.L.Logs.did in
    on_err (GoesOn (JoinsSome c.args.registry.now c.args.draft.now.outcome.come) (did c.args.logs.now) (did c.join.new.logs)) c.plan_with.result
    (joins_all c.args.registry.now c.args.draft.now.outcome.come c.in_ok-ends.ends (did c.args.logs.now) (did c.join.new.logs)
    (subst (λ (come : List Pair). GoesOn (Gathers (Joins c.args.registry.now come) come c.in_ok-ends.ends) (did c.args.logs.now) (did c.join.new.logs)) c.as_slice.ensures c.in_ok-ends.ensures.joins))
