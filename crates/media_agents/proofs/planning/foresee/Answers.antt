use Rattle.std.proofs.Common.{All, List, ℕ}
use Rattle.media_agents.specs.Acts.{GoesOn}
use Rattle.media_agents.specs.Asking.{AreSilent, LeavesIt}
use Rattle.media_agents.proofs.AskingLemmas.{on_err, only_asked}
use Rattle.media_agents.proofs.WorksLemmas.{draft_comes, draft_silent}
use Rattle.media_agents.proofs.planning.foresee.Goals as goal

pub returns-clause-silent : goal.returns-clause-silent
returns-clause-silent g c =
    let did = g.L.Logs.did in
    draft_silent c.in_ok-silent.silent _ (λ (silent : List ℕ). GoesOn (AreSilent c.args.registry.now c.args.event.now silent) (did c.args.logs.now) (did c.silent_of.new.logs))
    c.plan_at.result c.plan_at.ensures.inputs c.in_ok-silent.ensures.silent

pub returns-clause-come : goal.returns-clause-come
returns-clause-come g c =
    draft_comes c.args.registry.now c.args.event.now c.in_ok-silent.silent _ c.plan_at.result c.plan_at.ensures.planned c.plan_at.ensures.event_is
    c.plan_at.ensures.inputs c.new.ensures

pub returns-clause-err : goal.returns-clause-err
returns-clause-err g c =
    let did = g.L.Logs.did in
    on_err (GoesOn (All LeavesIt) (did c.args.logs.now) (did c.silent_of.new.logs)) c.plan_at.result
    (only_asked c.args.registry.now c.args.event.now c.in_ok-silent.silent (did c.args.logs.now) (did c.silent_of.new.logs) c.in_ok-silent.ensures.silent)
