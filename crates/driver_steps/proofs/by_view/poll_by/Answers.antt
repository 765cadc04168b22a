use Rattle.log_steps.specs.declared.answer.Answer.TheVariants.{Gone}
use Rattle.log_steps.specs.Moves.{poll_move}
use Rattle.driver_steps.proofs.EndDecisionLemmas.{poll_decided_first}
use Rattle.driver_steps.proofs.ServingLemmas.{logs_kept, logs_refused, logs_served, poll_is_told}
use Rattle.std.proofs.Common.{refl}
use Rattle.driver_steps.proofs.by_view.poll_by.Goals as goal

pub returns-in-Ok-clause-serves : goal.returns-in-Ok-clause-serves
returns-in-Ok-clause-serves g c =
    let s = g.V.View.shows c.args.view.now in
    logs_served _ _ _ c.args.source (poll_move s c.args.client c.args.subscription c.args.limit) Gone _ (λ e. refl) tt
    (poll_is_told s c.args.client c.args.subscription c.args.limit) c.in-Ok.ensures.moved

pub returns-in-Ok-clause-decides : goal.returns-in-Ok-clause-decides
returns-in-Ok-clause-decides g c =
    poll_decided_first (g.V.View.shows c.args.view.now) c.args.logs.now c.poll.new.self c.args.client c.args.subscription c.args.source
    c.args.limit c.in-Ok.told.answer c.in-Ok.told.decision c.in-Ok.ensures.moved c.in-Ok.ensures.decides

pub returns-in-Ok-clause-kept : goal.returns-in-Ok-clause-kept
returns-in-Ok-clause-kept g c = logs_kept _ _ c.args.source _ _ _ c.in-Ok.ensures.moved

pub returns-in-Err-clause-serves : goal.returns-in-Err-clause-serves
returns-in-Err-clause-serves g c =
    let s = g.V.View.shows c.args.view.now in
    rw c.refused.ensures
    (logs_refused _ _ _ c.args.source (poll_move s c.args.client c.args.subscription c.args.limit) Gone (λ e. refl) c.in-Err.ensures.err
    c.in-Err.ensures.without_memory)
