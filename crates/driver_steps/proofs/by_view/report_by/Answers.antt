use Rattle.std.proofs.Common.{refl}
use Rattle.log_steps.specs.declared.answer.Answer.TheVariants.{Gone}
use Rattle.driver_core.specs.PublicationRequests.{publisher_of}
use Rattle.log_steps.specs.Reporting.{image_move}
use Rattle.driver_steps.proofs.ServingLemmas.{logs_kept, logs_refused, logs_served}
use Rattle.driver_steps.proofs.RunLemmas.{image_told}
use Rattle.driver_steps.proofs.by_view.report_by.Goals as goal

pub returns-in-Ok-clause-serves : goal.returns-in-Ok-clause-serves
returns-in-Ok-clause-serves g c =
    let s = g.V.View.shows c.args.view.now in
    logs_served _ _ _ c.args.source (image_move s c.args.now) Gone _ (λ e. refl) tt (λ log. image_told s c.args.now log (publisher_of s log.source)) c.in-Ok.ensures.moved

pub returns-in-Ok-clause-kept : goal.returns-in-Ok-clause-kept
returns-in-Ok-clause-kept g c = logs_kept _ _ c.args.source _ _ _ c.in-Ok.ensures.moved

pub returns-in-Err-clause-serves : goal.returns-in-Err-clause-serves
returns-in-Err-clause-serves g c =
    logs_refused _ _ _ c.args.source (image_move (g.V.View.shows c.args.view.now) c.args.now) Gone (λ e. refl) c.in-Err.ensures.err
    c.in-Err.ensures.without_memory
