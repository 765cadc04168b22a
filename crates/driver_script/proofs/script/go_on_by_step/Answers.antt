use Rattle.std.proofs.Common.{sym, ◌∙◌}
use Rattle.driver_script.proofs.TurnLemmas.{step_goes, step_gives_up, step_stops, step_stops_short}
use Rattle.driver_script.proofs.script.go_on_by_step.Goals as goal

pub returns-then-is_bad_step-clause-ok : goal.returns-then-is_bad_step-clause-ok
returns-then-is_bad_step-clause-ok g c =
    step_stops c.stop_at.result _ _ c.args.line c.args.reading.now c.step-answer.result _ _ c.step-answer.ensures
    (sym c.is_bad_step.ensures ∙ c.if-is_bad_step.true) c.stop_at.ensures.ok

pub returns-then-is_bad_step-clause-err : goal.returns-then-is_bad_step-clause-err
returns-then-is_bad_step-clause-err g c =
    step_stops_short c.stop_at.result _ _ c.args.line c.args.reading.now c.step-answer.result _ _ c.step-answer.ensures
    (sym c.is_bad_step.ensures ∙ c.if-is_bad_step.true) c.stop_at.ensures.err

pub returns-clause-ok : goal.returns-clause-ok
returns-clause-ok g c =
    step_goes c.go_on_by_answer.result _ _ c.args.line c.args.reading.now c.step-answer.result _ _ c.step-answer.ensures
    (sym c.is_bad_step.ensures ∙ c.if-is_bad_step.false) c.go_on_by_answer.ensures.ok

pub returns-clause-err : goal.returns-clause-err
returns-clause-err g c =
    step_gives_up c.go_on_by_answer.result _ _ c.args.line c.args.reading.now c.step-answer.result _ _ c.step-answer.ensures
    (sym c.is_bad_step.ensures ∙ c.if-is_bad_step.false) c.go_on_by_answer.ensures.err
