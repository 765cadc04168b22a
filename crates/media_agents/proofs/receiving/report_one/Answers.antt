use Rattle.std.proofs.Common.{None, Option, Some, subst}
use Rattle.media_agents.specs.Acts.{GoesOn, Trail}
use Rattle.media_agents.specs.declared.stepping.Stepped.{Stepped as It}
use Rattle.media_agents.specs.Journals.{after_turn}
use Rattle.media_agents.specs.Stepping.{ReportsBy}
use Rattle.media_agents.specs.Traffic.{ReportsOne, letters_of}
use Rattle.media_agents.proofs.ActLemmas.{goes_on_as}
use Rattle.media_agents.proofs.TrafficLemmas.{step_lacked, step_told}
use Rattle.media_agents.proofs.receiving.report_one.Goals as goal

pub returns-in-Some-clause-reports : goal.returns-in-Some-clause-reports
returns-in-Some-clause-reports g c =
    let did = g.S.Stepping.did in
    let went = g.W.Wire.went in
    let it : It = c.in-Some.it in
    let image = c.args.image.now in
    let Steps = λ (it : Option It). ReportsBy c.args.now image.log it c.args.pass c.report-pass.result.0 in
    goes_on_as _ (ReportsOne c.args.now image c.args.pass c.report-pass.result.0) (Trail (did c.args.steps.now) (went c.args.wire.now))
    (Trail (did c.tell.new.steps) (went c.tell.new.wire)) (λ a does. (Some it, does))
    (step_told (Steps (Some it)) (did c.args.steps.now) (did c.report-pass.new.self) (went c.args.wire.now) (after_turn it) (letters_of image.endpoint it.answer)
    (did c.note_turn.new.self) (Trail (did c.tell.new.steps) (g.W.Wire.went c.tell.new.wire))
    (subst (λ (it : Option It). GoesOn (Steps it) (did c.args.steps.now) (did c.report-pass.new.self)) c.in-Some.is c.report-pass.ensures.did)
    c.note_turn.ensures c.tell.ensures)

pub returns-in-None-clause-reports : goal.returns-in-None-clause-reports
returns-in-None-clause-reports g c =
    let did = g.S.Stepping.did in
    let image = c.args.image.now in
    let Steps = λ (it : Option It). ReportsBy c.args.now image.log it c.args.pass c.report-pass.result.0 in
    goes_on_as _ (ReportsOne c.args.now image c.args.pass c.report-pass.result.0) (Trail (did c.args.steps.now) (g.W.Wire.went c.args.wire.now))
    (Trail (did c.report-pass.new.self) (g.W.Wire.went c.args.wire.now)) (λ a does. (None, does))
    (step_lacked (Steps None) (did c.args.steps.now) (did c.report-pass.new.self) (g.W.Wire.went c.args.wire.now)
    (subst (λ (it : Option It). GoesOn (Steps it) (did c.args.steps.now) (did c.report-pass.new.self)) c.in-None.is c.report-pass.ensures.did))
