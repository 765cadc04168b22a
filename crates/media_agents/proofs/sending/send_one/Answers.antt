use Rattle.std.proofs.Common.{None, Option, Some, refl, subst}
use Rattle.media_agents.specs.Acts.{GoesOn, Trail}
use Rattle.media_agents.specs.declared.stepping.Stepped.{Stepped as It}
use Rattle.media_agents.specs.Journals.{after_sending}
use Rattle.media_agents.specs.Stepping.{SendsBy}
use Rattle.media_agents.specs.Traffic.{letters_of}
use Rattle.media_agents.proofs.TrafficLemmas.{step_lacked, step_told}
use Rattle.media_agents.proofs.sending.send_one.Goals as goal

pub returns-in-Some-clause-sends : goal.returns-in-Some-clause-sends
returns-in-Some-clause-sends g c =
    let did = g.S.Stepping.did in
    let it : It = c.in-Some.it in
    let Steps = λ (it : Option It). SendsBy c.args.now c.args.at it c.args.pass c.send-pass.result.0 in (
      Some it,
      c.is_cut-due.ensures,
      step_told (Steps (Some it)) (did c.args.steps.now) (did c.send-pass.new.self) (g.W.Wire.went c.args.wire.now) (after_sending it)
          (letters_of c.args.local.now it.answer) (did c.note_sending.new.self) (Trail (did c.tell.new.steps) (g.W.Wire.went c.tell.new.wire))
          (subst (λ (it : Option It). GoesOn (Steps it) (did c.args.steps.now) (did c.send-pass.new.self)) c.in-Some.is c.send-pass.ensures.did)
          c.note_sending.ensures c.tell.ensures,
    )

pub returns-in-None-clause-sends : goal.returns-in-None-clause-sends
returns-in-None-clause-sends g c =
    let did = g.S.Stepping.did in
    let Steps = λ (it : Option It). SendsBy c.args.now c.args.at it c.args.pass c.send-pass.result.0 in (
      None,
      refl,
      step_lacked (Steps None) (did c.args.steps.now) (did c.send-pass.new.self) (g.W.Wire.went c.args.wire.now)
          (subst (λ (it : Option It). GoesOn (Steps it) (did c.args.steps.now) (did c.send-pass.new.self)) c.in-None.is c.send-pass.ensures.did),
    )
