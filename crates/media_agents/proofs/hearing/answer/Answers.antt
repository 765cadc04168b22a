use Rattle.std.proofs.Common.{None, Option, Some, subst}
use Rattle.frame_codec.specs.Datagram.{content}
use Rattle.media_agents.specs.Acts.{GoesOn, Trail}
use Rattle.media_agents.specs.declared.stepping.Stepped.{Stepped as It}
use Rattle.media_agents.specs.Journals.{after_packet}
use Rattle.media_agents.specs.Stepping.{HearsIf}
use Rattle.media_agents.specs.Traffic.{letters_of}
use Rattle.media_agents.proofs.TrafficLemmas.{step_lacked, step_told}
use Rattle.media_agents.proofs.hearing.answer.Goals as goal

pub returns-in-Some-clause-answers : goal.returns-in-Some-clause-answers
returns-in-Some-clause-answers g c =
    let did = g.S.Stepping.did in
    let it : It = c.in-Some.it in
    let Hears = λ (it : Option It). HearsIf c.args.now c.args.at.now c.args.from.now (content c.args.packet) it c.args.pass c.hear-pass.result.0 in (
      Some it,
      step_told (Hears (Some it)) (did c.args.steps.now) (did c.hear-pass.new.self) (g.W.Wire.went c.args.wire.now) (after_packet c.args.from.now it)
          (letters_of c.args.local.now it.answer) (did c.note_packet.new.self) (Trail (did c.tell.new.steps) (g.W.Wire.went c.tell.new.wire))
          (subst (λ (it : Option It). GoesOn (Hears it) (did c.args.steps.now) (did c.hear-pass.new.self)) c.in-Some.is c.hear-pass.ensures.did)
          c.note_packet.ensures c.tell.ensures,
    )

pub returns-in-None-clause-answers : goal.returns-in-None-clause-answers
returns-in-None-clause-answers g c =
    let did = g.S.Stepping.did in
    let Hears = λ (it : Option It). HearsIf c.args.now c.args.at.now c.args.from.now (content c.args.packet) it c.args.pass c.hear-pass.result.0 in (
      None,
      step_lacked (Hears None) (did c.args.steps.now) (did c.hear-pass.new.self) (g.W.Wire.went c.args.wire.now)
          (subst (λ (it : Option It). GoesOn (Hears it) (did c.args.steps.now) (did c.hear-pass.new.self)) c.in-None.is c.hear-pass.ensures.did),
    )
