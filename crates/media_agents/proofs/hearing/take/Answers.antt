use Rattle.std.proofs.Common.{Option, subst}
use Rattle.frame_codec.specs.Datagram.{content}
use Rattle.media_agents.specs.Acts.{GoesOn}
use Rattle.media_agents.specs.declared.stepping.Stepped.{Stepped as It}
use Rattle.media_agents.specs.Stepping.{HearsIf}
use Rattle.media_agents.proofs.TrafficLemmas.{takes_lacked, takes_noted}
use Rattle.media_agents.proofs.hearing.take.Goals as goal

pub returns-in-Some-clause-takes : goal.returns-in-Some-clause-takes
returns-in-Some-clause-takes g c =
    let did = g.S.Stepping.did in
    takes_noted c.args.now c.args.local.now c.args.from.now (content c.args.packet) c.args.pass c.hear-pass.result.0 c.in-Some.it
    (did c.args.steps.now) (did c.hear-pass.new.self) (did c.note_packet.new.self)
    (subst (λ (it : Option It). GoesOn (HearsIf c.args.now c.args.local.now c.args.from.now (content c.args.packet) it c.args.pass c.hear-pass.result.0) (did c.args.steps.now) (did c.hear-pass.new.self))
    c.in-Some.is c.hear-pass.ensures.did)
    c.note_packet.ensures

pub returns-in-None-clause-takes : goal.returns-in-None-clause-takes
returns-in-None-clause-takes g c =
    let did = g.S.Stepping.did in
    takes_lacked c.args.now c.args.local.now c.args.from.now (content c.args.packet) c.args.pass c.hear-pass.result.0
    (did c.args.steps.now) (did c.hear-pass.new.self)
    (subst (λ (it : Option It). GoesOn (HearsIf c.args.now c.args.local.now c.args.from.now (content c.args.packet) it c.args.pass c.hear-pass.result.0) (did c.args.steps.now) (did c.hear-pass.new.self))
    c.in-None.is c.hear-pass.ensures.did)
