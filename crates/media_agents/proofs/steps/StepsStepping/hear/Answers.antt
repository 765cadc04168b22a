use Rattle.std.proofs.Common.{Some, ap, ◌∙◌}
use Rattle.std.specs.Prelude.{Ok, Err}
use Rattle.frame_codec.specs.Datagram.{content}
use Rattle.media_agents.proofs.LookLemmas.{continues}
use Rattle.media_agents.proofs.SteppingLemmas.{some_holds}
use Rattle.media_agents.proofs.StepsLemmas.{comes_known, strays_known, unseen_known}
use Rattle.media_agents.specs.Journals.{stamp_of}
use Rattle.media_agents.specs.Stepping.{Finds, place_for}
use Rattle.published_registry.specs.Histories.{registry_of}
use Rattle.media_agents.proofs.steps.StepsStepping.hear.Goals as goal

pub returns-in-Some-Ok-clause-did : goal.returns-in-Some-Ok-clause-did
returns-in-Some-Ok-clause-did g c =
    comes_known g.N.Naming.home c.args.now c.args.local.now c.args.from.now (content c.args.packet) c.in-Some-Ok.at c.come_to.result.1
    c.args.pass c.find-pass.result.0 c.come_to.result.0 c.find-pass.ensures.known c.come_to.ensures.known
    (continues c.find-pass.ensures.known c.come_to.ensures.known) (some_holds (Finds (place_for (registry_of c.find-pass.result.0) c.args.local.now c.args.from.now (content c.args.packet)) (stamp_of c.find-pass.result.0))
    c.find-pass.result.1 (Ok c.in-Some-Ok.at) c.find-pass.ensures.found (c.in-Some-Ok.is ∙ ap Some c.in-Some-Ok.field-0-is)) c.come_to.ensures.heard

pub returns-in-Some-Err-clause-did : goal.returns-in-Some-Err-clause-did
returns-in-Some-Err-clause-did g c =
    strays_known g.N.Naming.home c.args.now c.args.local.now c.args.from.now (content c.args.packet) c.in-Some-Err.it c.args.pass c.find-pass.result.0
    c.find-pass.ensures.known
    (some_holds (Finds (place_for (registry_of c.find-pass.result.0) c.args.local.now c.args.from.now (content c.args.packet)) (stamp_of c.find-pass.result.0))
    c.find-pass.result.1 (Err c.in-Some-Err.it) c.find-pass.ensures.found (c.in-Some-Err.is ∙ ap Some c.in-Some-Err.field-0-is))

pub returns-in-None-clause-did : goal.returns-in-None-clause-did
returns-in-None-clause-did g c =
    unseen_known g.N.Naming.home c.args.now c.args.local.now c.args.from.now (content c.args.packet) c.args.pass c.find-pass.result.0 c.find-pass.ensures.known
