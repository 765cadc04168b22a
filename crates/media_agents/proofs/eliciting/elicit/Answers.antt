use Rattle.std.proofs.Common.{◌≡◌, ◌∷◌, List, [], ap, subst, ◌∙◌}
use Rattle.media_agents.proofs.ElicitingLemmas.{elicits, elicits_none, elicits_then}
use Rattle.media_agents.proofs.LookLemmas.{kept, left}
use Rattle.media_agents.proofs.TrafficLemmas.{tried_none}
use Rattle.media_agents.specs.Acts.{Access, GoesOn, Trail, lacked, looked}
use Rattle.media_agents.specs.Eliciting.{Eliciting, letters_due}
use Rattle.media_agents.specs.Stepping.{look_of}
use Rattle.media_agents.proofs.eliciting.elicit.Goals as goal
use Rattle.published_registry.specs.Histories.{History}
use Rattle.std.specs.Prelude.{Result}

pub returns-in-Ok-clause-known : goal.returns-in-Ok-clause-known
returns-in-Ok-clause-known g c = left c.in-Ok.ensures.looks c.leave-pass.ensures

pub returns-in-Ok-clause-wire : goal.returns-in-Ok-clause-wire
returns-in-Ok-clause-wire g c =
    let did = g.S.Stepping.did in
    let went = g.W.Wire.went in
    elicits_then c.args.now c.args.pass c.leave-pass.result c.take.ensures.0 c.args.elicited.now c.look-in-Ok.new.self
    (letters_due c.settings-receiver_id.result.receiver_id c.as_slice.result.now) (looked c.in-Ok.look)
    (did c.args.steps.now) (did c.look.new.self) (went c.args.wire.now) (Trail (did c.send_each.new.steps) (went c.send_each.new.wire))
    (left c.in-Ok.ensures.looks c.leave-pass.ensures)
    (elicits c.args.now c.in-Ok.look c.leave-pass.result c.registry-registry.result.now c.settings-receiver_id.result c.take.ensures.0
    c.args.elicited.now c.take.new.self c.look-in-Ok.new.self c.as_slice.result.now c.leave-pass.ensures c.registry-registry.ensures
    c.settings-receiver_id.ensures c.take.ensures.1 c.look-in-Ok.ensures
    (c.as_slice.ensures.value ∙ ap (λ (eliciting : Eliciting). eliciting.wanted) c.elicited.view_is))
    (subst (λ (answer : Result History History). GoesOn (λ (accesses : List Access). accesses ≡ look_of answer ∷ []) (did c.args.steps.now) (did c.look.new.self)) c.in-Ok.is c.look.ensures.did)
    c.send_each.ensures

pub returns-in-Err-clause-known : goal.returns-in-Err-clause-known
returns-in-Err-clause-known g c = kept c.in-Err.ensures.same

pub returns-in-Err-clause-wire : goal.returns-in-Err-clause-wire
returns-in-Err-clause-wire g c =
    let did = g.S.Stepping.did in
    let trail = Trail (did c.look.new.self) (g.W.Wire.went c.args.wire.now) in
    elicits_then c.args.now c.args.pass c.in-Err.pass c.take.ensures.0 c.args.elicited.now c.take.new.self [] lacked
    (did c.args.steps.now) (did c.look.new.self) (g.W.Wire.went c.args.wire.now) trail
    (kept c.in-Err.ensures.same)
    (elicits_none c.args.now c.in-Err.pass c.take.ensures.0 c.args.elicited.now c.take.new.self c.take.ensures.1)
    (subst (λ (answer : Result History History). GoesOn (λ (accesses : List Access). accesses ≡ look_of answer ∷ []) (did c.args.steps.now) (did c.look.new.self)) c.in-Err.is c.look.ensures.did)
    (tried_none trail)
