use Rattle.std.proofs.Common.{◌≡◌, ap}
use Rattle.driver_world.specs.Views.{actor_of}
use Rattle.driver_world.proofs.ServeLemmas.{look_in, looked_served, not_looked}
use Rattle.driver_world.proofs.world.World.act.Goals as goal

pub returns-in-Err : goal.returns-in-Err
returns-in-Err c =
    let actor : c.whose-actor.result.0 ≡ actor_of c.args.step.now = ap (λ whose. whose.0) c.whose-actor.ensures.is in
    rw (c.look.ensures.same)
    (not_looked c.args.self.now c.args.view c.args.step.now c.in-Err.answer c.whose-actor.ensures.looks (rw (← actor) c.in-Err.ensures.err))

pub returns : goal.returns
returns c =
    let actor : c.whose-actor.result.0 ≡ actor_of c.args.step.now = ap (λ whose. whose.0) c.whose-actor.ensures.is in
    rw (← c.look.ensures.same)
    (looked_served c.look.new.self c.perform-answer.new.self c.sit.new.self c.args.view c.args.step.now c.in-Ok.look c.perform-answer.result
    c.whose-actor.ensures.looks
    (look_in c.look.new.self c.args.self.now (actor_of c.args.step.now) c.args.view c.in-Ok.look c.look.ensures.same (rw (← actor) c.in-Ok.ensures.ok))
    c.perform-answer.ensures
    (rw (c.whose-actor.ensures.at c.in-Ok.look.moment, ← ap (λ whose. whose.1) c.whose-actor.ensures.is, ← actor, ← c.at-now.ensures) c.sit.ensures))
