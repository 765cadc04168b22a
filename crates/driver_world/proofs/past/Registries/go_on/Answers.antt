use Rattle.std.proofs.Common.{◌≡◌, ◌<◌, List, length, arith, sym, ap, ◌∙◌, rules}
use Rattle.driver_core.specs.Conduct.{state_after}
use Rattle.driver_core.specs.State.{State}
use Rattle.driver_world.specs.Views.{HeldPast, newest_of}
use Rattle.driver_world.proofs.ViewLemmas.{Event_taken, next_registry}
use Rattle.driver_world.proofs.past.Registries.go_on.Goals as goal

pub loop-shown-preserved : goal.loop-shown-preserved
loop-shown-preserved c =
    let opened : State = c.args.self.now.past.opened in
    let all : List Event_taken = c.args.self.now.past.taken in
    let same : c.self.inside.taken.items ≡ all = ap (λ (h : HeldPast). h.past.taken) c.self.view_is in
    let within : c.loop-shown.shown.number < length all = omega (arith, c.loop-shown-test.true, c.requires.within) in
    let one : Event_taken = c.index-one.result.now in
    let next = next_registry opened all c.loop-shown.shown.number one within (rw (← same) c.index-one.ensures) in
    record {
      at = (
        omega (arith, within),
        c.in-Ok.ensures
            ∙ ap (λ (s : State). state_after s one.0 one.1) (search rules ∙ c.loop-shown.invariant.at.1)
            ∙ sym next,
      );
      before = omega (arith, c.loop-shown-test.true);
    }

pub index-one-requires : goal.index-one-requires
index-one-requires c =
    let same : length c.self.inside.taken.items ≡ newest_of c.args.self.now.past = ap (λ (h : HeldPast). newest_of h.past) c.self.view_is in
    omega (arith, c.loop-shown-test.true, c.requires.within, same, c.self.inside.taken.ok)
