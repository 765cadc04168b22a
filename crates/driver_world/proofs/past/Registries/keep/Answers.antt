use Rattle.std.proofs.Common.{ap, subst, sym}
use Rattle.driver_world.proofs.ViewLemmas.{all_push}
use Rattle.driver_world.specs.Past.{IsShown}
use Rattle.driver_world.specs.Views.{HeldPast, Past}
use Rattle.driver_world.proofs.past.Registries.keep.Goals as goal

pub invariant_of-self-in-Ok : goal.invariant_of-self-in-Ok
invariant_of-self-in-Ok c =
    rw (c.push_reserved.ensures.items, c.in-Ok.ensures.items)
    (all_push (λ one. IsShown (record { opened = c.self.inside.opened; taken = c.self.inside.taken.items }) one.1) c.self.inside.shown.items
    (c.args.actor, c.args.shown) c.self.invariant
    (subst (λ (p : Past). IsShown p c.args.shown) (sym (ap (λ (h : HeldPast). h.past) c.self.view_is)) c.requires))
