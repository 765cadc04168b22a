use Rattle.std.proofs.Common.{◌≡◌, Some, None, refl, ap, subst, sym, ◌∙◌}
use Rattle.std.specs.List.{find, position}
use Rattle.media_wire.specs.Letters.{is_for}
use Rattle.media_wire.specs.Networks.{Net, taken}
use Rattle.media_wire.proofs.Flights.{net_of, taken_first}
use Rattle.media_wire.proofs.Places.{none_found}
use Rattle.media_wire.proofs.network.Network.take.Goals as goal

pub returns-in-Some : goal.returns-in-Some
returns-in-Some c =
    let at : position (is_for c.args.address.now) c.self.inside.letters.items ≡ Some c.in-Some.place =
    ap (position (is_for c.args.address.now)) (sym c.deref.ensures.value) ∙ sym c.in-Some.ensures in
    subst (λ (now : Net). taken now c.args.address.now
    (net_of c.self.inside.fates.items (record { letters = c.remove.new.self.items; turn = c.self.inside.turn }) c.self.inside.failures)
    (Some c.remove.result))
    c.self.view_is
    (taken_first c.self.inside.fates.items c.self.inside.letters.items c.remove.new.self.items c.self.inside.turn c.self.inside.failures
    c.args.address.now c.in-Some.place c.remove.result at c.remove.ensures.value c.self.invariant c.remove.ensures.items)

pub returns-in-None : goal.returns-in-None
returns-in-None c =
    let at : position (is_for c.args.address.now) c.self.inside.letters.items ≡ None =
    ap (position (is_for c.args.address.now)) (sym c.deref.ensures.value) ∙ sym c.in-None.ensures in (
      subst (λ (now : Net). find (is_for c.args.address.now) now.flight.letters ≡ None) c.self.view_is
          (none_found (is_for c.args.address.now) c.self.inside.letters.items at),
      refl,
    )
