use Rattle.std.proofs.Common.{◌≡◌, ℕ, length, Option, None, inr, refl, ap, sym, subst, ◌∙◌}
use Rattle.std.specs.List.{position}
use Rattle.media_wire.specs.Doors.{Enters, is_at}
use Rattle.media_wire.proofs.doors.entered.Goals as goal

pub returns-in_err-door-clause-enters : goal.returns-in_err-door-clause-enters
returns-in_err-door-clause-enters g c =
    let absent : position (is_at c.args.local.now) c.args.doors.now.items ≡ None =
    ap (position (is_at c.args.local.now)) (sym c.deref.ensures.value) ∙ sym c.place_of.ensures.place ∙ c.in_default.is in
    subst (λ (found : Option ℕ). Enters g.S.Socket.did g.S.Socket.stands c.args.places c.args.call c.args.local.now c.args.doors.now.items
    c.args.doors.now.items found)
    (sym c.from_residual.ensures)
    (absent, c.in_err-door.ensures, refl)

pub returns-clause-enters : goal.returns-clause-enters
returns-clause-enters g c = inr (record {
  absent = ap (position (is_at c.args.local.now)) (sym c.deref.ensures.value) ∙ sym c.place_of.ensures.place ∙ c.in_default.is;
  door = c.in_ok-door.door;
  opened = c.in_ok-door.ensures;
  left = c.make_room.new.doors.items;
  room = c.make_room.ensures.closed;
  next_is = c.push_reserved.ensures.items;
  place_is = ap (λ all. length all) c.as_slice-place.ensures.value;
})
