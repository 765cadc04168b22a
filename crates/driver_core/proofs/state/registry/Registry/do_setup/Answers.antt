use Rattle.std.proofs.Common.{sym, ap, ◌∙◌}
use Rattle.driver_core.specs.Draft.{Draft, answered}
use Rattle.driver_core.specs.SettingUp.{image_made, setting_of, with_image}
use Rattle.driver_core.proofs.ImagingLemmas.{setup_made}
use Rattle.driver_core.proofs.SettingLemmas.{has_its_room, place_is_set}
use Rattle.driver_core.proofs.state.registry.Registry.do_setup.Goals as goal

pub put_image-requires-clause-number : goal.put_image-requires-clause-number
put_image-requires-clause-number c =
    (has_its_room c.args.self.now c.wanted_by-wanted.result c.in-Ok.place (sym c.setting.ensures ∙ c.in-Ok.is)).1

pub put_image-requires-clause-room : goal.put_image-requires-clause-room
put_image-requires-clause-room c =
    (has_its_room c.args.self.now c.wanted_by-wanted.result c.in-Ok.place (sym c.setting.ensures ∙ c.in-Ok.is)).0

pub put_image-requires-clause-place : goal.put_image-requires-clause-place
put_image-requires-clause-place c =
    place_is_set c.args.self.now c.wanted_by-wanted.result c.in-Ok.place (sym c.setting.ensures ∙ c.in-Ok.is)

pub returns-in-Ok : goal.returns-in-Ok
unfolding image_made answered
returns-in-Ok c =
    c.put_image.ensures
    ∙ ap (with_image c.args.self.now) c.wanted_by-wanted.ensures
    ∙ sym (ap (λ (draft : Draft). draft.after)
    (setup_made c.args.self.now c.args.local.now c.args.from.now c.args.setup.now c.in-Some.join c.in-Ok.place
    (sym c.join.ensures ∙ c.in-Some.is)
    (ap (setting_of c.args.self.now) (sym c.wanted_by-wanted.ensures) ∙ sym c.setting.ensures ∙ c.in-Ok.is)))
