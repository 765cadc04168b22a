use Rattle.std.proofs.Common.{◌≡◌, Ok, sym, ap, ◌∙◌, rules}
use Rattle.driver_core.specs.Draft.{answered}
use Rattle.driver_core.specs.SettingUp.{image_made, setting_of, wanted_by}
use Rattle.driver_core.proofs.ImagingLemmas.{setup_made}
use Rattle.driver_core.proofs.SettingLemmas.{has_its_room}
use Rattle.driver_core.proofs.state.registry.Registry.tell_setup.Goals as goal

pub next_number-source-requires : goal.next_number-source-requires
next_number-source-requires c =
    (has_its_room c.args.self.now c.wanted_by-wanted.result c.in-Ok.place (sym c.setting.ensures ∙ c.in-Ok.is)).1

-- the image comes
pub returns-in-Ok : goal.returns-in-Ok
unfolding image_made answered
returns-in-Ok c =
    let s = c.args.self.now in
    let wanted = wanted_by c.args.local.now c.args.from.now c.args.setup.now c.in-Some.join in
    let set : setting_of s wanted ≡ Ok c.in-Ok.place =
    ap (setting_of s) (sym c.wanted_by-wanted.ensures) ∙ sym c.setting.ensures ∙ c.in-Ok.is in
    rw (setup_made s c.args.local.now c.args.from.now c.args.setup.now c.in-Some.join c.in-Ok.place
    (sym c.join.ensures ∙ c.in-Some.is) set) (search rules)
