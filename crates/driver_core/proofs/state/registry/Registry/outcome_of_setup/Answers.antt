use Rattle.std.proofs.Common.{◌≡◌, ◌+◌, Some, Ok, Err, sym, subst, ap, ◌∙◌, rules}
use Rattle.std.specs.Prelude.{IfOk}
use Rattle.driver_core.specs.declared.state.setup_fault.SetupFault.TheVariants.{BadSetup}
use Rattle.driver_core.specs.declared.state.outcome.Response.TheVariants.{Imaged}
use Rattle.driver_core.specs.Renewal.{outcome_opening}
use Rattle.driver_core.specs.SettingUp.{new_image, setting_of, wanted_by}
use Rattle.driver_core.specs.Report.{tells_answer}
use Rattle.stream_registry.specs.declared.wanted.ImageWanted.{ImageWanted}
use Rattle.stream_registry.specs.Lingering.{place_of}
use Rattle.driver_core.specs.State.{at_moment}
use Rattle.driver_core.proofs.ImagingLemmas.{bad_setup, dropped_outcome, image_outcome, setting_later, setup_dropped, setup_made}
use Rattle.driver_core.proofs.SettingLemmas.{has_its_room, place_is_set}
use Rattle.driver_core.proofs.state.registry.Registry.outcome_of_setup.Goals as goal

pub returns-in_default : goal.returns-in_default
returns-in_default c =
    rw (
      bad_setup (at_moment c.args.self.now c.args.now) c.args.local.now c.args.from.now c.args.setup.now
          (sym c.join.ensures ∙ c.in_default.is),
      dropped_outcome c.args.self.now c.args.now c.args.inputs.now BadSetup,
    ) (search rules)

pub outcome_of_image-requires-clause-number : goal.outcome_of_image-requires-clause-number
outcome_of_image-requires-clause-number c =
    (has_its_room c.args.self.now c.wanted_by-wanted.result c.in-Ok.place (sym c.setting.ensures ∙ c.in-Ok.is)).1

pub outcome_of_image-requires-clause-place : goal.outcome_of_image-requires-clause-place
outcome_of_image-requires-clause-place c =
    place_is_set c.args.self.now c.wanted_by-wanted.result c.in-Ok.place (sym c.setting.ensures ∙ c.in-Ok.is)

pub returns-in-Ok : goal.returns-in-Ok
returns-in-Ok c =
    let s = c.args.self.now in
    let wanted = wanted_by c.args.local.now c.args.from.now c.args.setup.now c.in-Some.join in
    let set : setting_of s wanted ≡ Ok c.in-Ok.place =
    ap (setting_of s) (sym c.wanted_by-wanted.ensures) ∙ sym c.setting.ensures ∙ c.in-Ok.is in
    rw (
      setup_made (at_moment s c.args.now) c.args.local.now c.args.from.now c.args.setup.now c.in-Some.join c.in-Ok.place
          (sym c.join.ensures ∙ c.in-Some.is) (setting_later s c.args.now wanted ∙ set),
      image_outcome s c.args.now c.args.inputs.now wanted c.in-Ok.place c.outcome_of_image.ensures.in_order
          (place_is_set s wanted c.in-Ok.place set),
    )
    (subst (λ (w : ImageWanted).
    IfOk c.outcome_of_image.result (λ outcome.
    outcome
    ≡ outcome_opening s c.args.inputs.now
    (record (tells_answer (Imaged (s.last_number + 1))) { opens = Some (place_of (new_image s w)) }) (new_image s w)))
    c.wanted_by-wanted.ensures c.outcome_of_image.ensures.told)

pub returns-in-Err : goal.returns-in-Err
returns-in-Err c =
    let s = c.args.self.now in
    let wanted = wanted_by c.args.local.now c.args.from.now c.args.setup.now c.in-Some.join in
    let set : setting_of s wanted ≡ Err c.in-Err.fault =
    ap (setting_of s) (sym c.wanted_by-wanted.ensures) ∙ sym c.setting.ensures ∙ c.in-Err.is in
    rw (
      setup_dropped (at_moment s c.args.now) c.args.local.now c.args.from.now c.args.setup.now c.in-Some.join c.in-Err.fault
          (sym c.join.ensures ∙ c.in-Some.is) (setting_later s c.args.now wanted ∙ set),
      dropped_outcome s c.args.now c.args.inputs.now c.in-Err.fault,
    ) (search rules)
