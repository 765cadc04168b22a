use Rattle.std.proofs.Common.{sym, subst, ◌∙◌}
use Rattle.driver_core.specs.Soundness.{AreSettings}
use Rattle.script_lines.specs.Settings.{Chosen}
use Rattle.script_lines.proofs.SettingsLemmas.{chosen_sound}
use Rattle.script_lines.proofs.settings.Choices.choose.Goals as goal

pub invariant_of-self-2 : goal.invariant_of-self-2
invariant_of-self-2 c =
    let P : Chosen → Type 0 = λ choices. AreSettings choices.settings in
    chosen_sound c.args.self.now c.as_str.result.now c.args.value.now c.in-Some.settings
    (subst P c.self.view_is c.self.invariant) (sym c.chosen.ensures ∙ c.in-Some.is)
