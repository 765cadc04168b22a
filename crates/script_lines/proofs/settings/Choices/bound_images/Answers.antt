use Rattle.std.proofs.Common.{sym, ◌∙◌}
use Rattle.script_lines.proofs.SettingsLemmas.{images_chosen}
use Rattle.script_lines.proofs.settings.Choices.bound_images.Goals as goal

pub invariant_of-self : goal.invariant_of-self
invariant_of-self c =
    images_chosen _ c.args.value.now c.in-Some.images c.self.invariant (sym c.images_of.ensures ∙ c.in-Some.is)
