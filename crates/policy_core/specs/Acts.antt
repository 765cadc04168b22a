-- The acts of a rule: for each act, by its number, whether it is among them.
use Rattle.std.specs.Prelude.{Bool, true, false, replicate, slice_index_or, slice_set}
use Rattle.policy_core.specs.declared.act.Act.{Act}
use Rattle.policy_core.specs.declared.acts.Acts.{Acts}
use Rattle.policy_core.specs.Act.{act_number}

-- every act
abbrev pub every_act_held : Acts
every_act_held = record { held = replicate 14 true }

-- no act
abbrev pub no_act_held : Acts
no_act_held = record { held = replicate 14 false }

-- these acts and that one
abbrev pub with_act : Acts → Act → Acts
with_act acts act = record { held = slice_set acts.held (act_number act) true }

-- the act is one of these
abbrev pub holds : Acts → Act → Bool
holds acts act = slice_index_or acts.held (act_number act) false
