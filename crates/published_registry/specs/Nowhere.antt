-- A registry with which nothing was opened.
use Rattle.std.specs.Prelude.{false, []}
use Rattle.driver_core.specs.Settings.{default_settings}
use Rattle.driver_core.specs.State.{State, opened}

-- what stands for the registry that was opened where none is known
abbrev pub nowhere : State
nowhere = opened default_settings (record { rules = []; default_allows = false }) []
