use Rattle.std.proofs.Common.{◌≡◌, ◌++◌, drop, map}
use Rattle.driver_steps.specs.OpenLogs.{end_held}
use Rattle.driver_steps.proofs.inputs.ends_of.Given as goal

-- the ends so far, and then those of the logs that are left
abbrev pub invariant-loop-open : goal.invariant-loop-open
invariant-loop-open l = l.ends ++ map end_held (drop l.open-index l.logs) ≡ map end_held l.logs
