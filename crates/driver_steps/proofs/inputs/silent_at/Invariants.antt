use Rattle.std.proofs.Common.{◌≡◌, ◌++◌, drop, filter, map}
use Rattle.driver_steps.specs.OpenLogs.{is_silent_at}
use Rattle.driver_steps.proofs.inputs.silent_at.Given as goal

-- the silent ones so far, and then those of the logs that are left
abbrev pub invariant-loop-open : goal.invariant-loop-open
invariant-loop-open l =
    l.silent ++ map (λ held. held.source) (filter (is_silent_at l.registry l.now) (drop l.open-index l.logs))
    ≡ map (λ held. held.source) (filter (is_silent_at l.registry l.now) l.logs)
