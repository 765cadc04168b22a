use Rattle.std.proofs.Common.{◌≡◌, drop, filter}
use Rattle.stream_registry.specs.Pairs.{fits}
use Rattle.driver_core.specs.SettingUp.{allowed_for, fitting}
use Rattle.driver_core.proofs.SettingLemmas.{allowed_by}
use Rattle.driver_core.proofs.state.registry.Registry.allowed_for.Given as goal

-- those that are left decide, and the denial for the first so far
abbrev pub invariant-loop-subscription : goal.invariant-loop-subscription
invariant-loop-subscription l =
    allowed_for l.self l.wanted (fitting l.self l.wanted)
    ≡ allowed_by l.self l.wanted l.lowest (filter (fits l.image) (drop l.subscription-index l.subscription-items))
