use Rattle.std.proofs.Common.{◌≡◌, ◌++◌, drop}
use Rattle.std.specs.List.{flat_map}
use Rattle.driver_core.specs.Renewal.{unavailable_beside}
use Rattle.driver_core.proofs.state.registry.Registry.tell_unavailable_beside.Given as goal

-- what was told so far, and then what is told of the pairs that are left
abbrev pub invariant-loop-pair : goal.invariant-loop-pair
invariant-loop-pair l =
    l.messages ++ flat_map (unavailable_beside l.self l.clients) (drop l.pair-index l.gone)
    ≡ l.initial.messages ++ flat_map (unavailable_beside l.self l.clients) l.gone
