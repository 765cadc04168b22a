use Rattle.std.proofs.Common.{◌≡◌, ◌++◌, drop}
use Rattle.std.specs.List.{flat_map}
use Rattle.driver_core.specs.Renewal.{decided_with}
use Rattle.stream_registry.specs.Wish.{row_of}
use Rattle.driver_core.proofs.state.registry.Registry.push_all_decided_with.Given as goal

-- what was put there so far, and then what comes of the pairs that are left
abbrev pub invariant-loop-pair : goal.invariant-loop-pair
invariant-loop-pair l =
    l.decisions ++ flat_map (decided_with l.self (row_of l.wish)) (drop l.pair-index l.come)
    ≡ l.initial.decisions ++ flat_map (decided_with l.self (row_of l.wish)) l.come
