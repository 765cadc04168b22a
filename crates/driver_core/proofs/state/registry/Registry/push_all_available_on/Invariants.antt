use Rattle.std.proofs.Common.{◌≡◌, ◌++◌, drop}
use Rattle.std.specs.List.{flat_map}
use Rattle.driver_core.specs.Renewal.{available_on}
use Rattle.stream_registry.specs.Wish.{row_of}
use Rattle.driver_core.proofs.state.registry.Registry.push_all_available_on.Given as goal

-- what was put there so far, and then what comes of the pairs that are left
abbrev pub invariant-loop-pair : goal.invariant-loop-pair
invariant-loop-pair l =
    l.messages ++ flat_map (available_on l.self.streams.sources l.ends (row_of l.wish)) (drop l.pair-index l.come)
    ≡ l.initial.messages ++ flat_map (available_on l.self.streams.sources l.ends (row_of l.wish)) l.come
