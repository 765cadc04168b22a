use Rattle.std.proofs.Common.{◌≡◌, ◌++◌, drop}
use Rattle.std.specs.List.{flat_map}
use Rattle.driver_core.specs.Renewal.{unavailable_for}
use Rattle.driver_core.proofs.pairs.renewal.tell_all_unavailable.Given as goal

-- what was put there so far, and then what comes of the pairs that are left
abbrev pub invariant-loop-pair : goal.invariant-loop-pair
invariant-loop-pair l =
    l.messages ++ flat_map (unavailable_for l.after) (drop l.pair-index l.gone)
    ≡ l.initial.messages ++ flat_map (unavailable_for l.after) l.gone
