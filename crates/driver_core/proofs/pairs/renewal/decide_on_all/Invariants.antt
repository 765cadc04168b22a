use Rattle.std.proofs.Common.{◌≡◌, ◌++◌, drop}
use Rattle.std.specs.List.{flat_map}
use Rattle.driver_core.specs.Renewal.{decided_on, under}
use Rattle.driver_core.proofs.pairs.renewal.decide_on_all.Given as goal

-- what was put there so far, and then what comes of the pairs that are left
abbrev pub invariant-loop-pair : goal.invariant-loop-pair
invariant-loop-pair l =
    l.decisions ++ flat_map (decided_on (under l.lists l.policy l.epoch)) (drop l.pair-index l.pairs)
    ≡ l.initial.decisions ++ flat_map (decided_on (under l.lists l.policy l.epoch)) l.pairs
