use Rattle.std.proofs.Common.{◌≡◌, ◌++◌, take, drop, map}
use Rattle.log_pairs.specs.Pairs.{moved_one}
use Rattle.log_pairs.proofs.pairs.move_one.Given as goal

-- the pairs before this one are moved where they are meant, the others are as they were
abbrev pub invariant-loop-pair : goal.invariant-loop-pair
invariant-loop-pair l =
    l.rows ≡ map (moved_one l.subscription l.position) (take l.pair-index l.initial.rows) ++ drop l.pair-index l.initial.rows
