use Rattle.std.proofs.Common.{◌≡◌, ◌++◌, take, drop, map}
use Rattle.reading_progress.specs.Pairs.{seen_at}
use Rattle.reading_progress.proofs.pairs.see.Given as goal

-- the pairs before this one are seen, the others are as they were
abbrev pub invariant-loop-pair : goal.invariant-loop-pair
invariant-loop-pair l = l.pairs ≡ map (seen_at l.subscription l.source l.now l.position l.received) (take l.pair-index l.initial.pairs) ++ drop l.pair-index l.initial.pairs
