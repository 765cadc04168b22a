use Rattle.std.proofs.Common.{◌≡◌, drop}
use Rattle.reading_progress.specs.Pairs.{has_pair}
use Rattle.reading_progress.proofs.pairs.has.Given as goal

-- the pairs that are left decide
abbrev pub invariant-loop-pair : goal.invariant-loop-pair
invariant-loop-pair l = has_pair l.subscription l.source (drop l.pair-index l.pairs) ≡ has_pair l.subscription l.source l.pairs
