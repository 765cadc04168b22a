use Rattle.std.proofs.Common.{◌≡◌, drop}
use Rattle.log_pairs.specs.Pairs.{least_of}
use Rattle.log_pairs.proofs.pairs.Pairs.least.Given as goal

-- the pairs that are left decide
abbrev pub invariant-loop-pair : goal.invariant-loop-pair
invariant-loop-pair l = least_of l.least (drop l.pair-index l.self) ≡ least_of l.first l.self
