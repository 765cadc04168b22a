use Rattle.std.proofs.Common.{◌≡◌, drop}
use Rattle.log_pairs.specs.Pairs.{position_of}
use Rattle.log_pairs.proofs.pairs.position_in.Given as goal

-- the pairs that are left decide
abbrev pub invariant-loop-pair : goal.invariant-loop-pair
invariant-loop-pair l = position_of (drop l.pair-index l.rows) l.subscription ≡ position_of l.rows l.subscription
