use Rattle.std.proofs.Common.{◌≡◌, drop}
use Rattle.reading_progress.specs.Pairs.{is_any_stuck}
use Rattle.reading_progress.proofs.pairs.is_any_stuck.Given as goal

-- the pairs that are left decide
abbrev pub invariant-loop-pair : goal.invariant-loop-pair
invariant-loop-pair l = is_any_stuck l.now l.longest (drop l.pair-index l.pairs) ≡ is_any_stuck l.now l.longest l.pairs
