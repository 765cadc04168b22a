use Rattle.std.proofs.Common.{◌≡◌, ◌++◌, drop}
use Rattle.log_readers.specs.Turnover.{lacking}
use Rattle.log_readers.proofs.reloading.push_lacking.Given as goal

-- the pairs so far, and then those of the ones that are left which the others lack
abbrev pub invariant-loop-pair : goal.invariant-loop-pair
invariant-loop-pair l = l.pairs ++ lacking (drop l.pair-index l.from) l.others ≡ l.initial.pairs ++ lacking l.from l.others
