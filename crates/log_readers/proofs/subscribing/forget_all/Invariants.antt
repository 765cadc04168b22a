use Rattle.std.proofs.Common.{◌≡◌, take}
use Rattle.log_readers.specs.Readers.{forgotten}
use Rattle.stream_registry.specs.Wish.{row_of}
use Rattle.log_readers.proofs.subscribing.forget_all.Given as goal

-- the logs before this one have it no more
abbrev pub invariant-loop-at : goal.invariant-loop-at
invariant-loop-at l = l.slots ≡ forgotten (row_of l.wish) (take l.at l.logs) l.initial.slots
