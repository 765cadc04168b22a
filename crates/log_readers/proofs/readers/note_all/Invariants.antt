use Rattle.std.proofs.Common.{◌≡◌, take}
use Rattle.log_readers.specs.Readers.{noted}
use Rattle.stream_registry.specs.Wish.{row_of}
use Rattle.log_readers.proofs.readers.note_all.Given as goal

-- the logs before this one have it noted
abbrev pub invariant-loop-at : goal.invariant-loop-at
invariant-loop-at l = l.slots ≡ noted (row_of l.wish) (take l.at l.logs) l.initial.slots
