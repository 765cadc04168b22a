use Rattle.media_wire.proofs.Oldest.{IsOldestBefore}
use Rattle.media_wire.proofs.doors.oldest_of.Given as goal

abbrev pub invariant-loop-place : goal.invariant-loop-place
invariant-loop-place g l = IsOldestBefore l.doors l.oldest l.place
