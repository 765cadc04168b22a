use Rattle.std.proofs.Common.{◌≡◌, length}
use Rattle.frame_codec.specs.Frames.{all_later}
use Rattle.frame_codec.specs.Steps.{fault_of}
use Rattle.frame_codec.proofs.frames.check_later.Given as goal

-- what is left decides as the whole does
abbrev pub invariant-loop-rest : goal.invariant-loop-rest
invariant-loop-rest l = fault_of (all_later l.before l.rest) ≡ fault_of (all_later l.fn.first l.fn.bytes)

abbrev pub decreases-loop-rest : goal.decreases-loop-rest
decreases-loop-rest l = length l.rest
