use Rattle.std.proofs.Common.{◌≡◌, ◌++◌, length}
use Rattle.log_pairs.specs.Polling.{behind, fragments_of, passed}
use Rattle.log_pairs.proofs.polling.copy_passed.Given as goal

-- what is copied stands before what is still to be given, and the frames that are still to be passed decide
pub record Goes (copied given : Type 0) : Type 0 where
  pub copies : copied
  pub behind : given

abbrev pub invariant-loop-frame : goal.invariant-loop-frame
invariant-loop-frame g l =
    Goes (fragments_of (passed l.fn.limit (g.F.PolledFrames.frames l.fn.frames)) ≡ l.copies ++ fragments_of (passed l.limit (g.F.PolledFrames.frames l.frames)))
    (behind l.end (passed l.limit (g.F.PolledFrames.frames l.frames)) ≡ behind l.fn.position (passed l.fn.limit (g.F.PolledFrames.frames l.fn.frames)))

abbrev pub decreases-loop-frame : goal.decreases-loop-frame
decreases-loop-frame g l = length (g.F.PolledFrames.frames l.frames)
