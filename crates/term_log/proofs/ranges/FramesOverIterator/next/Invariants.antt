use Rattle.std.proofs.Common.{◌≡◌, length}
use Rattle.term_log.specs.Ranges.{all_left, over_left}
use Rattle.term_log.proofs.ranges.FramesOverIterator.next.Given as goal

-- the frames that were passed did not meet the range
abbrev pub invariant-loop-frame : goal.invariant-loop-frame
invariant-loop-frame l = over_left l.self ≡ over_left l.fn.self

abbrev pub decreases-loop-frame : goal.decreases-loop-frame
decreases-loop-frame l = length (all_left l.self)
