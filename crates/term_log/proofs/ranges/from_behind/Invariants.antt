use Rattle.std.proofs.Common.{◌≡◌, filter, length}
use Rattle.term_log.specs.Ranges.{meets}
use Rattle.term_log.specs.Reading.{frames_left}
use Rattle.term_log.proofs.ranges.from_behind.Given as goal

-- nothing that meets the range was passed
abbrev pub invariant-loop-size : goal.invariant-loop-size
invariant-loop-size l = filter (meets l.position l._size) (frames_left l.left) ≡ filter (meets l.position l._size) (frames_left l.frames)

abbrev pub decreases-loop-size : goal.decreases-loop-size
decreases-loop-size l = length l.left.rest.now
