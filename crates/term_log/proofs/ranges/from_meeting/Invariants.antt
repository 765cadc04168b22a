use Rattle.std.proofs.Common.{◌≡◌, filter}
use Rattle.term_log.specs.Ranges.{meets}
use Rattle.term_log.specs.Reading.{frames_left}
use Rattle.term_log.proofs.ranges.from_meeting.Given as goal

-- nothing that meets the range was passed
abbrev pub invariant-loop-frame : goal.invariant-loop-frame
invariant-loop-frame l =
    (goal.iterator-loop-frame).can_next l.later × (goal.iterator-loop-frame).is_finite l.later
    × (l.left ≡ l.later)
    × (filter (meets l.position l.size) (frames_left l.later) ≡ filter (meets l.position l.size) (frames_left l.frames))
