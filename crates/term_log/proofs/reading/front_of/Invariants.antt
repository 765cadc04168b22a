use Rattle.std.proofs.Common.{◌≡◌, ◌+◌, length}
use Rattle.term_log.specs.Reading.{frames_left, sent_bytes, spans}
use Rattle.term_log.proofs.reading.front_of.Given as goal

-- so many bytes of the frames were passed, and so many positions
abbrev pub invariant-loop-frame : goal.invariant-loop-frame
invariant-loop-frame l =
    (l.size + length (sent_bytes (frames_left l.later)) ≡ length (sent_bytes (frames_left l.fn.frames)))
    × (l.span + spans (frames_left l.later) ≡ spans (frames_left l.fn.frames))

abbrev pub decreases-loop-frame : goal.decreases-loop-frame
decreases-loop-frame l = length (frames_left l.later)
