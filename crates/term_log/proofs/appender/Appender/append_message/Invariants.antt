use Rattle.std.proofs.Common.{◌≡◌, map}
use Rattle.std.specs.List.{range_with_len}
use Rattle.term_log.specs.Kept.{after_frames}
use Rattle.term_log.specs.Cut.{part_of}
use Rattle.term_log.proofs.appender.Appender.append_message.Given as goal

-- the frames before this one were appended
abbrev pub invariant-loop-i : goal.invariant-loop-i
invariant-loop-i l = l.self ≡ after_frames l.initial.self (map (part_of l.payload l.message) (range_with_len 0 l.i))
