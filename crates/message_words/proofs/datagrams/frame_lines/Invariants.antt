use Rattle.std.proofs.Common.{◌≡◌, ◌++◌}
use Rattle.std.specs.String.{string_bytes}
use Rattle.frame_codec.specs.Frames.{frames_left}
use Rattle.message_words.specs.Datagrams.{frame_lines}
use Rattle.message_words.proofs.datagrams.frame_lines.Given as goal

-- with the lines of the frames that are left, the lines so far are those of all frames
abbrev pub invariant-loop-frame : goal.invariant-loop-frame
invariant-loop-frame l = string_bytes l.out ++ frame_lines (frames_left l.frame-iterator) ≡ frame_lines (frames_left l.initial.frame-iterator)
