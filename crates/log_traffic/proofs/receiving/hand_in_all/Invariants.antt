use Rattle.std.proofs.Common.{◌++◌}
use Rattle.std.specs.Prelude.{vec_capacity}
use Rattle.frame_codec.specs.Frames.{frames_left}
use Rattle.log_traffic.specs.Receiving.{after_frames, words_of}
use Rattle.log_traffic.proofs.ReceivingLemmas.{IsHanding}
use Rattle.log_traffic.proofs.receiving.hand_in_all.Given as goal

-- the words so far, and then those for the frames that are still to come
abbrev pub invariant-loop-frame : goal.invariant-loop-frame
invariant-loop-frame l =
    IsHanding l.log (frames_left l.frame-iterator) l.words.items (vec_capacity l.words)
    (l.initial.words.items ++ words_of l.initial.log.rebuilt (frames_left l.initial.frame-iterator))
    (after_frames l.initial.log.rebuilt (frames_left l.initial.frame-iterator)) l.initial.log.held l.initial.log.beside
