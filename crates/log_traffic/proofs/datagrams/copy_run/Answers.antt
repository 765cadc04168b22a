-- The frame that was taken stands after the copy so far.
use Rattle.std.proofs.Common.{vec_len}
use Rattle.log_traffic.proofs.DatagramLemmas.{copied_more}
use Rattle.log_traffic.proofs.datagrams.copy_run.Goals as goal
use Rattle.log_traffic.specs.Datagrams.{frames_in}
use Rattle.term_log.specs.Reading.{given_of}

pub loop-frame-preserved : goal.loop-frame-preserved
loop-frame-preserved c =
    let more =
    copied_more c.args.term_length c.args.number c.args.mtu (frames_in c.args.frames.now) (frames_in c.loop-frame.frames)
    (frames_in c.next_fitting.new.frames) (given_of c.in-Some.frame) c.loop-frame.copy.items c.extend_from_slice.new.self.items
    (vec_len c.loop-frame.copy) c.loop-frame.invariant c.in-Some.ensures.0 (rw (← c.len.ensures) c.in-Some.ensures.1)
    c.in_ok-extend_from_slice.ensures.items in
    rw (c.in_ok-extend_from_slice.ensures.len) more
