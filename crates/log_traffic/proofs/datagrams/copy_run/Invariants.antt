use Rattle.std.proofs.Common.{length, vec_len}
use Rattle.log_traffic.proofs.DatagramLemmas.{Copied}
use Rattle.log_traffic.specs.Datagrams.{frames_in}
use Rattle.log_traffic.proofs.datagrams.copy_run.Given as goal

-- what was taken is the copy
abbrev pub invariant-loop-frame : goal.invariant-loop-frame
invariant-loop-frame l = Copied l.term_length l.number l.mtu (frames_in l.fn.frames) (frames_in l.frames) l.copy.items (vec_len l.copy)

abbrev pub decreases-loop-frame : goal.decreases-loop-frame
decreases-loop-frame l = length (frames_in l.frames)
