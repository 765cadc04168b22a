-- The next buffer is the one behind, or the first.
use Rattle.std.proofs.Common.{◌≡◌, ℕ, List, ap, arith}
use Rattle.log_arena.specs.Lease.{lease_bytes}
use Rattle.term_log.specs.Buffers.{Filled, seen_of, turned}
use Rattle.term_log.specs.Turning.{in_order, buffers_of}
use Rattle.term_log.proofs.Turns.{turned_to_front, turned_to_next, end_before}
use Rattle.term_log.proofs.buffers.TermBuffers.turn.Goals as goal
use Rattle.term_log.proofs.buffers.TermBuffers.turn.Goals.{then-self-term_length, else-self-term_length}

pub returns : goal.returns
returns c =
    let s = c.self.inside in
    let bytes : List ℕ = lease_bytes s.lease in
    let next : ℕ = c.if-self-term_length.end in
    let full = rw (← c.self.view_is) at c.requires in
    let most = c.self.invariant.within in
    let all : s.filled ≡ s.term_length = omega (arith, full, most) in
    let here : seen_of s.term_length 0 (in_order next bytes) ≡ turned s.term_length (seen_of s.term_length s.filled (in_order s.end bytes)) =
    elim c.if-self-term_length.branch [
      | then-self-term_length w ↦ turned_to_front s.end next s.term_length s.filled bytes c.self.invariant.size (omega arith) (omega arith) all
      | else-self-term_length w ↦ turned_to_next s.end next s.term_length s.filled bytes c.self.invariant.size (end_before s.term_length s.end c.self.invariant.at w.if-self-term_length.false) (omega arith) all
    ] in
    let with : List ℕ → Filled = λ x. record { seen = record (buffers_of s).seen { bytes = x }; filled = 0 } in
    rw (← c.self.view_is) (ap with here)
