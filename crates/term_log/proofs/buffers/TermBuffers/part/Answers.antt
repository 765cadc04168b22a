-- A part of a term stands behind the end of the newest term's buffer, or before it.
use Rattle.std.proofs.Common.{◌≡◌, ℕ, ◌+◌, List, take, drop, ap, ◌∙◌, arith}
use Rattle.std.proofs.lemmas.Bool.Decides.{nat_tests}
use Rattle.log_arena.specs.Lease.{lease_bytes}
use Rattle.term_log.specs.Turning.{in_order}
use Rattle.term_log.proofs.Turns.{part_filled, part_later, part_before}
use Rattle.term_log.proofs.buffers.TermBuffers.part.Goals as goal
use Rattle.term_log.proofs.buffers.TermBuffers.part.Goals.{then-base-behind, else-base-behind}

pub returns-clause-bytes : goal.returns-clause-bytes
returns-clause-bytes c =
    let s = c.self.inside in
    let count : ℕ = c.args.count in
    let base : ℕ = c.args.base in
    let offset : ℕ = c.args.offset in
    let bytes : List ℕ = lease_bytes s.lease in
    let is_base = rw (← c.self.view_is) at c.requires.base in
    let inside = rw (← c.self.view_is) at c.requires.within in
    let lent : c.split_at-2.result.0.now ≡ take count (drop c.if-base-behind.at bytes) =
    c.split_at-2.ensures.front ∙ ap (take count) (c.split_at.ensures.back ∙ ap (drop c.if-base-behind.at) c.bytes.ensures) in
    let here : take count (drop c.if-base-behind.at bytes) ≡ take count (drop (base + offset) (in_order s.end bytes)) =
    elim c.if-base-behind.branch [
      | then-base-behind w ↦
          ap (λ (k : ℕ). take count (drop k bytes)) w.at-is
          ∙ part_later s.end s.term_length base offset count bytes c.self.invariant.at is_base c.self.invariant.size inside (grind (arith, nat_tests, w.if-base-behind.true))
      | else-base-behind w ↦
          ap (λ (k : ℕ). take count (drop k bytes)) w.at-is
          ∙ part_before s.end s.term_length base offset count bytes c.self.invariant.at is_base c.self.invariant.size inside (grind (arith, nat_tests, w.if-base-behind.false))
    ] in
    let filled = rw (← c.self.view_is) at c.requires.filled in
    rw (← c.self.view_is)
    (lent ∙ here ∙ part_filled s.end s.term_length base offset count s.filled bytes c.self.invariant.size c.self.invariant.high c.self.invariant.within filled)
