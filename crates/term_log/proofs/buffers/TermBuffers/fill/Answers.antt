-- What is cleared lies in the newest term's buffer, right behind what is seen of it.
use Rattle.std.proofs.Common.{◌≡◌, ℕ, ◌+◌, ◌-◌, ◌*◌, ◌≤◌, max, List, length, ap, ap₂, ◌∙◌, arith}
use Rattle.std.proofs.lemmas.List.{length-replicate, with_items_is}
use Rattle.std.specs.Prelude.{replicate}
use Rattle.log_arena.specs.Lease.{lease_bytes, with_bytes}
use Rattle.term_log.specs.Buffers.{Filled, written, seen_of}
use Rattle.term_log.specs.Turning.{in_order, buffers_of}
use Rattle.term_log.proofs.Turns.{length-in_order, order_written, seen_cleared}
use Rattle.term_log.proofs.buffers.TermBuffers.fill.Goals as goal

pub returns : goal.returns
returns c =
    let s = c.self.inside in
    let fits = rw (← c.self.view_is) at c.requires in
    let low = c.self.invariant.low in
    let high = c.self.invariant.high in
    let long = c.self.invariant.size in
    let end : ℕ = c.args.end in
    let zeros : List ℕ = replicate (end - s.filled) 0 in
    let size : length zeros ≡ end - s.filled = length-replicate {A = ℕ} (end - s.filled) 0 in
    let at : ℕ = s.end - s.term_length + s.filled in
    let n : ℕ = 2 * s.term_length + s.filled in
    let more : ℕ = 2 * s.term_length + end in
    let before : at + length zeros ≤ s.end = omega arith in
    let items : lease_bytes (with_bytes s.lease c.clear.new.bytes) ≡ c.clear.new.bytes =
    with_items_is s.lease.bytes c.clear.new.bytes (omega (arith, c.clear.auto.bytes, ap (length {A = ℕ}) c.bytes_mut.ensures.value, c.self.invariant.size, c.self.invariant.len)) in
    let order : List ℕ = in_order s.end (lease_bytes s.lease) in
    let whole = length-in_order s.end (lease_bytes s.lease) (omega (arith, high, long)) in
    let bytes : in_order s.end (lease_bytes (with_bytes s.lease c.clear.new.bytes)) ≡ written n zeros order =
    ap (in_order s.end) (items ∙ c.clear.ensures ∙ ap (written at zeros) c.bytes_mut.ensures.value)
    ∙ order_written s.end s.term_length at n zeros (lease_bytes s.lease) long high before (omega arith) in
    let same : end - s.filled ≡ more - n = omega arith in
    let seen : seen_of s.term_length end (in_order s.end (lease_bytes (with_bytes s.lease c.clear.new.bytes))) ≡ seen_of s.term_length s.filled order =
    ap (seen_of s.term_length end) bytes
    ∙ ap (λ (k : ℕ). seen_of s.term_length end (written n (replicate k 0) order)) same
    ∙ seen_cleared n more (s.term_length - s.filled) (s.term_length - end) order (omega arith) (omega arith) (omega arith) (omega arith) in
    let most : end ≡ max s.filled end = omega arith in
    let with : List ℕ → ℕ → Filled = λ x k. record { seen = record (buffers_of s).seen { bytes = x }; filled = k } in
    rw (← c.self.view_is) (ap₂ with seen most)
