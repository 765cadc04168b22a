-- What is written lies in the newest term's buffer.
use Rattle.std.proofs.Common.{◌≡◌, ℕ, ◌+◌, ◌-◌, ◌*◌, ◌≤◌, List, length, ap, ap₂, ◌∙◌, arith}
use Rattle.std.proofs.lemmas.List.{with_items_is}
use Rattle.log_arena.specs.Lease.{lease_bytes, with_bytes}
use Rattle.frame_codec.specs.Frame.{pad_bytes}
use Rattle.term_log.specs.Buffers.{Filled, written, seen_of}
use Rattle.term_log.specs.Turning.{in_order, buffers_of}
use Rattle.term_log.proofs.Sizes.{length-pad_bytes}
use Rattle.term_log.proofs.Turns.{length-in_order, order_written, seen_written}
use Rattle.term_log.proofs.buffers.TermBuffers.put_pad.Goals as goal

pub returns : goal.returns
returns c =
    let s = c.self.inside in
    let new : List ℕ = (pad_bytes c.args.flags c.args.place.now c.args.size) in
    let at : ℕ = s.end - s.term_length + c.args.offset in
    let n : ℕ = 2 * s.term_length + c.args.offset in
    let size = length-pad_bytes c.args.flags c.args.place.now c.args.size in
    let low = c.self.invariant.low in
    let fits = rw (← c.self.view_is) at c.requires.within in
    let behind = rw (← c.self.view_is) at c.requires.behind in
    let most = c.self.invariant.within in
    let high = c.self.invariant.high in
    let long = c.self.invariant.size in
    let before : at + length new ≤ s.end = omega arith in
    let items : lease_bytes (with_bytes s.lease c.write_padding.new.bytes) ≡ c.write_padding.new.bytes =
    with_items_is s.lease.bytes c.write_padding.new.bytes (omega (arith, c.write_padding.auto.bytes, ap (length {A = ℕ}) c.bytes_mut.ensures.value, c.self.invariant.size, c.self.invariant.len)) in
    let bytes : in_order s.end (lease_bytes (with_bytes s.lease c.write_padding.new.bytes)) ≡ written n new (in_order s.end (lease_bytes s.lease)) =
    ap (in_order s.end) (items ∙ c.write_padding.ensures ∙ ap (written at new) c.bytes_mut.ensures.value)
    ∙ order_written s.end s.term_length at n new (lease_bytes s.lease) c.self.invariant.size c.self.invariant.high before (omega arith) in
    let more : ℕ = c.max-self-inside.result in
    let order : List ℕ = in_order s.end (lease_bytes s.lease) in
    let whole = length-in_order s.end (lease_bytes s.lease) (omega (arith, high, long)) in
    let seen : seen_of s.term_length more (in_order s.end (lease_bytes (with_bytes s.lease c.write_padding.new.bytes))) ≡ written n new (seen_of s.term_length s.filled order) =
    ap (seen_of s.term_length more) bytes
    ∙ seen_written n (2 * s.term_length + s.filled) (2 * s.term_length + more) (s.term_length - s.filled) (s.term_length - more) new order
    (omega arith) (omega arith) (omega arith) (omega arith) (omega arith) (omega arith) in
    let with : List ℕ → ℕ → Filled = λ x k. record { seen = record (buffers_of s).seen { bytes = x }; filled = k } in
    rw (← c.self.view_is) (ap₂ with seen c.max-self-inside.ensures)
