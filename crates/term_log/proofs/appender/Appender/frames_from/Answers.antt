-- The bytes that are lent are those of the frames from the position on.
use Rattle.std.proofs.Common.{◌≡◌, ℕ, ◌+◌, ◌-◌, ◌*◌, ◌/◌, ◌%◌, ◌<◌, ◌≤◌, min, refl, sym, subst, arith}
use Rattle.term_log.specs.Buffers.{IsBase}
use Rattle.term_log.specs.Kept.{Kept}
use Rattle.term_log.specs.Reading.{frames_left}
use Rattle.std.proofs.lemmas.Nat.{div-add-mod', mul-le}
use Rattle.term_log.proofs.Ends.{left_sized, row_from}
use Rattle.term_log.proofs.Held.{base_is, term_near, gives_from}
use Rattle.term_log.proofs.appender.Appender.frames_from.Goals as goal

pub part-bytes-requires-clause-base : goal.part-bytes-requires-clause-base
part-bytes-requires-clause-base c =
    let s = c.self.inside in
    let same = c.self.invariant.same in
    let low = rw (← c.self.view_is) at c.requires.low in
    let high = rw (← c.self.view_is) at c.requires.high in
    let term : ℕ = s.ident.term_length in
    let term_low = c.self.invariant.ident.term_low in
    let is : c.from-term_length.result ≡ term = c.from-term_length.ensures in
    let begin : c.term_start-begin.result ≡ c.args.position - c.args.position % term = rw (← c.self.view_is) at c.term_start-begin.ensures in
    let offset = c.self.invariant.offset_is in
    let base : ℕ = c.args.position - c.args.position % term + 2 * term - (s.tail - s.tail % term) in
    let here : IsBase term base = base_is s.tail c.args.position term base (omega arith) (omega (arith, low)) high refl in
    let same_base : base ≡ c.term_start-begin.result + 2 * c.from-term_length.result - (s.tail - s.offset) = omega arith in
    subst (λ (n : ℕ). IsBase s.buffers.seen.term_length n) same_base (subst (λ (t : ℕ). IsBase t base) (sym same) here)

-- no byte is lent from the tail on
pub part-bytes-requires-clause-filled : goal.part-bytes-requires-clause-filled
part-bytes-requires-clause-filled c =
    let s = c.self.inside in
    let same = c.self.invariant.same in
    let written = c.self.invariant.written in
    let high = rw (← c.self.view_is) at c.requires.high in
    let term : ℕ = s.ident.term_length in
    let term_low = c.self.invariant.ident.term_low in
    let is : c.from-term_length.result ≡ term = c.from-term_length.ensures in
    let begin : c.term_start-begin.result ≡ c.args.position - c.args.position % term = rw (← c.self.view_is) at c.term_start-begin.ensures in
    let end : c.min-end.result ≡ min s.tail (c.term_start-begin.result + c.from-term_length.result) = c.min-end.ensures in
    let rest : c.args.position % term < term = omega arith in
    omega (arith, same, written, high, is, begin, end, rest)

pub returns-clause-gives : goal.returns-clause-gives
returns-clause-gives c =
    let s = c.self.inside in
    let k : Kept = record { ident = s.ident; tail = s.tail; messages = s.messages; buffers = s.buffers.seen; marks = s.marks } in
    let position : ℕ = c.args.position in
    let low = rw (← c.self.view_is) at c.requires.low in
    let high = rw (← c.self.view_is) at c.requires.high in
    let term : ℕ = s.ident.term_length in
    let term_low = c.self.invariant.ident.term_low in
    let is : c.from-term_length.result ≡ term = c.from-term_length.ensures in
    let begin : c.term_start-begin.result ≡ position - position % term = rw (← c.self.view_is) at c.term_start-begin.ensures in
    let tail_offset = c.self.invariant.offset_is in
    let own = div-add-mod' s.tail term in
    let base : IsBase term (position - position % term + 2 * term - (s.tail - s.tail % term)) =
    base_is s.tail position term (position - position % term + 2 * term - (s.tail - s.tail % term)) (omega arith) (omega (arith, low)) high refl in
    let split = div-add-mod' position term in
    let near = term_near s.tail position term (omega arith) (omega (arith, low)) in
    let more : (position / term + 2) * term ≡ position / term * term + 2 * term = omega arith in
    let below : s.tail / term * term ≤ (position / term + 2) * term = mul-le (s.tail / term) term (position / term + 2) term near (omega arith) in
    let end : c.min-end.result ≡ min s.tail (c.term_start-begin.result + c.from-term_length.result) = c.min-end.ensures in
    let rest : position % term < term = omega arith in
    rw (← c.self.view_is)
    (gives_from k position c.args.budget (c.term_start-begin.result + 2 * c.from-term_length.result - (s.tail - s.offset) + (position - c.term_start-begin.result)) (c.min-end.result - position) c.min-end.result
    c.part-bytes.result.now (frames_left c.new.result) c.self.invariant.ident (omega arith) (omega arith) (omega arith) c.part-bytes.ensures.bytes c.new.ensures)

pub returns-clause-behind : goal.returns-clause-behind
returns-clause-behind c =
    let s = c.self.inside in
    let position : ℕ = c.args.position in
    let high = rw (← c.self.view_is) at c.requires.high in
    let term_low = c.self.invariant.ident.term_low in
    let is : c.from-term_length.result ≡ s.ident.term_length = c.from-term_length.ensures in
    let begin : c.term_start-begin.result ≡ position - position % s.ident.term_length = rw (← c.self.view_is) at c.term_start-begin.ensures in
    let rest : position % s.ident.term_length < s.ident.term_length = omega arith in
    let end : c.min-end.result ≡ min s.tail (c.term_start-begin.result + c.from-term_length.result) = c.min-end.ensures in
    (row_from (frames_left c.new.result) position (c.min-end.result - position) c.min-end.result c.args.budget c.part-bytes.result.now c.new.ensures c.part-bytes.ensures.size (omega (arith, high, rest, end, begin))).0

pub returns-clause-within : goal.returns-clause-within
returns-clause-within c =
    let s = c.self.inside in
    let position : ℕ = c.args.position in
    let high = rw (← c.self.view_is) at c.requires.high in
    let term_low = c.self.invariant.ident.term_low in
    let is : c.from-term_length.result ≡ s.ident.term_length = c.from-term_length.ensures in
    let begin : c.term_start-begin.result ≡ position - position % s.ident.term_length = rw (← c.self.view_is) at c.term_start-begin.ensures in
    let rest : position % s.ident.term_length < s.ident.term_length = omega arith in
    let end : c.min-end.result ≡ min s.tail (c.term_start-begin.result + c.from-term_length.result) = c.min-end.ensures in
    let row = row_from (frames_left c.new.result) position (c.min-end.result - position) c.min-end.result c.args.budget c.part-bytes.result.now c.new.ensures c.part-bytes.ensures.size (omega (arith, high, rest, end, begin)) in
    rw (← c.self.view_is) (omega (arith, row.1, end))

pub returns-clause-fits : goal.returns-clause-fits
returns-clause-fits c =
    let s = c.self.inside in
    let within = rw (← c.self.view_is) at (returns-clause-within c) in
    let high = c.self.invariant.high in
    let term_high = c.self.invariant.ident.term_high in
    omega (arith, within, high, term_high)

pub returns-clause-size : goal.returns-clause-size
returns-clause-size c = left_sized (frames_left c.new.result) c.min-end.result c.args.budget c.part-bytes.result.now c.new.ensures
