use Rattle.std.proofs.Common.{ap, arith}
use Rattle.frame_codec.specs.declared.header.TermPlace.{TermPlace}
use Rattle.term_log.proofs.Places.{aligned_rest}
use Rattle.term_log.proofs.appender.Appender.pad.Goals as goal

pub put_pad-requires : goal.put_pad-requires
put_pad-requires c =
    let s = c.self.inside in
    let sound = c.self.invariant.ident in
    let same = c.self.invariant.same in
    let rest = aligned_rest s.tail s.ident.term_length c.self.invariant.aligned sound.term_aligned (omega arith) in
    let offset = c.place-place.ensures.offset in
    let place = rw (← c.self.view_is) at (ap (λ (p : TermPlace). p.term_offset) c.place-place.ensures.value) in
    omega (arith, rest.1, place)
