use Rattle.std.proofs.Common.{◌≡◌, ap, arith}
use Rattle.term_log.specs.declared.ident.Ident.{Ident}
use Rattle.log_pairs.proofs.Pairing.{least_le}
use Rattle.term_log.proofs.Nears.{first_least, sender_within}
use Rattle.term_log.proofs.term_log.TermLog.limit.Goals as goal

pub overflow_add-result : goal.overflow_add-result
overflow_add-result c =
    let s = c.self.inside in
    let i = s.appender.ident in
    let term : c.ident-ident.result.term_length ≡ i.term_length = ap (λ (j : Ident). j.term_length) c.ident-ident.ensures.value in
    let within = sender_within i.kind i.start s.appender.tail i.term_length s.sender.position c.self.invariant.sender_near in
    omega (arith, within.1, least_le c.position.result s.pairs, c.position.ensures, c.least.ensures, c.tail-tail.ensures.high, c.ident-ident.ensures.sound.term_high, c.from-half.ensures)

pub overflow_add-result-in-len1-up : goal.overflow_add-result-in-len1-up
overflow_add-result-in-len1-up c =
    let s = c.self.inside in
    let i = s.appender.ident in
    let term : c.ident-ident.result.term_length ≡ i.term_length = ap (λ (j : Ident). j.term_length) c.ident-ident.ensures.value in
    let within = first_least i.start s.appender.tail i.term_length c.least-in-len1-up.result s.pairs c.as_slice.result.now _ c.least-in-len1-up.ensures c.as_slice.ensures c.self.invariant.near c.in-len1-up.len_at_least in
    omega (arith, within, c.tail-tail.ensures.high, c.ident-ident.ensures.sound.term_high, c.from-half.ensures)
