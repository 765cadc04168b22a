-- Frame by frame.
use Rattle.std.proofs.Common.{◌≡◌, ◌-◌, ◌+◌, length, ap, arith}
use Rattle.term_log.specs.Ident.{payload_length}
use Rattle.term_log.specs.Cut.{last_part}
use Rattle.term_log.proofs.Appending.{next_fits, next_ends, next_part, all_parts}
use Rattle.term_log.proofs.appender.Appender.append_message.Goals as goal

pub append-requires-clause-fits : goal.append-requires-clause-fits
append-requires-clause-fits c =
    let payload : c.ident.result.mtu - 32 ≡ payload_length c.args.self.now.ident = ap payload_length c.ident.ensures.value in
    let last = c.last_part-last.ensures in
    let sound = c.ident.ensures.sound in
    next_fits c.args.self.now c.loop-i.self c.args.message.now c.part.result.now (c.ident.result.mtu - 32) c.loop-i.i c.loop-i.invariant payload (omega arith) (omega arith) c.part.ensures c.requires.fits

pub append-requires-clause-ends : goal.append-requires-clause-ends
append-requires-clause-ends c =
    let payload : c.ident.result.mtu - 32 ≡ payload_length c.args.self.now.ident = ap payload_length c.ident.ensures.value in
    let last = c.last_part-last.ensures in
    next_ends c.args.self.now c.loop-i.self c.args.message.now c.part.result.now (c.ident.result.mtu - 32) c.loop-i.i c.loop-i.invariant payload (omega arith) c.part.ensures c.requires.ends

pub loop-i-preserved : goal.loop-i-preserved
loop-i-preserved c =
    next_part c.args.self.now c.loop-i.self c.append.new.self c.args.message.now c.part.result.now c.flags_of.result (c.ident.result.mtu - 32) c.last_part-last.result c.loop-i.i c.loop-i.invariant c.last_part-last.ensures c.flags_of.ensures c.part.ensures c.append.ensures

pub returns : goal.returns
returns c =
    let payload : c.ident.result.mtu - 32 ≡ payload_length c.args.self.now.ident = ap payload_length c.ident.ensures.value in
    let last = c.last_part-last.ensures in
    let count : c.loop-i.i ≡ last_part (c.ident.result.mtu - 32) (length c.args.message.now) + 1 = omega arith in
    all_parts c.args.self.now c.loop-i.self c.args.message.now (c.ident.result.mtu - 32) c.loop-i.i c.loop-i.invariant payload count
