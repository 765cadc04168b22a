-- What was passed is what is sent, and stands at the front.
use Rattle.std.proofs.Common.{◌+◌, ◌≤◌, length, take, ap, ◌∙◌, arith, rules}
use Rattle.term_log.specs.Frames.{span}
use Rattle.term_log.specs.Reading.{frame_of, given_of, sent_bytes, spans}
use Rattle.term_log.proofs.Ends.{left_within}
use Rattle.term_log.proofs.Walks.{left_front, left_less}
use Rattle.term_log.proofs.reading.front_of.Goals as goal

pub overflow_add-size : goal.overflow_add-size
overflow_add-size c =
    let less = left_less c.args.frames.now c.loop-frame.later c.next.new.self (given_of c.in-Some.frame) c.loop-frame.size c.loop-frame.invariant.0 c.in-Some.ensures.steps in
    let within : c.loop-frame.size + length c.in-Some.frame.bytes.now ≤ length c.args.bytes.now = omega (arith, less.1, ap length c.requires) in
    search (rules, within)

pub overflow_add-span : goal.overflow_add-span
overflow_add-span c =
    let next = ap spans c.in-Some.ensures.steps in
    let within : c.loop-frame.span + span (frame_of c.in-Some.frame.content) ≤ length c.args.bytes.now = omega (arith, next, c.loop-frame.invariant.1, left_within c.args.frames.now, ap length c.requires) in
    search (rules, within)

pub split_at-requires : goal.split_at-requires
split_at-requires c =
    let none = ap (λ gs. length (sent_bytes gs)) c.in_default.ensures.steps.0 in
    let all = left_front c.args.frames.now c.loop-frame.size (omega (arith, none, c.loop-frame.invariant.0)) in
    omega (arith, all.1, ap length c.requires)

pub returns-clause-bytes : goal.returns-clause-bytes
returns-clause-bytes c =
    let none = ap (λ gs. length (sent_bytes gs)) c.in_default.ensures.steps.0 in
    let all = left_front c.args.frames.now c.loop-frame.size (omega (arith, none, c.loop-frame.invariant.0)) in
    c.split_at.ensures.front ∙ ap (take c.loop-frame.size) c.requires ∙ all.0
