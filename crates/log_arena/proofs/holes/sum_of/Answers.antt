use Rattle.std.proofs.Common.{◌+◌, ◌<◌, length, get_or, sym, ap, ◌∙◌, arith}
use Rattle.log_arena.proofs.Places.{total-take, total-take-le}
use Rattle.log_arena.proofs.holes.sum_of.Goals as goal

pub overflow_add-sum : goal.overflow_add-sum
overflow_add-sum c =
    let here : c.loop-s.s-index < length c.args.spans.now = omega arith in
    omega (arith, total-take c.loop-s.s-index c.args.spans.now here, total-take-le (c.loop-s.s-index + 1) c.args.spans.now, c.loop-s.invariant, c.requires)

pub loop-s-preserved : goal.loop-s-preserved
loop-s-preserved c =
    let here : c.loop-s.s-index < length c.args.spans.now = omega arith in
    ap (λ n. n + (get_or c.args.spans.now c.loop-s.s-index (0, 0)).1) c.loop-s.invariant ∙ sym (total-take c.loop-s.s-index c.args.spans.now here)
