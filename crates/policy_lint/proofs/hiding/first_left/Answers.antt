use Rattle.std.proofs.Common.{arith}
use Rattle.std.proofs.lemmas.Int.{ints}
use Rattle.policy_lint.proofs.HeldLemmas.{held_more}
use Rattle.policy_lint.proofs.hiding.first_left.Goals as goal

pub loop-place-preserved : goal.loop-place-preserved
loop-place-preserved c = λ stream low below.
    held_more c.args.rules.now c.args.places.now c.args.act stream c.loop-place.from c.loop-place.place-index (omega arith)
    (λ less. c.loop-place.invariant stream (omega (arith, ints)) (omega (arith, ints)))
    (λ more. c.next_left_at-from.ensures stream (omega (arith, ints)) (omega (arith, ints)))
