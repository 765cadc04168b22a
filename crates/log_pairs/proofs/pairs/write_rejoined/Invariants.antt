use Rattle.std.proofs.Common.{◌≡◌, take}
use Rattle.std.specs.Prelude.{vec_capacity}
use Rattle.log_pairs.specs.Pairs.{rejoined_pairs}
use Rattle.log_pairs.proofs.pairs.write_rejoined.Given as goal

-- the pairs of the subscriptions so far are written
abbrev pub invariant-loop-subscription : goal.invariant-loop-subscription
invariant-loop-subscription l =
    (l.spare.items ≡ rejoined_pairs l.join l.rows (take l.subscription-index l.subscriptions))
    × (vec_capacity l.spare ≡ vec_capacity l.initial.spare)
