use Rattle.std.proofs.Common.{◌≡◌}
use Rattle.std.specs.Int.{int_gap}
use Rattle.policy_tools.specs.Cases.{failing_from}
use Rattle.policy_tools.proofs.cases.Case.failing_from.Given as goal

-- the first stream that fails is one of those that are left
abbrev pub invariant-stretches : goal.invariant-stretches
invariant-stretches l =
    failing_from l.policy l.self l.principal l.act l.low l.high ≡ failing_from l.policy l.self l.principal l.act l.stream l.high

abbrev pub decreases-stretches : goal.decreases-stretches
decreases-stretches l = int_gap l.stream l.high
