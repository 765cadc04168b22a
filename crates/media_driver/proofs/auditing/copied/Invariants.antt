use Rattle.std.proofs.Common.{◌≡◌, ◌++◌}
use Rattle.media_driver.proofs.auditing.copied.Given as goal

-- those that came so far, with those that are left, are all
abbrev pub invariant-loop-dated : goal.invariant-loop-dated
invariant-loop-dated l =
    (goal.iterator-loop-dated).can_next l.dated-iterator × (goal.iterator-loop-dated).is_finite l.dated-iterator
    × (l.last ++ l.dated-iterator ≡ l.audit.items)
