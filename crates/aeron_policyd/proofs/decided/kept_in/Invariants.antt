use Rattle.std.proofs.Common.{◌≡◌, ◌++◌}
use Rattle.aeron_policyd.proofs.decided.kept_in.Given as goal

-- those that came so far, with those that are left, are all
abbrev pub invariant-loop-taken : goal.invariant-loop-taken
invariant-loop-taken l =
    (goal.iterator-loop-taken).can_next l.taken-iterator × (goal.iterator-loop-taken).is_finite l.taken-iterator
    × (l.kept.items ++ l.taken-iterator ≡ l.audit.items)
