use Rattle.std.proofs.Common.{◌≡◌, ◌++◌, drop}
use Rattle.driver_core.proofs.pairs.coming.push_all.Given as goal

-- the decisions so far, and then those that are left
abbrev pub invariant-loop-decision : goal.invariant-loop-decision
invariant-loop-decision l = l.decisions ++ drop l.decision-index l.more ≡ l.initial.decisions ++ l.more
