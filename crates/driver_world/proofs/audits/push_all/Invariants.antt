use Rattle.std.proofs.Common.{◌≡◌, ◌++◌, List, take}
use Rattle.audit_ring.specs.Audit.{kept_of}
use Rattle.policy_core.specs.declared.decision.Decision.{Decision}
use Rattle.driver_world.proofs.audits.push_all.Given as goal

-- those that came so far stand behind what was there
abbrev pub invariant-loop-decision : goal.invariant-loop-decision
invariant-loop-decision l =
    (before : List Decision) → l.fn.audit ≡ kept_of before → l.audit ≡ kept_of (before ++ (take l.decision-index l.decisions))
