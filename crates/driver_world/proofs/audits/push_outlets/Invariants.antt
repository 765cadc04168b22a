use Rattle.std.proofs.Common.{◌≡◌, ◌++◌, List, map, take}
use Rattle.audit_ring.specs.Audit.{kept_of}
use Rattle.driver_world.specs.Audits.{decision_of}
use Rattle.policy_core.specs.declared.decision.Decision.{Decision}
use Rattle.driver_world.proofs.audits.push_outlets.Given as goal

-- those that came so far stand behind what was there
abbrev pub invariant-loop-outlet : goal.invariant-loop-outlet
invariant-loop-outlet l =
    (before : List Decision) → l.fn.audit ≡ kept_of before → l.audit ≡ kept_of (before ++ map decision_of (take l.outlet-index l.outlets))
