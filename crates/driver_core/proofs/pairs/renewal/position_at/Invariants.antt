use Rattle.std.proofs.Common.{◌≡◌, drop}
use Rattle.driver_core.specs.Renewal.{position_at}
use Rattle.driver_core.proofs.pairs.renewal.position_at.Given as goal

-- the ends that are left decide
abbrev pub invariant-loop-end : goal.invariant-loop-end
invariant-loop-end l = position_at (drop l.end-index l.ends) l.begin l.source ≡ position_at l.ends l.begin l.source
