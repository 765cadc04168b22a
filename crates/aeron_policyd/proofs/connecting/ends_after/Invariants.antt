use Rattle.std.proofs.Common.{◌≡◌}
use Rattle.aeron_policyd.proofs.connecting.ends_after.Given as goal

-- it is who it was
abbrev pub invariant-loop : goal.invariant-loop
invariant-loop g l = l.client.number ≡ l.initial.client.number
