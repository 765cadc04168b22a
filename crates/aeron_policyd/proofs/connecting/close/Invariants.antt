use Rattle.std.proofs.Common.{◌≡◌}
use Rattle.aeron_policyd.proofs.connecting.close.Given as goal

-- it knows what it knew, and is who it was
abbrev pub invariant-loop : goal.invariant-loop
invariant-loop g l = (l.client.known ≡ l.initial.client.known) × (l.client.number ≡ l.initial.client.number)
