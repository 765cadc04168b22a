use Rattle.std.proofs.Common.{◌≢◌, All, take}
use Rattle.media_agents.specs.Mails.{RingState}
use Rattle.media_agents.proofs.rings.ring_of.Given as goal

abbrev pub invariant-loop-place : goal.invariant-loop-place
invariant-loop-place g l = All (λ (ring : RingState). ring.client ≢ l.client) (take l.place l.rings)
