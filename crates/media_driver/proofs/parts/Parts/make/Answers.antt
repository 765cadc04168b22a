use Rattle.std.proofs.Common.{rules}
use Rattle.media_driver.proofs.OpeningLemmas.{begins_sound, ours}
use Rattle.media_driver.proofs.parts.Parts.make.Goals as goal

pub invariant_of-result : goal.invariant_of-result
invariant_of-result g c = (
  begins_sound c.in-Ok.publisher c.in_ok-registry.registry c.args.settings c.args.policy c.args.peers.now c.in-Ok.ensures.opened.0
      c.in-Ok.ensures.opened.1 c.in_ok-registry.ensures c.requires,
  record { ours = rw c.in-Ok.ensures.passes (ours c.in-Ok.publisher 66); unsent = c.in_ok-senders.ensures.unsent },
  rw c.in-Ok.ensures.passes (search rules),
  c.in_ok-senders.ensures.senders,
  c.new-in-Ok.ensures,
  c.new-in-Ok-2.ensures,
)
