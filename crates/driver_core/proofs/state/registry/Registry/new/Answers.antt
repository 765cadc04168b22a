use Rattle.driver_core.proofs.KeptLemmas.{tended_opened}
use Rattle.driver_core.proofs.state.registry.Registry.new.Goals as goal

pub invariant_of-result : goal.invariant_of-result
invariant_of-result c =
    let clients = (rw c.in_ok-parts-2.ensures.second at c.new.ensures) in
    let streams = (rw c.in_ok-parts-3.ensures.second at c.new-2.ensures) in
    let readers = (rw c.in_ok-parts-4.ensures.second at c.new-3.ensures) in
    rw (
      c.in_ok-parts-6.ensures.first,
      c.in_ok-parts-5.ensures.first,
      readers,
      c.in_ok-parts-4.ensures.first,
      streams,
      c.in_ok-parts-3.ensures.first,
      clients,
      c.in_ok-parts-2.ensures.first,
      c.in_ok-parts.ensures.first,
      c.in_ok-build.ensures,
    )
    (tended_opened _ _ _)
