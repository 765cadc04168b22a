use Rattle.std.proofs.Common.{◌≡◌}
use Rattle.media_driver.proofs.asking.push.Given as goal

abbrev pub invariant-loop : goal.invariant-loop
invariant-loop g l =
    (goal.iterator-loop g).can_next l.iterator' × (goal.iterator-loop g).is_finite l.iterator'
    × (l.queue ≡ l.fn.queue)
    × (l.event ≡ l.fn.event)
