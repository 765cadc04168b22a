use Rattle.std.proofs.Common.{◌≡◌, ◌++◌, drop, filter, map}
use Rattle.driver_core.specs.LeftOut.{hides_counter}
use Rattle.driver_core.specs.Listing.{counter_decision}
use Rattle.driver_core.proofs.asked.left_out.denials_of.Given as goal

-- the denials so far, and then those among the counters that are left
abbrev pub invariant-loop-counter : goal.invariant-loop-counter
invariant-loop-counter l =
    l.denials.items
    ++ map (counter_decision l.registry l.principal) (filter (hides_counter l.registry l.principal) (drop l.counter-index l.counters))
    ≡ map (counter_decision l.registry l.principal) (filter (hides_counter l.registry l.principal) l.counters)
