use Rattle.std.proofs.Common.{◌≡◌, drop, map, filter}
use Rattle.driver_core.specs.LeftOut.{hides_source, with_denials}
use Rattle.driver_core.specs.Listing.{source_decision}
use Rattle.driver_core.proofs.asked.left_out.put_denials.Given as goal

-- the denials so far, and those on the logs that are left put among them
abbrev pub invariant-loop-source : goal.invariant-loop-source
invariant-loop-source l =
    with_denials l.denials.items
    (map (source_decision l.registry l.principal) (filter (hides_source l.registry l.principal) (drop l.source-index l.logs)))
    ≡ with_denials l.initial.denials.items
    (map (source_decision l.registry l.principal) (filter (hides_source l.registry l.principal) l.logs))
