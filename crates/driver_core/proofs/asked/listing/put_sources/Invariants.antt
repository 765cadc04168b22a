use Rattle.std.proofs.Common.{◌≡◌, drop, map, filter}
use Rattle.driver_core.specs.Listing.{shows_source, source_row, with_rows}
use Rattle.driver_core.proofs.asked.listing.put_sources.Given as goal

-- the rows so far, and the logs that are left put among them
abbrev pub invariant-loop-source : goal.invariant-loop-source
invariant-loop-source l =
    with_rows l.rows.items
    (map (source_row l.registry) (filter (shows_source l.registry l.principal) (drop l.source-index l.logs)))
    ≡ with_rows l.initial.rows.items
    (map (source_row l.registry) (filter (shows_source l.registry l.principal) l.logs))
