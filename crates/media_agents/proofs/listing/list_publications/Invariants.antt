use Rattle.std.proofs.Common.{◌≡◌, filter, map, take}
use Rattle.driver_core.specs.SendRequests.{is_sent}
use Rattle.media_agents.specs.Finding.{log_at}
use Rattle.media_agents.proofs.listing.list_publications.Given as goal

abbrev pub invariant-loop-row : goal.invariant-loop-row
invariant-loop-row l = l.logs ≡ take 256 (map log_at (filter is_sent (take l.row-index l.row-items)))
