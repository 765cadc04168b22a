use Rattle.std.proofs.Common.{◌≡◌, drop, find}
use Rattle.driver_core.specs.PublicationRequests.{is_sent_as}
use Rattle.driver_core.proofs.asked.publication_request.publication_in.Given as goal

-- the logs that are left decide
abbrev pub invariant-loop-log : goal.invariant-loop-log
invariant-loop-log l =
    find (is_sent_as l.session l.stream) (drop l.log-index l.logs) ≡ find (is_sent_as l.session l.stream) l.logs
