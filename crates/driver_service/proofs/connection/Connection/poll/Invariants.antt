use Rattle.std.proofs.Common.{◌≡◌}
use Rattle.driver_service.specs.Calls.{CallsOnly}
use Rattle.driver_service.specs.Gathering.{asked}
use Rattle.driver_service.specs.Requests.{IsPoll, IsTry, fragments}
use Rattle.driver_service.proofs.connection.Connection.poll.Given as goal

abbrev pub invariant-loop : goal.invariant-loop
invariant-loop g l =
    (goal.iterator-loop g).can_next l.iterator' × (goal.iterator-loop g).is_finite l.iterator'
    × CallsOnly g.S.Seat.does (IsTry (IsPoll l.fn.subscription l.fn.source (asked (fragments l.fn.limit)))) l.fn.self.seat l.self.seat
    × (l.self.refusals ≡ l.fn.self.refusals)
    × (l.out.items ≡ l.fn.out.items)
