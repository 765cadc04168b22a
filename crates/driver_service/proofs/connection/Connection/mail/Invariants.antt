use Rattle.std.proofs.Common.{◌≡◌}
use Rattle.driver_service.proofs.CallLemmas.{Waited}
use Rattle.driver_service.proofs.connection.Connection.mail.Given as goal

abbrev pub invariant-loop : goal.invariant-loop
invariant-loop g l =
    (goal.iterator-loop g).can_next l.iterator' × (goal.iterator-loop g).is_finite l.iterator'
    × Waited g.S.Seat.does l.fn.self.seat l.self.seat l.fn.out.items l.out.items
    × (l.self.refusals ≡ l.fn.self.refusals)
