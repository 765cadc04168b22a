use Rattle.std.proofs.Common.{◌≡◌}
use Rattle.driver_service.proofs.CallLemmas.{Replied}
use Rattle.driver_service.proofs.connection.Connection.replies.Given as goal

abbrev pub invariant-loop-count : goal.invariant-loop-count
invariant-loop-count g l =
    Replied g.S.Seat.does l.fn.self.seat l.self.seat l.fn.out.items l.out.items l.count × (l.self.refusals ≡ l.fn.self.refusals)
