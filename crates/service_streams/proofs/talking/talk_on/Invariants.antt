use Rattle.service_streams.specs.Acting.{Acts}
use Rattle.service_streams.specs.Order.{Stretch, stands}
use Rattle.service_streams.proofs.talking.talk_on.Given as goal

abbrev pub invariant-loop : goal.invariant-loop
invariant-loop g l =
    (goal.iterator-loop g).can_next l.iterator' × (goal.iterator-loop g).is_finite l.iterator'
    × Acts g.S.Seat.does l.fn.connection.seat l.connection.seat
    × Stretch g.S.Seat.does g.T.Read.remaining g.T.Write.contents (stands l.fn.connection.seat l.fn.connection.refusals l.fn.buffers) l.fn.stream (stands l.connection.seat l.connection.refusals l.buffers) l.stream
