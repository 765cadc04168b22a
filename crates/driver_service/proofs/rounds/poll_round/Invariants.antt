use Rattle.driver_service.proofs.RoundLemmas.{SoFar}
use Rattle.driver_service.proofs.rounds.poll_round.Given as goal

abbrev pub invariant-loop-place : goal.invariant-loop-place
invariant-loop-place g l =
    SoFar g.S.Seat.does l.fn.limit l.fn.pairs l.left l.fn.seat l.seat l.fn.out.items l.out.items l.place l.count
