use Rattle.std.proofs.Common.{◌≡◌}
use Rattle.driver_service.specs.Requests.{polled_pairs}
use Rattle.driver_service.proofs.RoundLemmas.{Idles}
use Rattle.driver_service.proofs.rounds.poll_rounds.Given as goal

abbrev pub invariant-loop : goal.invariant-loop
invariant-loop g l =
    (goal.iterator-loop g).can_next l.iterator' × (goal.iterator-loop g).is_finite l.iterator'
    × Idles g.S.Seat.does l.fn.limit (polled_pairs l.fn.pairs) l.fn.seat l.seat l.fn.out.items
    × (l.out.items ≡ l.fn.out.items)
