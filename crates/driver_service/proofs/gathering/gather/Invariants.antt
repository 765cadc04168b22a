use Rattle.std.proofs.Common.{length}
use Rattle.driver_service.proofs.GatherLemmas.{SoMany}
use Rattle.driver_service.proofs.gathering.gather.Given as goal

abbrev pub invariant-loop-count : goal.invariant-loop-count
invariant-loop-count g l =
    SoMany g.S.Seat.does l.fn.subscription l.fn.source l.fn.limit (length l.fn.out.items) l.fn.seat l.seat l.fn.out.items l.out.items l.count
