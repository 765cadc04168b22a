use Rattle.command_queue.specs.Known.{Tells, facts_of}
use Rattle.media_agents.proofs.TurnLemmas.{Going}
use Rattle.media_agents.proofs.turning.take_all.Given as goal

abbrev pub invariant-loop-taken : goal.invariant-loop-taken
invariant-loop-taken g l =
    Going g.C.Conducts.history g.C.Conducts.does g.C.Conducts.misses l.fn.taker l.taker l.fn.conductor l.conductor l.misses l._taken
    × Tells l.fn.taker.queue (facts_of l.fn.known) l.known
