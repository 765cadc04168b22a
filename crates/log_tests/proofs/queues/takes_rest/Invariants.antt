use Rattle.std.proofs.Common.{◌≡◌}
use Rattle.command_queue.specs.Known.{Tells, facts_of}
use Rattle.log_tests.proofs.queues.takes_rest.Given as goal

abbrev pub invariant-loop-taken : goal.invariant-loop-taken
invariant-loop-taken g l = Tells l.fn.taker.queue (facts_of l.fn.known) l.known × (l.taker.queue ≡ l.fn.taker.queue)
