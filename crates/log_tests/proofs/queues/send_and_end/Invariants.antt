use Rattle.std.proofs.Common.{◌≡◌}
use Rattle.log_tests.proofs.queues.send_and_end.Given as goal

abbrev pub invariant-loop-number : goal.invariant-loop-number
invariant-loop-number g l = l.sends.sender.queue ≡ l.fn.sends.sender.queue
