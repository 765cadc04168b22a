use Rattle.command_queue.proofs.Moves.{ends}
use Rattle.command_queue.proofs.sender.Sender.end.Goals as goal

pub another-requires-clause-rule : goal.another-requires-clause-rule
another-requires-clause-rule g c = ends _ _ c.self.invariant.2
