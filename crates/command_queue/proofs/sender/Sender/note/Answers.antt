use Rattle.command_queue.proofs.Moves.{tells_sent}
use Rattle.command_queue.proofs.sender.Sender.note.Goals as goal

pub another-requires-clause-rule : goal.another-requires-clause-rule
another-requires-clause-rule g c = tells_sent _ _ c.self.invariant.2
