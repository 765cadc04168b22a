use Rattle.command_queue.proofs.Moves.{tells_taken}
use Rattle.command_queue.proofs.taker.Taker.note.Goals as goal

pub another-requires-clause-rule : goal.another-requires-clause-rule
another-requires-clause-rule g c = tells_taken _ _ c.self.invariant.1
