-- A turn of the sender is answered with memory.
use Rattle.std.proofs.Common.{ℕ}
use Rattle.driver_core.specs.SendRequests.{sending_of}
use Rattle.driver_core.specs.State.{State}
use Rattle.log_steps.specs.Moves.{WholeLog}
use Rattle.log_steps.specs.Sending.{send_move}
use Rattle.driver_steps.proofs.RunLemmas.{IsTold, send_told}

pub move_told : (s : State) (now : ℕ) (log : WholeLog) → IsTold (send_move s now log).answer
unfolding send_move
move_told s now log = send_told s now log (sending_of s log.source)
