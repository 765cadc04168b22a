use denote.Param.Send.{IsSend, owning_send}
use Rattle.log_arena.specs.contracts.memory.Run as Run
use Rattle.log_arena.proofs.Crossing.{run_owns-keyless}

pub send : IsSend Run.the_row
send = owning_send Run.the_type tt (λ r. run_owns-keyless r.ptr r.items) (λ k x w. tt)
