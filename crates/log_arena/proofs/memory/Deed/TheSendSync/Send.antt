use denote.Builtin.{u8}
use denote.Param.Send.{IsSend, struct_send}
use denote.Struct.Declared as declared
use Rattle.std.proofs.Crossing.{Vec-send}
use Rattle.log_arena.specs.contracts.memory.Deed as Deed
use Rattle.log_arena.specs.contracts.memory.Deed.TheInside as Inside
use Rattle.log_arena.proofs.Crossing.{bytes-cross, run_owns-keyless}

pub send : IsSend Deed.the_row
send = record {
  owned = λ e vs. ((λ _. tt), λ xs. ((tt, run_owns-keyless e.ptr xs), λ d. (tt, (struct_send (declared.shape Inside.the_type) (Vec-send u8 bytes-cross, tt)).owned (d.vec, tt) vs)));
  leaving = λ k x w. tt;
}
