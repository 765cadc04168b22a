-- What a run and a deed own may be handed to another thread.
use Rattle.std.proofs.Common.{List, length, ℕ}
use base.Fraction.{full_share}
use base.Shift.{Keyless}
use denote.Builtin.{u8}
use denote.Array.{Array}
use denote.RawPtr.{Ptr, block_ptr, null_ptr}
use denote.Param.Send.{IsSend, part_keyless, array_send, sendable}
use Rattle.log_arena.specs.Ownership.{run_owns}

pub bytes-cross : IsSend u8
bytes-cross = search sendable

pub run_owns-keyless : (p : Ptr) (xs : List ℕ) → Keyless (run_owns p xs)
run_owns-keyless (block_ptr b o) xs = part_keyless (Array u8 (length xs)) (array_send u8 (length xs) bytes-cross) full_share xs b o
run_owns-keyless null_ptr xs = tt
