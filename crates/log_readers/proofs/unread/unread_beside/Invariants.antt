use Rattle.arrayvec.specs.ArrayVec.{array_vec_len}
use Rattle.log_readers.proofs.UnreadLemmas.{IsTelling}
use Rattle.log_readers.proofs.unread.unread_beside.Given as goal

abbrev pub invariant-loop-at : goal.invariant-loop-at
invariant-loop-at l = IsTelling l.logs l.slots l.numbers.items (array_vec_len l.numbers) l.at
