use Rattle.std.proofs.Common.{◌≡◌, drop}
use Rattle.log_readers.specs.Unread.{has_none, unread_beside}
use Rattle.log_readers.proofs.unread.are_all_read.Given as goal

-- the logs that are left decide
abbrev pub invariant-loop-at : goal.invariant-loop-at
invariant-loop-at l =
    has_none (unread_beside (drop l.at l.logs) (drop l.at l.slots)) ≡ has_none (unread_beside l.logs l.slots)
