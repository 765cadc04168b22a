use Rattle.std.proofs.Common.{◌≡◌, ◌++◌, drop}
use Rattle.log_readers.specs.Unread.{closed_beside}
use Rattle.log_readers.proofs.unread.push_closed.Given as goal

-- the places so far, and then those of the logs that are left
abbrev pub invariant-loop-at : goal.invariant-loop-at
invariant-loop-at l =
    l.places ++ closed_beside l.closes l.gone l.come (drop l.at l.logs) (drop l.at l.slots)
    ≡ l.initial.places ++ closed_beside l.closes l.gone l.come l.logs l.slots
