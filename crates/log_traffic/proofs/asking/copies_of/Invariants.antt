use Rattle.std.proofs.Common.{◌≡◌, ◌++◌, length}
use Rattle.log_traffic.proofs.asking.copies_of.Given as goal

-- the copies so far, and then the datagrams that are left
abbrev pub invariant-loop-copies : goal.invariant-loop-copies
invariant-loop-copies l = l.copies ++ l.left.datagrams ≡ l.fn.datagrams.datagrams

abbrev pub decreases-loop-copies : goal.decreases-loop-copies
decreases-loop-copies l = length l.left.datagrams
