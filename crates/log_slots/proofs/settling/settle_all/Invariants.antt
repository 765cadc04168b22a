use Rattle.std.proofs.Common.{◌≡◌, ◌+◌, ◌≤◌}
use Rattle.log_slots.proofs.settling.settle_all.Given as goal

abbrev pub invariant-loop-slot : goal.invariant-loop-slot
invariant-loop-slot g l = (l.all.parts ≡ l.fn.all.parts + l.settled) × (l.settled ≤ l.slot-index) × (l.fn.all.number ≤ l.all.number)
