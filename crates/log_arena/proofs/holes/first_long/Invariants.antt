use Rattle.std.proofs.Common.{ℕ, ◌<◌, get_or}
use Rattle.log_arena.proofs.holes.first_long.Given as goal

abbrev pub invariant-loop-i : goal.invariant-loop-i
invariant-loop-i l = (k : ℕ) → k < l.i → (get_or l.spans k (0, 0)).1 < l.len
