use Rattle.std.proofs.Common.{◌≡◌, take}
use Rattle.log_arena.specs.Spans.{total}
use Rattle.log_arena.proofs.holes.sum_of.Given as goal

abbrev pub invariant-loop-s : goal.invariant-loop-s
invariant-loop-s l = l.sum ≡ total (take l.s-index l.spans)
