use Rattle.std.proofs.Common.{◌≡◌, ◌+◌, length}
use Rattle.log_pairs.proofs.copies.FragmentCopies.len.Given as goal

abbrev pub invariant-loop : goal.invariant-loop
invariant-loop l = l.count + length l.iterator' ≡ length l.self
