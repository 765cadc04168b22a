use Rattle.std.proofs.Common.{◌≡◌, ◌≤◌, ◌*◌, ℕ, List, length, take}
use Rattle.std.specs.List.{sum_by}
use Rattle.log_readers.proofs.readers.total_of.Given as goal

-- the numbers so far
abbrev pub invariant-loop-numbers : goal.invariant-loop-numbers
invariant-loop-numbers l = record {
  so_far : l.total ≡ sum_by (λ (numbers : List ℕ). length numbers) (take l.numbers-index l.slots);
  few : l.total ≤ 512 * l.numbers-index;
}
