use Rattle.std.proofs.Common.{◌≡◌, drop}
use Rattle.log_readers.specs.Finding.{numbers_at}
use Rattle.log_readers.proofs.finding.numbers_at.Given as goal

-- the logs that are left decide
abbrev pub invariant-loop-at : goal.invariant-loop-at
invariant-loop-at l = numbers_at l.source (drop l.at l.logs) (drop l.at l.slots) ≡ numbers_at l.source l.logs l.slots
