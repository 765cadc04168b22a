use Rattle.std.proofs.Common.{nat_lt}
use Rattle.std.specs.Prelude.{◌&&◌, nat_le}
use Rattle.compiled_policy.proofs.SetLemmas.{AddsBelow}
use Rattle.compiled_policy.proofs.rule_set.insert_into.Given as goal

-- the rows so far have it
abbrev pub invariant-loop-row : goal.invariant-loop-row
invariant-loop-row l = AddsBelow l.initial.sets l.sets (λ row. nat_le l.from row && nat_lt row l.to) l.place l.row
