use Rattle.log_tests.specs.Leases.{AllOf}
use Rattle.log_tests.proofs.churning.churn.Given as goal

abbrev pub invariant-loop : goal.invariant-loop
invariant-loop l = AllOf l.arena.home l.leases.items
