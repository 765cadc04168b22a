use Rattle.log_tests.specs.Leases.{AllOf}
use Rattle.log_tests.proofs.churning.follow.Given as goal

abbrev pub invariant-loop-choice : goal.invariant-loop-choice
invariant-loop-choice l = AllOf l.arena.home l.leases.items
