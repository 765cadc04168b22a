use Rattle.std.proofs.Common.{◌≡◌, ◌≤◌, ◌+◌, ◌++◌, drop}
use Rattle.std.specs.Prelude.{count_by, filter_map}
use Rattle.policy_tools.specs.Cases.{failure_of, passes}
use Rattle.policy_tools.proofs.cases.Report.of.Given as goal

-- what is reported so far, with what is to be reported of the cases that are left, is the whole report
abbrev pub invariant-loop-case : goal.invariant-loop-case
invariant-loop-case l = record {
  failures : l.failures.items ++ filter_map (failure_of l.policy) (drop l.case-index l.cases) ≡ filter_map (failure_of l.policy) l.cases;
  passed : l.passed + count_by (passes l.policy) (drop l.case-index l.cases) ≡ count_by (passes l.policy) l.cases;
  few : l.passed ≤ l.case-index;
}
