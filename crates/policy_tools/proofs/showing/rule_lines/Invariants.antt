use Rattle.std.proofs.Common.{◌≡◌, ◌+◌, ◌++◌, drop}
use Rattle.policy_tools.specs.Showing.{heads, numbered}
use Rattle.policy_tools.proofs.showing.rule_lines.Given as goal

-- the lines so far, with those of the rules that are left, are the lines of all rules
abbrev pub invariant-loop-at : goal.invariant-loop-at
invariant-loop-at l = heads l.lines.items ++ numbered (l.at + 1) (drop l.at l.rules) ≡ numbered 1 l.rules
