use Rattle.policy_tools.specs.Alike.{EndSoFar}
use Rattle.policy_tools.proofs.alike.end_of_all.Given as goal

-- up to the end so far all rules hold a stream as the low one, where those that are left do
abbrev pub invariant-loop-rule : goal.invariant-loop-rule
invariant-loop-rule l = EndSoFar l.rules l.rule-index l.low l.high l.end
