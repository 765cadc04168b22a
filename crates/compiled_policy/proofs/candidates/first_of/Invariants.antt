use Rattle.policy_core.specs.Question.{question_of}
use Rattle.compiled_policy.proofs.SearchLemmas.{IsSought}
use Rattle.compiled_policy.proofs.candidates.first_of.Given as goal

-- the rules whose bit is gone do not match
abbrev pub invariant-loop-left : goal.invariant-loop-left
invariant-loop-left l = IsSought l.policy.rules (question_of l.request) l.word l.from l.left

abbrev pub decreases-loop-left : goal.decreases-loop-left
decreases-loop-left l = l.left
