use Rattle.std.proofs.Common.{◌*◌, ◌-◌, ◌≤◌}
use Rattle.policy_core.specs.Question.{question_of}
use Rattle.compiled_policy.specs.Search.{NoneWithin}
use Rattle.compiled_policy.proofs.candidates.first_match.Given as goal

-- the rules so far do not match
abbrev pub invariant-loop-block : goal.invariant-loop-block
invariant-loop-block l = NoneWithin l.policy.rules (question_of l.request) 0 (256 * l.block) × (l.block ≤ 4)

abbrev pub decreases-loop-block : goal.decreases-loop-block
decreases-loop-block l = 4 - l.block
