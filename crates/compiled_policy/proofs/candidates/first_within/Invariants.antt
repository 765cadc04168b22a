use Rattle.std.proofs.Common.{◌*◌}
use Rattle.policy_core.specs.Question.{question_of}
use Rattle.compiled_policy.specs.Search.{NoneWithin}
use Rattle.compiled_policy.proofs.candidates.first_within.Given as goal

-- the rules of the words so far do not match
abbrev pub invariant-loop-word : goal.invariant-loop-word
invariant-loop-word l = NoneWithin l.policy.rules (question_of l.request) (256 * l.block) (64 * l.word)
