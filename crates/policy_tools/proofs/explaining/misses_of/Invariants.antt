use Rattle.std.proofs.Common.{◌≡◌, length}
use Rattle.policy_core.specs.Question.{question_of}
use Rattle.policy_tools.proofs.ExplainingLemmas.{EachMiss}
use Rattle.policy_tools.proofs.explaining.misses_of.Given as goal

-- so far each rule has its miss
abbrev pub invariant-loop-at : goal.invariant-loop-at
invariant-loop-at l = record {
  count : length l.misses.items ≡ l.at;
  each : EachMiss l.rules (question_of l.request) l.misses.items;
}
