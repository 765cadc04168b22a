use Rattle.std.proofs.Common.{◌≡◌, ◌++◌, drop}
use Rattle.policy_core.specs.Question.{question_of}
use Rattle.policy_tools.specs.Nearness.{places_at}
use Rattle.policy_tools.proofs.nearness.push_at.Given as goal

-- the places so far, with those of the rules that are left, are all
abbrev pub invariant-loop-rule : goal.invariant-loop-rule
invariant-loop-rule l = record {
  place : l.at ≡ l.rule-index;
  all : l.places.items ++ places_at l.at (drop l.rule-index l.rules) (question_of l.request) l.count
      ≡ l.initial.places.items ++ places_at 0 l.rules (question_of l.request) l.count;
}
