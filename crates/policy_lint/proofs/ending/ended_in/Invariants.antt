use Rattle.std.proofs.Common.{◌≡◌, ◌++◌, drop}
use Rattle.std.specs.List.{All}
use Rattle.policy_lint.specs.Ending.{IsEnd, ended_from, is_among}
use Rattle.policy_lint.proofs.ending.ended_in.Given as goal

-- what is found so far, with what is to be found among the rules that are left, is all; and each is an end that is looked for
abbrev pub invariant-loop-at : goal.invariant-loop-at
invariant-loop-at l = record {
  exact : l.found.items ++ ended_from l.at (is_among l.ends) (drop l.at l.rules) ≡ ended_from 0 (is_among l.ends) l.rules;
  ends : All (IsEnd l.rules (is_among l.ends)) l.found.items;
}
