use Rattle.std.proofs.Common.{◌≡◌, ◌++◌, drop}
use Rattle.policy_tools.proofs.case_words.push_all.Given as goal

-- the pieces so far, with those that are left, are all
abbrev pub invariant-loop-piece : goal.invariant-loop-piece
invariant-loop-piece l = l.pieces.items ++ drop l.piece-index l.more ≡ l.initial.pieces.items ++ l.more
