use Rattle.std.proofs.Common.{◌≡◌, drop, map}
use Rattle.policy_tools.specs.CaseWords.{column_from, column_of}
use Rattle.policy_tools.proofs.case_words.column_of.Given as goal

-- the pieces that are left decide
abbrev pub invariant-loop-piece : goal.invariant-loop-piece
invariant-loop-piece l =
    column_from l.column l.left (map (λ piece. piece.now) (drop l.piece-index l.pieces)) ≡ column_of (map (λ piece. piece.now) l.pieces) l.place
