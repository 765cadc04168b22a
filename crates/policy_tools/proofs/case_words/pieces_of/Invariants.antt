use Rattle.std.proofs.Common.{◌≡◌, ◌++◌, drop, map}
use Rattle.policy_tools.specs.CaseWords.{cut_at_tabs, pieces_of}
use Rattle.policy_tools.proofs.case_words.pieces_of.Given as goal

-- the pieces so far, with those of the parts that are left, are all
abbrev pub invariant-loop-part : goal.invariant-loop-part
invariant-loop-part l =
    map (λ piece. piece.now) l.pieces.items ++ cut_at_tabs (map (λ part. part.now) (drop l.part-index l.part-items)) ≡ pieces_of l.line
