use Rattle.std.proofs.Common.{◌≡◌, ◌++◌, drop, map}
use Rattle.policy_tools.specs.CaseWords.{words_in}
use Rattle.policy_tools.proofs.case_words.words_in.Given as goal

-- the words so far, with those among the pieces that are left, are all
abbrev pub invariant-loop-piece : goal.invariant-loop-piece
invariant-loop-piece l =
    map (λ word. word.now) l.words.items ++ words_in (map (λ piece. piece.now) (drop l.piece-index l.pieces)) ≡ words_in (map (λ piece. piece.now) l.pieces)
