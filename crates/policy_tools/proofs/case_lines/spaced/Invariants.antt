use Rattle.std.proofs.Common.{◌≡◌, ◌++◌, drop, map, string_bytes}
use Rattle.policy_tools.specs.CaseLines.{spaced}
use Rattle.policy_tools.proofs.case_lines.spaced.Given as goal

-- the text so far, with the words that are left, is the whole
abbrev pub invariant-loop-word : goal.invariant-loop-word
invariant-loop-word l =
    string_bytes l.text ++ spaced (map (λ word. word.now) (drop l.word-index l.words)) ≡ spaced (map (λ word. word.now) l.words)
