use Rattle.std.proofs.Common.{◌≡◌, drop, map}
use Rattle.policy_tools.specs.CaseLines.{cases_from}
use Rattle.policy_tools.proofs.CaseLemmas.{after_cases}
use Rattle.policy_tools.proofs.case_lines.cases_from.Given as goal

-- the cases so far, with those of the lines that are left, are the cases of all lines
abbrev pub invariant-loop-line : goal.invariant-loop-line
invariant-loop-line l =
    after_cases l.cases.items (cases_from l.directory l.number (map (λ line. line.now) (drop l.line-index l.lines)))
    ≡ cases_from l.directory 1 (map (λ line. line.now) l.lines)
