use Rattle.std.proofs.Common.{◌≡◌, length}
use Rattle.script_lines.specs.Left.{left, lines_left}
use Rattle.script_lines.proofs.statements.Statements.next.Given as goal

-- the lines that were taken said nothing
abbrev pub invariant-lines : goal.invariant-lines
invariant-lines l = (l.self ≡ l.fn.self) × (left l.others ≡ left l.fn.self)

abbrev pub decreases-lines : goal.decreases-lines
decreases-lines l = length (lines_left l.others)
