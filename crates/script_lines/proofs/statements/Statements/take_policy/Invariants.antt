use Rattle.std.proofs.Common.{◌≡◌, [], length}
use Rattle.std.specs.String.{string_bytes}
use Rattle.script_lines.specs.Left.{left_from, lines_left}
use Rattle.script_lines.specs.Statements.{Within}
use Rattle.script_lines.proofs.statements.Statements.take_policy.Given as goal

-- with the text so far, the lines that are left say what all lines say
abbrev pub invariant-lines : goal.invariant-lines
invariant-lines l = left_from (Within l.start (string_bytes l.text)) l.self ≡ left_from (Within l.start []) l.fn.self

abbrev pub decreases-lines : goal.decreases-lines
decreases-lines l = length (lines_left l.self)
