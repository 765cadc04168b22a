use Rattle.std.proofs.Common.{◌≡◌, length}
use Rattle.script_lines.specs.Left.{left}
use Rattle.driver_script.specs.Script.{opening_of}
use Rattle.driver_script.proofs.script.take_heads.Given as goal

-- with the names and the settings so far, the statements that are left open what all of them open
abbrev pub invariant-statements : goal.invariant-statements
invariant-statements l = opening_of l.preface (left l.statements) ≡ opening_of l.fn.preface (left l.fn.statements)

abbrev pub decreases-statements : goal.decreases-statements
decreases-statements l = length (left l.statements)
