use Rattle.std.proofs.Common.{length}
use Rattle.script_lines.specs.Left.{left}
use Rattle.driver_script.specs.Turns.{SoFar}
use Rattle.driver_script.proofs.script.take_steps.Given as goal

-- what was written goes before what the statements that are left write
abbrev pub invariant-statements : goal.invariant-statements
invariant-statements g l =
    SoFar l.names l.fn.world (left l.fn.statements) l.world (left l.statements) (g.W.Write.contents l.fn.writer) (g.W.Write.contents l.writer)

abbrev pub decreases-statements : goal.decreases-statements
decreases-statements g l = length (left l.statements)
