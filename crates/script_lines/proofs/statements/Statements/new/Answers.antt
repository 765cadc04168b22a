use Rattle.std.proofs.Common.{arith}
use Rattle.script_lines.proofs.PiecesLemmas.{length-pieces-le}
use Rattle.script_lines.proofs.statements.Statements.new.Goals as goal

pub invariant_of-result : goal.invariant_of-result
invariant_of-result c =
    let few = length-pieces-le 10 c.args.script.now in record { fits = omega arith }
