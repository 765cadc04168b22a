use Rattle.script_lines.specs.Statements.{statements_of}
use Rattle.driver_script.specs.Turns.{BeginsScript, IsBegun}
use Rattle.std.proofs.Common.{List, ℕ, IfSome}
use Rattle.driver_script.specs.declared.fault.RunFault.{RunFault}
use Rattle.driver_script.proofs.TurnLemmas.{if_err, if_some, begins_any}
use Rattle.driver_script.proofs.script.run.Goals as goal

pub returns-in_err-script-clause-front : goal.returns-in_err-script-clause-front
returns-in_err-script-clause-front g c =
    if_err
    (λ (fault : RunFault). IsBegun fault → IfSome (g.R.Read.remaining c.args.reader.now)
    (λ (script : List ℕ). BeginsScript (statements_of script) (g.W.Write.contents c.args.writer.now) (g.W.Write.contents c.args.writer.now)))
    c.from_residual.result
    (λ fault begun. if_some
    (λ (script : List ℕ). BeginsScript (statements_of script) (g.W.Write.contents c.args.writer.now) (g.W.Write.contents c.args.writer.now))
    (g.R.Read.remaining c.args.reader.now) (λ script. begins_any _ _))
