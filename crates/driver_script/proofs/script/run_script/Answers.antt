use Rattle.script_lines.specs.Left.{left}
use Rattle.script_lines.specs.Statements.{statements_of}
use Rattle.driver_script.proofs.TurnLemmas.{on_err, begins_any, writes_followed, begins_followed, head_at}
use Rattle.driver_script.proofs.script.run_script.Goals as goal

pub returns-in_err-head-clause-front : goal.returns-in_err-head-clause-front
returns-in_err-head-clause-front g c = on_err c.from_residual.result (begins_any _ _)

pub returns-clause-whole : goal.returns-clause-whole
returns-clause-whole g c =
    writes_followed c.follow_head.result (statements_of c.args.script.now) c.take_heads.new.preface.names (left c.take_heads.new.statements) c.in_ok-head.head _ _
    (head_at c.new-preface.result (left c.new-statements.result) (statements_of c.args.script.now) c.take_heads.new.preface.names (left c.take_heads.new.statements) c.in_ok-head.head
    c.new-preface.ensures c.new-statements.ensures c.in_ok-head.ensures)
    c.follow_head.ensures.whole

pub returns-clause-front : goal.returns-clause-front
returns-clause-front g c =
    begins_followed c.follow_head.result (statements_of c.args.script.now) c.take_heads.new.preface.names (left c.take_heads.new.statements) c.in_ok-head.head _ _
    (head_at c.new-preface.result (left c.new-statements.result) (statements_of c.args.script.now) c.take_heads.new.preface.names (left c.take_heads.new.statements) c.in_ok-head.head
    c.new-preface.ensures c.new-statements.ensures c.in_ok-head.ensures)
    c.follow_head.ensures.front
