use Rattle.std.proofs.Common.{[], ◌∷◌}
use Rattle.script_lines.specs.Left.{left}
use Rattle.driver_script.proofs.TurnLemmas.{on_err, so_far_at, so_far_more, so_far_done, so_far_stops, so_far_gives_up, so_far_front}
use Rattle.driver_script.proofs.script.take_steps.Goals as goal

pub returns-in_err-statement-clause-front : goal.returns-in_err-statement-clause-front
returns-in_err-statement-clause-front g c = on_err c.from_residual.result (so_far_front _ _ _ _ _ _ _ c.statements.invariant)

pub returns-in-None-clause-whole : goal.returns-in-None-clause-whole
returns-in-None-clause-whole g c =
    let taken = rw c.in-None.is at c.in_ok-statement.ensures.taken in
    so_far_done _ _ _ _ _ _ (so_far_at _ _ _ _ (left c.statements.statements) [] _ _ taken.0 c.statements.invariant)

pub returns-in_err-ended-clause-front : goal.returns-in_err-ended-clause-front
returns-in_err-ended-clause-front g c =
    let taken = rw c.in-Some.is at c.in_ok-statement.ensures.taken in
    on_err c.from_residual-in_err-ended.result
    (so_far_gives_up _ _ _ _ c.in-Some.statement (left c.next.new.self) _ _ _
    (so_far_at _ _ _ _ (left c.statements.statements) (c.in-Some.statement ∷ left c.next.new.self) _ _ taken c.statements.invariant)
    c.in_err-ended.ensures.err)

pub returns-in-Some-2-clause-whole : goal.returns-in-Some-2-clause-whole
returns-in-Some-2-clause-whole g c =
    let taken = rw c.in-Some.is at c.in_ok-statement.ensures.taken in
    let stops = rw c.in-Some-2.is at c.in_ok-ended.ensures.ok in
    so_far_stops _ _ _ _ c.in-Some.statement (left c.next.new.self) c.in-Some-2.ended _ _ _
    (so_far_at _ _ _ _ (left c.statements.statements) (c.in-Some.statement ∷ left c.next.new.self) _ _ taken c.statements.invariant)
    stops

pub statements-preserved : goal.statements-preserved
statements-preserved g c =
    let taken = rw c.in-Some.is at c.in_ok-statement.ensures.taken in
    let goes = rw c.in-None-2.is at c.in_ok-ended.ensures.ok in
    so_far_more _ _ _ _ _ c.in-Some.statement (left c.next.new.self) _ _ _
    (so_far_at _ _ _ _ (left c.statements.statements) (c.in-Some.statement ∷ left c.next.new.self) _ _ taken c.statements.invariant)
    goes
