use Rattle.std.proofs.Common.{ap}
use Rattle.command_queue.specs.declared.rule.View.{View}
use Rattle.command_queue.proofs.Moves.{begins, counts}
use Rattle.command_queue.proofs.making.counted.Goals as goal

pub ruled-requires-clause-rule : goal.ruled-requires-clause-rule
ruled-requires-clause-rule g c = begins

pub another-requires-clause-rule : goal.another-requires-clause-rule
another-requires-clause-rule g c =
    let role = c.loop-made.invariant.2 in
    counts _ _ (ap (λ (view : View g.row.E.Denot). view.takes) role) (ap (λ (view : View g.row.E.Denot). view.sends) role) (ap (λ (view : View g.row.E.Denot). view.made) role)
