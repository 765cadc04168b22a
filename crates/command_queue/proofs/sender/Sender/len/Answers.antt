use Rattle.std.proofs.Common.{ap, ◌∙◌}
use Rattle.command_queue.specs.declared.rule.View.{View}
use Rattle.command_queue.proofs.Moves.{copies, hears, sender_learns}
use Rattle.command_queue.proofs.Steps.{full_told}
use Rattle.command_queue.proofs.sender.Sender.len.Goals as goal

pub another-told-requires-clause-rule : goal.another-told-requires-clause-rule
another-told-requires-clause-rule g c = copies _ _

pub absorb-requires-clause-rule : goal.absorb-requires-clause-rule
absorb-requires-clause-rule g c = hears _ _ _ _

pub len_as-requires-clause-rule : goal.len_as-requires-clause-rule
len_as-requires-clause-rule g c =
    let may = ap (λ (view : View g.row.E.Denot). view.sends) c.absorb.ensures.rule ∙ c.self.invariant.2 in
    sender_learns _ _ may

pub returns-clause-held : goal.returns-clause-held
returns-clause-held g c =
    let told = c.len_as.ensures.rule.1 in (
      told.0,
      told.1,
      full_told c.self.inside.pass.me.0.client c.another-told.result.me.0.client c.args.known.now.me.0.client c.absorb.new.pass.me.0.client
          c.self.inside.number c.self.inside.pass.table_id c.args.self.now told.0
          c.absorb.ensures.rule c.another-told.ensures.rule.1 c.self.invariant.3 c.self.view_is told.2,
    )
