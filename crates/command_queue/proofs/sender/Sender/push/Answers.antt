use Rattle.std.proofs.Common.{ap, sym, ◌∙◌}
use Rattle.command_queue.specs.declared.rule.View.{View}
use Rattle.command_queue.proofs.Moves.{copies, hears, sends, sender_learns}
use Rattle.command_queue.proofs.Steps.{full_told}
use Rattle.command_queue.proofs.sender.Sender.push.Goals as goal
use Rattle.command_queue.proofs.sender.Sender.push.Goals.{in-Ok, in-Err}
use Rattle.crossbeam_queue.specs.Passes.{ruled_capacity}

pub another-told-requires-clause-rule : goal.another-told-requires-clause-rule
another-told-requires-clause-rule g c = copies _ _

pub absorb-requires-clause-rule : goal.absorb-requires-clause-rule
absorb-requires-clause-rule g c = hears _ _ _ _

pub push_as-requires-clause-rule : goal.push_as-requires-clause-rule
push_as-requires-clause-rule g c =
    let heard = c.absorb.ensures.rule in
    let may = ap (λ (view : View g.row.E.Denot). view.sends) heard ∙ c.self.invariant.2 in
    let own = ap (λ (view : View g.row.E.Denot). view.number) heard ∙ c.self.invariant.3 in
    (sends _ _ _ _ may (sym own), sender_learns _ _ may)

pub returns-clause-full : goal.returns-clause-full
returns-clause-full g c =
    elim c.match-push_as.branch [
      | in-Ok w ↦ rw w.result-is tt
      | in-Err w ↦ rw w.result-is (
          let told = w.in-Err.ensures.rule in
          let size = told.2.1 ∙ ap (λ queue. ruled_capacity queue) c.deref-3.ensures ∙ c.self.invariant.1 in (
            told.2.0,
            size,
            full_told c.self.inside.pass.me.0.client c.another-told.result.me.0.client c.args.known.now.me.0.client c.absorb.new.pass.me.0.client
                c.self.inside.number c.self.inside.pass.table_id c.args.self.now told.2.0
                c.absorb.ensures.rule c.another-told.ensures.rule.1 c.self.invariant.3 c.self.view_is told.2.2,
          ))
    ]
