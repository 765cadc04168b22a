use Rattle.std.proofs.Common.{rules, ap, sym, subst, ◌∙◌}
use Rattle.command_queue.specs.Facts.{Fits}
use Rattle.command_queue.specs.declared.rule.View.{View}
use Rattle.command_queue.proofs.Moves.{copies, hears, takes, taker_learns}
use Rattle.command_queue.proofs.Steps.{empty_told, step_kept, step_taken, taken_told}
use Rattle.command_queue.proofs.taker.Taker.pop.Goals as goal

pub another-told-requires-clause-rule : goal.another-told-requires-clause-rule
another-told-requires-clause-rule g c = copies _ _

pub absorb-requires-clause-rule : goal.absorb-requires-clause-rule
absorb-requires-clause-rule g c = hears _ _ _ _

pub pop_as-requires-clause-rule : goal.pop_as-requires-clause-rule
pop_as-requires-clause-rule g c =
    let heard = c.absorb.ensures.rule in
    let may = ap (λ (view : View g.row.E.Denot). view.takes) heard ∙ c.self.invariant.1 in
    let rests = ap (λ (view : View g.row.E.Denot). view.sends) heard ∙ c.self.invariant.2 in
    (takes _ _ may rests, taker_learns _ _ may)

pub returns-clause-taken : goal.returns-clause-taken
returns-clause-taken g c =
    let letter = c.in_ok-letter.letter in
    let same = c.pop_as.ensures.queue.0 ∙ c.absorb.ensures.queue.0 in (
      letter.from,
      step_taken c.self.inside.pass.me.0.client c.another-told.result.me.0.client c.absorb.new.pass.me.0.client c.pop_as.new.pass.me.0.client
          c.self.inside.pass.table_id c.pop_as.new.pass.table_id letter c.args.self.now same c.absorb.ensures.rule c.in_ok-letter.ensures.rule.0 c.self.view_is,
    )

pub returns-clause-order : goal.returns-clause-order
returns-clause-order g c =
    taken_told c.self.inside.pass.me.0.client c.another-told.result.me.0.client c.args.known.now.me.0.client c.absorb.new.pass.me.0.client
    c.pop_as.new.pass.me.0.client.taken c.absorb.ensures.rule c.another-told.ensures.rule.1 c.in_ok-letter.ensures.rule.1

pub returns-in_err-letter-clause-taken : goal.returns-in_err-letter-clause-taken
returns-in_err-letter-clause-taken g c =
    let mine : View g.row.E.Denot = c.self.inside.pass.me.0.client in
    let its : View g.row.E.Denot = c.another-told.result.me.0.client in
    let after : View g.row.E.Denot = c.absorb.new.pass.me.0.client in
    let told = c.in_err-letter.ensures.rule in
    let at_same = c.pop_as.ensures.queue.0 ∙ c.absorb.ensures.queue.0 in
    let same = step_kept mine its after c.pop_as.new.pass.me.0.client c.self.inside.pass.table_id c.pop_as.new.pass.table_id c.args.self.now at_same c.absorb.ensures.rule told.0 c.self.view_is in
    let whole = empty_told mine its c.args.known.now.me.0.client after c.self.inside.pass.table_id c.args.self.now told.1.0
    c.absorb.ensures.rule c.another-told.ensures.rule.1 c.self.view_is told.1.1 told.1.2 in
    search rules

pub returns-in_err-letter-clause-order : goal.returns-in_err-letter-clause-order
returns-in_err-letter-clause-order g c =
    let after : View g.row.E.Denot = c.absorb.new.pass.me.0.client in
    let told = c.in_err-letter.ensures.rule in
    taken_told c.self.inside.pass.me.0.client c.another-told.result.me.0.client c.args.known.now.me.0.client after
    c.pop_as.new.pass.me.0.client.taken c.absorb.ensures.rule c.another-told.ensures.rule.1
    (told.1.0, subst (λ (view : View g.row.E.Denot). Fits view.taken told.1.0 after.facts) (sym told.0) told.1.2)
