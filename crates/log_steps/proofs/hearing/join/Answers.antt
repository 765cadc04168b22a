use Rattle.std.proofs.Common.{rules, refl, sym, ◌∙◌}
use Rattle.log_steps.specs.Held.{HeldLog}
use Rattle.log_steps.proofs.MoveLemmas.{join_full, join_heard}
use Rattle.log_steps.proofs.hearing.join.Goals as goal

pub returns-in-Full-clause-does : goal.returns-in-Full-clause-does
returns-in-Full-clause-does c =
    let held : HeldLog = record { source = c.log.inside.source; log = c.log.inside.log; recovery = c.log.inside.recovery } in
    let after : HeldLog = record held { recovery = c.learn.new.self } in
    rw (← c.log.view_is)
    (join_full c.args.now c.args.from.now c.args.decision.now c.args.message.now held after (search rules) (sym c.learn.ensures.answer ∙ c.in-Full.is)
    (record { source_is = refl; log_is = refl; recovery_is = c.learn.ensures.after }))

pub returns-in_default : goal.returns-in_default
returns-in_default c =
    let held : HeldLog = record { source = c.log.inside.source; log = c.log.inside.log; recovery = c.log.inside.recovery } in
    let between : HeldLog = record held { recovery = c.learn.new.self } in
    record {
      does = rw (← c.log.view_is)
          (join_heard c.args.now c.args.from.now c.args.decision.now c.args.message.now held between c.hear.new.log c.hear.result (search rules)
          (λ full. c.in_default.not-Full (c.learn.ensures.answer ∙ full))
          (record { source_is = refl; log_is = refl; recovery_is = c.learn.ensures.after })
          c.hear.ensures.does);
      lies = search rules;
    }
