use Rattle.std.proofs.Common.{◌≡◌, refl, subst, ap, ◌∙◌}
use Rattle.std.specs.Prelude.{IfOk}
use Rattle.driver_core.specs.declared.state.outcome.Outcome.{Outcome}
use Rattle.driver_core.specs.Conduct.{coming_to, drafted}
use Rattle.driver_core.specs.Renewal.{come_to, gone_from}
use Rattle.driver_core.specs.State.{State, ruled}
use Rattle.driver_core.specs.Report.{report_of}
use Rattle.driver_core.proofs.RuledLemmas.{turned_is}
use Rattle.driver_core.proofs.state.registry.Registry.told_at_bound.Goals as goal

pub returns : goal.returns
returns c =
    let s = c.args.self.now in
    let e = c.args.event.now in
    let i = c.args.inputs.now in
    let after = c.take_telling.new.self in
    let came : c.rule.new.self ≡ coming_to s e = c.rule.ensures ∙ (λ j. ruled (c.in_ok-after.ensures j) (c.moment.ensures j)) in
    let done : after ≡ (drafted (coming_to s e) e i).after = c.in_ok-told.ensures.done ∙ ap (λ (t : State). (drafted t e i).after) came in
    let tells : c.in_ok-told.told ≡ report_of (drafted (coming_to s e) e i) = c.in_ok-told.ensures.told ∙ ap (λ (t : State). report_of (drafted t e i)) came in
    subst (λ (o : Outcome). IfOk c.outcome_between.result (λ outcome. outcome ≡ o))
    (turned_is s i (drafted (coming_to s e) e i) after c.in_ok-told.told (gone_from s after) (come_to s after) done tells refl refl)
    c.outcome_between.ensures
