use Rattle.std.proofs.Common.{◌≡◌, ap, ap₂, ◌∙◌}
use Rattle.driver_core.specs.Pairs.{lacking, pairs_of}
use Rattle.driver_core.specs.Renewal.{come_to, gone_from, under}
use Rattle.driver_core.specs.State.{State}
use Rattle.driver_core.proofs.RuledLemmas.{between_is}
use Rattle.driver_core.proofs.rules.at_bound.outcome_between.Goals as goal

pub returns : goal.returns
returns c =
    let before = c.args.before.now in
    let after = c.args.after.now in
    let stood : c.as_slice.result.now ≡ pairs_of before = c.as_slice.ensures ∙ c.drop-2.view_is ∙ c.in_ok-stood-inside.ensures in
    let left : c.as_slice-2.result.now ≡ pairs_of after = c.as_slice-2.ensures ∙ c.in_ok-left.ensures in
    let gone : c.in_ok-turnover.turnover.gone ≡ gone_from before after = c.in_ok-turnover.ensures.gone ∙ ap₂ lacking stood left in
    let come : c.in_ok-turnover.turnover.come ≡ come_to before after = c.in_ok-turnover.ensures.come ∙ ap₂ lacking left stood in
    let policy : c.policy.result ≡ after.policy = c.policy.ensures ∙ ap (λ (s : State). s.policy) c.after.view_is in
    let epoch : c.epoch.result ≡ after.epoch = c.epoch.ensures ∙ ap (λ (s : State). s.epoch) c.after.view_is in
    between_is before after (under after c.policy.result c.epoch.result) c.args.inputs.now c.args.told c.tell_turnover.new.told
    c.in_ok-turnover.turnover.gone c.in_ok-turnover.turnover.come c.outcome_from.result
    (λ i. record after { policy = policy i; epoch = epoch i }) gone come c.in_ok-tell_turnover.ensures c.outcome_from.ensures
