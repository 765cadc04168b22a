use Rattle.std.proofs.Common.{ℕ, ap, ◌∙◌}
use Rattle.driver_core.specs.Conduct.{conduct, drafted}
use Rattle.driver_core.specs.Renewal.{renewed}
use Rattle.driver_core.specs.State.{State, ruled}
use Rattle.driver_core.specs.Unread.{dropping, without_unread}
use Rattle.driver_core.proofs.state.registry.Registry.conduct.Goals as goal

pub returns : goal.returns
unfolding conduct dropping renewed
returns c =
    c.drop_unread.ensures
    ∙ ap without_unread
    (c.take.ensures
    ∙ ap (λ (s : State). (drafted s c.args.event.now c.args.inputs.now).after)
    (c.rule.ensures ∙ ap (λ (now : ℕ). ruled c.args.self.now now) c.moment.ensures))
