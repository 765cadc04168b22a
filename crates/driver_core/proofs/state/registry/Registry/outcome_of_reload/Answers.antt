use Rattle.std.proofs.Common.{rules, sym, ◌∙◌}
use Rattle.driver_core.proofs.ReloadingLemmas.{reload_granted, reload_refused}
use Rattle.driver_core.proofs.state.registry.Registry.outcome_of_reload.Goals as goal

pub returns-then-not-has_room_for_policy : goal.returns-then-not-has_room_for_policy
returns-then-not-has_room_for_policy c =
    rw (reload_refused c.args.self.now c.args.now c.args.inputs.now c.args.policy.now
    (sym c.has_room_for_policy.ensures ∙ c.if-not-has_room_for_policy.true)) (search rules)

pub returns : goal.returns
returns c =
    rw (reload_granted c.args.self.now c.args.now c.args.policy.now
    (sym c.has_room_for_policy.ensures ∙ c.if-not-has_room_for_policy.false)) (c.outcome_of_reloaded.ensures)
