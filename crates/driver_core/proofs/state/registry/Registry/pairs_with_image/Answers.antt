use Rattle.std.proofs.Common.{ap, length, ◌∙◌}
use Rattle.driver_core.specs.SettingUp.{with_image}
use Rattle.driver_core.proofs.PairLemmas.{settled_pairs}
use Rattle.driver_core.proofs.state.registry.Registry.pairs_with_image.Goals as goal

-- where the policy stands for good, the pairs that there are are all that there may be
pub returns-then-is_settled : goal.returns-then-is_settled
unfolding with_image
returns-then-is_settled c =
    c.pairs_now_with_image.ensures
    ∙ ap length (settled_pairs (with_image c.args.self.now c.args.wanted.now) (c.is_settled.ensures c.if-is_settled.true))
