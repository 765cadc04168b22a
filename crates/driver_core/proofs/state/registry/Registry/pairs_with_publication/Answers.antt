use Rattle.std.proofs.Common.{ap, length, ◌∙◌}
use Rattle.driver_core.specs.Publishing.{with_publication}
use Rattle.driver_core.proofs.PairLemmas.{settled_pairs}
use Rattle.driver_core.proofs.state.registry.Registry.pairs_with_publication.Goals as goal

-- where the policy stands for good, the pairs that there are are all that there may be
pub returns-then-is_settled : goal.returns-then-is_settled
unfolding with_publication
returns-then-is_settled c =
    c.pairs_now_with_publication.ensures
    ∙ ap length (settled_pairs (with_publication c.args.self.now c.args.client c.args.wanted.now c.args.adding) (c.is_settled.ensures c.if-is_settled.true))
