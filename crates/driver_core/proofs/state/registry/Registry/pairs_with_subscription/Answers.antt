use Rattle.std.proofs.Common.{rules, ◌≡◌, ℤ, to_z, of_z, w32, subst, sym, ap, length, ◌∙◌}
use Rattle.driver_core.specs.Pairs.{pairs_of, prospects_of}
use Rattle.driver_core.specs.Subscribing.{with_subscription}
use Rattle.driver_core.proofs.PairLemmas.{settled_pairs}
use Rattle.driver_core.proofs.state.registry.Registry.pairs_with_subscription.Goals as goal

-- where the policy stands for good, the pairs that there are are all that there may be
pub returns-then-is_settled : goal.returns-then-is_settled
unfolding with_subscription
returns-then-is_settled c =
    let stream : to_z w32 (of_z w32 c.args.stream) ≡ c.args.stream = search rules in
    c.pairs_now_with_subscription.ensures
    ∙ subst (λ (z : ℤ).
    length (pairs_of (with_subscription c.args.self.now c.args.client c.args.channel.now z))
    ≡ length (prospects_of (with_subscription c.args.self.now c.args.client c.args.channel.now c.args.stream))) (sym stream)
    (ap length (settled_pairs (with_subscription c.args.self.now c.args.client c.args.channel.now c.args.stream) (c.is_settled.ensures c.if-is_settled.true)))
