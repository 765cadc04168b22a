use Rattle.compiled_policy.specs.Numbered.{standing}
use Rattle.std.proofs.Common.{◌≡◌, sym, subst, ap}
use Rattle.std.specs.List.{Contains}
use Rattle.stream_registry.specs.declared.row.Subscription.{Subscription}
use Rattle.stream_registry.specs.Wish.{row_of}
use Rattle.driver_core.specs.State.{State}
use Rattle.driver_core.specs.Pairs.{pairs_of}
use Rattle.driver_core.proofs.KeptLemmas.{kept_length}
use Rattle.driver_core.proofs.state.registry.Registry.pairs_with.Goals as goal

pub pairs_of_row-requires : goal.pairs_of_row-requires
pairs_of_row-requires c =
    kept_length c.self.inside.streams c.self.inside.clients.rows (standing c.self.inside.compiled) c.self.inside.compiled.epoch c.self.inside.last_number
    c.self.inside.readers c.self.invariant.kept

pub returns-clause-exact : goal.returns-clause-exact
unfolding pairs_of
returns-clause-exact c =
    let there : Contains c.self.inside.streams.subscriptions (row_of c.wish.result) =
    subst (λ (s : State). Contains s.streams.subscriptions (row_of c.wish.result)) (sym c.self.view_is) (rw c.wish.ensures c.requires) in
    let same : c.wish.result.number ≡ c.args.row.now.number = ap (λ (row : Subscription). row.number) c.wish.ensures in
    rw (← c.self.view_is)
    (rw same at
    (c.pairs_of_row.ensures c.self.inside.clients.rows (standing c.self.inside.compiled) c.self.inside.compiled.epoch 0 c.self.inside.last_number
    c.self.invariant.kept.order.numbers there c.self.invariant.kept.exact))

pub returns-clause-order : goal.returns-clause-order
returns-clause-order c = rw (← c.self.view_is) c.self.invariant.kept.order.numbers
