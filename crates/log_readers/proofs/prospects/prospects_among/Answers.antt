use Rattle.std.proofs.Common.{◌≡◌, ◌+◌, ℕ, List, ◌∷◌, ◌++◌, [], arith, length, sym, take, ap, ◌∙◌}
use Rattle.std.proofs.lemmas.List.{take_more}
use Rattle.std.specs.List.{flat_map}
use Rattle.stream_registry.specs.declared.row.Subscription.{Subscription}
use Rattle.stream_registry.specs.Pairs.{prospects_at}
use Rattle.log_readers.specs.Prospects.{prospects_with}
use Rattle.log_readers.proofs.ProspectLemmas.{no_prospects, prospects_with_row}
use Rattle.policy_core.specs.Moments.{at, coming}
use Rattle.log_readers.proofs.prospects.prospects_among.Goals as goal

pub loop-subscription-init : goal.loop-subscription-init
loop-subscription-init c = record {
  so_far = sym (no_prospects c.args.clients.now.rows (at c.args.policy.now c.args.moment) (coming c.args.policy.now c.args.moment) c.args.epoch c.args.streams.now.sources);
  few = omega arith;
}

pub loop-subscription-preserved : goal.loop-subscription-preserved
loop-subscription-preserved c =
    let before : List Subscription = take c.loop-subscription.subscription-index c.args.subscriptions.now in
    let row : Subscription = c.subscription-item.result in
    let count : List Subscription → ℕ = λ rows.
    length (flat_map (prospects_at c.args.clients.now.rows (at c.args.policy.now c.args.moment) (coming c.args.policy.now c.args.moment) c.args.epoch rows) c.args.streams.now.sources) in
    let grown : count (take (c.loop-subscription.subscription-index + 1) c.args.subscriptions.now)
    ≡ count before
    + length (prospects_with c.args.clients.now.rows (at c.args.policy.now c.args.moment) (coming c.args.policy.now c.args.moment) c.args.epoch c.args.streams.now.sources row) =
    ap count (take_more c.args.subscriptions.now c.loop-subscription.subscription-index row c.loop-subscription-test.true
    ∙ ap (λ (one : Subscription). before ++ one ∷ []) (sym c.subscription-item.is))
    ∙ prospects_with_row c.args.clients.now.rows (at c.args.policy.now c.args.moment) (coming c.args.policy.now c.args.moment) c.args.epoch row before c.args.streams.now.sources in
    let read : c.logs_ever_read-pairs.result
    ≡ length (prospects_with c.args.clients.now.rows (at c.args.policy.now c.args.moment) (coming c.args.policy.now c.args.moment) c.args.epoch c.args.streams.now.sources row) =
    c.logs_ever_read-pairs.ensures.exact
    ∙ ap (λ (one : Subscription).
    length (prospects_with c.args.clients.now.rows (at c.args.policy.now c.args.moment) (coming c.args.policy.now c.args.moment) c.args.epoch c.args.streams.now.sources one)) c.wish.ensures in
    record {
      so_far = omega (arith, grown, read, c.loop-subscription.invariant.so_far);
      few = omega (arith, c.logs_ever_read-pairs.ensures.few, c.loop-subscription.invariant.few);
    }
