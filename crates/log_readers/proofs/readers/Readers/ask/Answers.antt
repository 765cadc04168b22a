use Rattle.std.proofs.Common.{◌<◌, ℕ, List, [], ◌∷◌, ◌++◌, cond, length, map, take, sym, ap, ◌∙◌, arith}
use Rattle.std.proofs.lemmas.List.{length-take-le, take_more}
use Rattle.std.proofs.lemmas.List.Elements.{All-same}
use Rattle.log_readers.specs.Readers.{noted, readers_at}
use Rattle.stream_registry.specs.declared.row.Subscription.{Subscription}
use Rattle.stream_registry.specs.Pairs.{is_allowed}
use Rattle.log_readers.proofs.NoteLemmas.{all_few, noted_more}
use Rattle.log_readers.proofs.readers.Readers.ask.Goals as goal

pub note-requires-clause-room : goal.note-requires-clause-room
note-requires-clause-room c =
    let before = take c.loop-subscription.subscription-index c.args.subscriptions.now in
    let long = length-take-le c.loop-subscription.subscription-index c.args.subscriptions.now (omega (arith, c.loop-subscription-test.true)) in
    All-same (λ (numbers : List ℕ). length numbers < 512) c.loop-subscription.self
    (map (readers_at c.args.clients.now.rows c.args.policy.now c.args.epoch before) c.args.logs.now) c.loop-subscription.invariant
    (all_few c.args.clients.now.rows c.args.policy.now c.args.epoch before c.args.logs.now 512
    (omega (arith, long, c.requires.few, c.loop-subscription-test.true)))

pub loop-subscription-preserved : goal.loop-subscription-preserved
loop-subscription-preserved c =
    let before = take c.loop-subscription.subscription-index c.args.subscriptions.now in
    let row = c.subscription-item.result in
    c.note.ensures
    ∙ ap (λ (one : Subscription).
    cond (is_allowed c.args.clients.now.rows c.args.policy.now c.args.epoch one)
    (noted one c.args.logs.now c.loop-subscription.self) c.loop-subscription.self) c.wish.ensures
    ∙ ap (λ (readers : List (List ℕ)).
    cond (is_allowed c.args.clients.now.rows c.args.policy.now c.args.epoch row) (noted row c.args.logs.now readers) readers)
    c.loop-subscription.invariant
    ∙ sym (noted_more c.args.clients.now.rows c.args.policy.now c.args.epoch before row c.args.logs.now)
    ∙ ap (λ (subscriptions : List Subscription).
    map (readers_at c.args.clients.now.rows c.args.policy.now c.args.epoch subscriptions) c.args.logs.now)
    (ap (λ (one : Subscription). before ++ one ∷ []) c.subscription-item.is
    ∙ sym (take_more c.args.subscriptions.now c.loop-subscription.subscription-index row c.loop-subscription-test.true))
