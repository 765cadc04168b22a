use Rattle.std.proofs.Common.{◌≡◌, ◌<◌, ℕ, List, [], ◌∷◌, ◌++◌, filter, length, sym, ap, subst, ◌∙◌, rules}
use Rattle.std.proofs.lemmas.Bool.{ltb-true}
use Rattle.log_readers.specs.Readers.{readers_at}
use Rattle.stream_registry.specs.declared.row.LogRow.{LogRow}
use Rattle.stream_registry.specs.declared.row.Subscription.{Subscription}
use Rattle.stream_registry.specs.Images.{image_of}
use Rattle.stream_registry.specs.Origins.{is_remote}
use Rattle.stream_registry.proofs.FewLemmas.{room_for_image}
use Rattle.log_readers.proofs.ReaderLemmas.{as_many_as_logs, imaged_readers}
use Rattle.log_readers.proofs.readers.Readers.add_image.Goals as goal

pub add_log-requires-clause-same : goal.add_log-requires-clause-same
add_log-requires-clause-same c =
    ap (λ (readers : List (List ℕ)). length readers) c.requires.exact
    ∙ as_many_as_logs c.args.clients.now.rows c.args.policy.now c.args.epoch c.args.streams.now
    ∙ sym (ap (λ (logs : List LogRow). length logs) c.sources-logs.ensures.value)

pub add_log-requires-clause-room : goal.add_log-requires-clause-room
add_log-requires-clause-room c =
    let room = ltb-true (length (filter is_remote c.args.streams.now.sources)) 512 c.requires.room in
    room_for_image c.sources-logs.result.now
    (subst (λ (logs : List LogRow). length (filter is_remote logs) < 512) (sym c.sources-logs.ensures.value) room)
    c.sources-logs.ensures.kinds

pub returns : goal.returns
returns c =
    let at = readers_at c.args.clients.now.rows c.args.policy.now c.args.epoch in
    let log = image_of c.args.streams.now c.args.number c.args.wanted.now c.args.place in
    let is : c.image-log.result ≡ log = search (rules, c.image-log.ensures) in
    c.add_log.ensures
    ∙ ap (λ (subscriptions : List Subscription). c.args.self.now ++ at subscriptions c.image-log.result ∷ []) c.subscriptions.ensures.value
    ∙ ap (λ (one : LogRow). c.args.self.now ++ at c.args.streams.now.subscriptions one ∷ []) is
    ∙ ap (λ (readers : List (List ℕ)). readers ++ at c.args.streams.now.subscriptions log ∷ []) c.requires.exact
    ∙ sym (imaged_readers c.args.clients.now.rows c.args.policy.now c.args.epoch c.args.streams.now c.args.number c.args.wanted.now
    c.args.place)
