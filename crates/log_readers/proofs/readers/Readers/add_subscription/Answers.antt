use Rattle.std.proofs.Common.{◌<◌, ℕ, List, cond, length, sym, ap, ◌∙◌}
use Rattle.std.proofs.lemmas.List.Elements.{All-same}
use Rattle.log_readers.specs.Readers.{all_readers, noted}
use Rattle.stream_registry.specs.declared.row.LogRow.{LogRow}
use Rattle.stream_registry.specs.Pairs.{is_allowed}
use Rattle.stream_registry.specs.Wish.{row_of}
use Rattle.log_readers.proofs.ReaderLemmas.{as_many_as_logs, has_room_for_number, subscribed_readers}
use Rattle.log_readers.proofs.readers.Readers.add_subscription.Goals as goal

pub note-requires-clause-same : goal.note-requires-clause-same
note-requires-clause-same c =
    ap (λ (readers : List (List ℕ)). length readers) c.requires.exact
    ∙ as_many_as_logs c.args.clients.now.rows c.args.policy.now c.args.epoch c.args.streams.now
    ∙ ap (λ (logs : List LogRow). length logs) (sym c.sources.ensures.value)

pub note-requires-clause-room : goal.note-requires-clause-room
note-requires-clause-room c =
    All-same (λ (numbers : List ℕ). length numbers < 512) c.args.self.now
    (all_readers c.args.streams.now c.args.clients.now.rows c.args.policy.now c.args.epoch) c.requires.exact
    (has_room_for_number c.args.clients.now.rows c.args.policy.now c.args.epoch c.args.streams.now c.requires.room)

pub returns : goal.returns
returns c =
    c.note.ensures
    ∙ ap (λ (logs : List LogRow).
    cond (is_allowed c.args.clients.now.rows c.args.policy.now c.args.epoch (row_of c.args.wish.now))
    (noted (row_of c.args.wish.now) logs c.args.self.now) c.args.self.now) c.sources.ensures.value
    ∙ ap (λ (readers : List (List ℕ)).
    cond (is_allowed c.args.clients.now.rows c.args.policy.now c.args.epoch (row_of c.args.wish.now))
    (noted (row_of c.args.wish.now) c.args.streams.now.sources readers) readers) c.requires.exact
    ∙ sym (subscribed_readers c.args.clients.now.rows c.args.policy.now c.args.epoch c.args.streams.now c.args.wish.now.number
    c.args.wish.now.client c.args.wish.now.channel.now c.args.wish.now.stream)
