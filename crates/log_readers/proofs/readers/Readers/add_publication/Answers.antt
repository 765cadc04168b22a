use Rattle.std.proofs.Common.{◌≡◌, ◌<◌, ℕ, List, [], ◌∷◌, ◌++◌, filter, length, Ok, sym, ap, subst, ◌∙◌, rules}
use Rattle.std.proofs.lemmas.Bool.{ltb-true}
use Rattle.log_readers.specs.Readers.{readers_at}
use Rattle.stream_registry.specs.declared.row.LogRow.{LogRow}
use Rattle.stream_registry.specs.declared.row.Subscription.{Subscription}
use Rattle.stream_registry.specs.Adding.{log_of}
use Rattle.stream_registry.specs.Origins.{is_published}
use Rattle.stream_registry.proofs.FewLemmas.{room_for_publication}
use Rattle.stream_registry.proofs.LimitLemmas.{make_has_room_for_log}
use Rattle.log_readers.proofs.ReaderLemmas.{as_many_as_logs, made_readers}
use Rattle.log_readers.proofs.SameLemmas.{joined_alike}
use Rattle.log_readers.proofs.readers.Readers.add_publication.Goals as goal

pub add_log-requires-clause-same : goal.add_log-requires-clause-same
add_log-requires-clause-same c =
    ap (λ (readers : List (List ℕ)). length readers) c.requires.exact
    ∙ as_many_as_logs c.args.clients.now.rows c.args.policy.now c.args.epoch c.args.streams.now
    ∙ sym (ap (λ (logs : List LogRow). length logs) c.sources-logs.ensures.value)

pub add_log-requires-clause-room : goal.add_log-requires-clause-room
add_log-requires-clause-room c =
    let room = ltb-true (length (filter is_published c.args.streams.now.sources)) 256
    (make_has_room_for_log c.args.streams.now c.args.wanted.now c.in-Make.session (c.requires.taken ∙ ap Ok c.in-Make.is)) in
    room_for_publication c.sources-logs.result.now
    (subst (λ (logs : List LogRow). length (filter is_published logs) < 256) (sym c.sources-logs.ensures.value) room)
    c.sources-logs.ensures.kinds

pub returns-in-Join : goal.returns-in-Join
returns-in-Join c =
    rw c.in-Join.is
    (c.requires.exact
    ∙ sym (joined_alike c.args.policy.now c.args.epoch c.args.streams.now c.args.clients.now.rows c.args.number c.args.client
    c.args.wanted.now c.args.place c.in-Join.source c.in-Join.session).readers)

pub returns-in-Make : goal.returns-in-Make
returns-in-Make c =
    let at = readers_at c.args.clients.now.rows c.args.policy.now c.args.epoch in
    let log = log_of c.args.streams.now c.args.number c.args.wanted.now c.args.place c.in-Make.session in
    let is : c.log-log.result ≡ log = search (rules, c.log-log.ensures) in
    rw c.in-Make.is
    (c.add_log.ensures
    ∙ ap (λ (subscriptions : List Subscription). c.args.self.now ++ at subscriptions c.log-log.result ∷ []) c.subscriptions.ensures.value
    ∙ ap (λ (one : LogRow). c.args.self.now ++ at c.args.streams.now.subscriptions one ∷ []) is
    ∙ ap (λ (readers : List (List ℕ)). readers ++ at c.args.streams.now.subscriptions log ∷ []) c.requires.exact
    ∙ sym (made_readers c.args.clients.now.rows c.args.policy.now c.args.epoch c.args.streams.now c.args.number c.args.client
    c.args.wanted.now c.args.place c.in-Make.session))
