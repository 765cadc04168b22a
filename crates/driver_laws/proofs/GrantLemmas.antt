-- Counters and the end of the driver are granted exactly.
use Rattle.std.proofs.Common.{◌≡◌, ℕ, ◌==◌, ◌+◌, map, filter, true, false, List, [], ◌∷◌, refl, ap, ◌∙◌}
use Rattle.std.proofs.lemmas.Bool.{eq-eqb}
use Rattle.std.proofs.lemmas.List.{append-nil}
use Rattle.std.specs.List.{Contains, flat_map, list_any}
use Rattle.driver_core.specs.Change.{Change}
use Rattle.driver_core.specs.declared.state.event.Event.TheVariants.{Command}
use Rattle.driver_core.specs.declared.state.event.Inputs.{Inputs}
use Rattle.driver_core.specs.declared.state.refusal.Refusal.{Refusal}
use Rattle.driver_core.specs.declared.state.refusal.Refusal.TheVariants.{Denied, Full}
use Rattle.driver_core.specs.declared.state.replies.Message.{Message}
use Rattle.driver_core.specs.declared.state.replies.Reply.TheVariants.{CounterReady, Error}
use Rattle.driver_core.specs.Commands.{heard, requested, asked, command, at_request}
use Rattle.driver_core.specs.Conduct.{conduct, drafted}
use Rattle.driver_core.specs.Counting.{add_counter, counted, with_counter, counter_decision, has_room_for_counter}
use Rattle.driver_core.specs.Deciding.{decision_by}
use Rattle.driver_core.specs.Draft.{Draft, told, replied, refused}
use Rattle.driver_core.specs.Pairs.{pairs_of, lacking}
use Rattle.driver_core.specs.Renewal.{renewed, images_told, images_decided, come_to, gone_from, unavailable_for, decided_on as pair_decided_on}
use Rattle.driver_core.specs.Requests.{Asks, counter_question, termination_question}
use Rattle.driver_core.specs.State.{State, at_moment, ruled}
use Rattle.driver_core.specs.Terminating.{terminate, terminated, termination_decision, stopped_for_good}
use Rattle.driver_core.specs.Unread.{dropping, is_closed, without_unread}
use Rattle.driver_core.specs.Verdicts.{verdict_on}
use Rattle.driver_laws.specs.GrantLaws.{decided_on, IsRefusedOn, IsCounted, IsCountedExactly, IsTerminated, IsTerminatedExactly}
use Rattle.client_registry.specs.declared.client.Client.{Client}
use Rattle.client_registry.specs.Clients.{cleared, touched}
use Rattle.command_codec.specs.declared.add_counter.AddCounter.{AddCounter}
use Rattle.command_codec.specs.declared.command.Body.{Body}
use Rattle.command_codec.specs.declared.command.Body.TheVariants.{AddCounter as AddsCounter, TerminateDriver as Terminates}
use Rattle.command_codec.specs.declared.terminate_driver.TerminateDriver.{TerminateDriver}
use Rattle.log_readers.specs.Unread.{without_unread as without_unread_in}
use Rattle.destinations.specs.Destinations.{cleared as all_recalled}
use Rattle.policy_core.specs.declared.decision.Decision.{Decision}
use Rattle.policy_core.specs.declared.verdict.Verdict.{Verdict}
use Rattle.policy_core.specs.Question.{Question}
use Rattle.stream_registry.specs.declared.lingering.LogPlace.{LogPlace}
use Rattle.stream_registry.specs.declared.pairs.Pair.{Pair}
use Rattle.stream_registry.specs.declared.row.LogRow.{LogRow}
use Rattle.stream_registry.specs.Lingering.{place_of}
use Rattle.stream_registry.specs.Pairs.{pairs_of as pairs_on}
use Rattle.stream_registry.specs.Streams.{cleared as all_closed}
use Rattle.driver_core.proofs.VerdictLemmas.{by_policy}
use Rattle.driver_core.proofs.PairLemmas.{pairs_by, pairs_heard}
use Rattle.driver_laws.proofs.DroppingLemmas.{all_pass, is_any}
use Rattle.driver_laws.proofs.ImageLemmas.{is_mapped}
use Rattle.driver_laws.proofs.SubscribingLemmas.{found_number}
use Rattle.driver_laws.proofs.TurningLemmas.{by_draft, sources_at, told_before, turns_to}

-- a refusal changes no pair
pub refused_change : (before s : State) (now handle correlation : ℕ) (inputs : Inputs) (client : Client) (question : Question)
    (decision : Decision) (refusal : Refusal) → client.number ≡ handle → decision ≡ decided_on s question →
    IsRefusedOn before s now handle correlation inputs question refusal (
    dropping before (renewed before inputs
    (refused (at_request s now handle) (decision ∷ []) client.number correlation refusal)))
unfolding dropping renewed refused replied told
refused_change before s now handle correlation inputs client question decision refusal own is =
    let draft : Draft = refused (at_request s now handle) (decision ∷ []) client.number correlation refusal in
    record {
      after_is = refl;
      turns = turns_to before inputs draft s refl (pairs_heard s now handle);
      told = told_before before inputs draft (record { client = handle; reply = Error correlation refusal }) (rw own refl) refl;
      decided = ap (λ (d : Decision).
          d ∷ images_decided (at_request s now handle) (gone_from before (at_request s now handle))
          (come_to before (at_request s now handle))) is;
    }

-- ---- counters

counter_is_decided : (s : State) (now handle correlation : ℕ) (bytes : List ℕ) (inputs : Inputs) (client : Client)
    (fields : AddCounter) → Asks s handle bytes client correlation (AddsCounter fields) →
    drafted s (Command now handle bytes) inputs ≡ add_counter (at_request s now handle) client correlation fields
unfolding drafted command asked requested at_moment
counter_is_decided s now handle correlation bytes inputs client fields asks =
    rw (asks.command, eq-eqb handle handle refl, asks.attached) refl

counter_grants : (s : State) (client : Client) (correlation : ℕ) (fields : AddCounter) →
    (counter_decision s client fields).verdict.allow ≡ true → has_room_for_counter s ≡ true →
    add_counter s client correlation fields ≡ counted s client correlation fields
unfolding add_counter
counter_grants s client correlation fields allows room = rw (allows, room) refl

counter_is_full : (s : State) (client : Client) (correlation : ℕ) (fields : AddCounter) →
    (counter_decision s client fields).verdict.allow ≡ true → has_room_for_counter s ≡ false →
    add_counter s client correlation fields
    ≡ refused s (counter_decision s client fields ∷ []) client.number correlation Full
unfolding add_counter
counter_is_full s client correlation fields allows room = rw (allows, room) refl

counter_denies : (s : State) (client : Client) (correlation : ℕ) (fields : AddCounter) →
    (counter_decision s client fields).verdict.allow ≡ false →
    add_counter s client correlation fields
    ≡ refused s (counter_decision s client fields ∷ []) client.number correlation
    (Denied (counter_decision s client fields).verdict)
unfolding add_counter
counter_denies s client correlation fields denies = rw denies refl

-- no pair is by a counter
counted_pairs : (s : State) (now handle client : ℕ) (fields : AddCounter) →
    pairs_of (with_counter (at_request s now handle) client fields) ≡ pairs_of s
unfolding with_counter heard at_moment
counted_pairs s now handle client fields =
    pairs_by (with_counter (at_request s now handle) client fields) (at_request s now handle) refl refl refl (λ n. refl)
    ∙ pairs_heard s now handle

counted_change : (before s : State) (now handle correlation : ℕ) (inputs : Inputs) (client : Client) (fields : AddCounter) →
    client.number ≡ handle →
    IsCounted before s now handle correlation inputs client fields (
    dropping before (renewed before inputs (counted (at_request s now handle) client correlation fields)))
unfolding dropping renewed counted with_counter decision_by replied told heard at_moment
counted_change before s now handle correlation inputs client fields own =
    let draft : Draft = counted (at_request s now handle) client correlation fields in
    let ready : Message = record { client = handle; reply = CounterReady correlation (s.last_number + 1) } in
    record {
      after_is = rw own refl;
      turns = turns_to before inputs draft s refl (counted_pairs s now handle client.number fields);
      told = rw own (ap (λ (others : List Message). ready ∷ others) (append-nil _));
      decided = rw own refl;
    }

pub counter_verdict : (s : State) (now handle : ℕ) (client : Client) (fields : AddCounter) →
    (counter_decision (at_request s now handle) client fields).verdict ≡ verdict_on s (counter_question client fields)
unfolding decision_by heard at_moment
counter_verdict s now handle client fields = refl

pub counter_room : (s : State) (now handle : ℕ) → has_room_for_counter (at_request s now handle) ≡ has_room_for_counter s
unfolding heard at_moment
counter_room s now handle = refl

counter_decided : (s : State) (now handle : ℕ) (client : Client) (fields : AddCounter) →
    counter_decision (at_request s now handle) client fields ≡ decided_on s (counter_question client fields)
unfolding decision_by heard at_moment
counter_decided s now handle client fields = refl

counter_refused : (before s : State) (now handle correlation : ℕ) (inputs : Inputs) (client : Client) (fields : AddCounter)
    (refusal : Refusal) → client.number ≡ handle →
    IsRefusedOn before s now handle correlation inputs (counter_question client fields) refusal (
    dropping before (renewed before inputs
    (refused (at_request s now handle) (counter_decision (at_request s now handle) client fields ∷ []) client.number
    correlation refusal)))
counter_refused before s now handle correlation inputs client fields refusal own =
    refused_change before s now handle correlation inputs client (counter_question client fields) _ refusal own
    (counter_decided s now handle client fields)

counter_denied : (before s : State) (now handle correlation : ℕ) (inputs : Inputs) (client : Client) (fields : AddCounter) →
    client.number ≡ handle →
    IsRefusedOn before s now handle correlation inputs (counter_question client fields)
    (Denied (verdict_on s (counter_question client fields))) (
    dropping before (renewed before inputs
    (refused (at_request s now handle) (counter_decision (at_request s now handle) client fields ∷ []) client.number
    correlation (Denied (counter_decision (at_request s now handle) client fields).verdict))))
unfolding decision_by heard at_moment
counter_denied before s now handle correlation inputs client fields own =
    counter_refused before s now handle correlation inputs client fields
    (Denied (verdict_on s (counter_question client fields))) own

by_counter_verdict : (before s : State) (now handle correlation : ℕ) (inputs : Inputs) (client : Client) (fields : AddCounter) →
    client.number ≡ handle →
    IsCountedExactly before s now handle correlation inputs client fields (
    dropping before (renewed before inputs (add_counter (at_request s now handle) client correlation fields)))
by_counter_verdict before s now handle correlation inputs client fields own =
    let word = ap (λ (v : Verdict). v.allow) (counter_verdict s now handle client fields) in
    record {
      by = by_policy s (counter_question client fields);
      granted = λ allows room.
          rw (counter_grants (at_request s now handle) client correlation fields (word ∙ allows)
          (counter_room s now handle ∙ room))
          (counted_change before s now handle correlation inputs client fields own);
      full = λ allows room.
          rw (counter_is_full (at_request s now handle) client correlation fields (word ∙ allows)
          (counter_room s now handle ∙ room))
          (counter_refused before s now handle correlation inputs client fields Full own);
      denied = λ denies.
          rw (counter_denies (at_request s now handle) client correlation fields (word ∙ denies))
          (counter_denied before s now handle correlation inputs client fields own);
    }

-- the same client and body, by the policy as it is at the moment of the event
pub asks_at : (s : State) (now handle : ℕ) (bytes : List ℕ) (client : Client) (correlation : ℕ) (body : Body) →
    Asks s handle bytes client correlation body → Asks (ruled s now) handle bytes client correlation body
unfolding ruled
asks_at s now handle bytes client correlation body asks = record { command = asks.command; attached = asks.attached }

pub counted_exactly : (s : State) (now handle correlation : ℕ) (bytes : List ℕ) (inputs : Inputs) (client : Client)
    (fields : AddCounter) → Asks s handle bytes client correlation (AddsCounter fields) →
    IsCountedExactly s (ruled s now) now handle correlation inputs client fields (conduct s (Command now handle bytes) inputs)
counted_exactly s now handle correlation bytes inputs client fields asks =
    by_draft (IsCountedExactly s (ruled s now) now handle correlation inputs client fields) s (Command now handle bytes) inputs
    (add_counter (at_request (ruled s now) now handle) client correlation fields)
    (counter_is_decided (ruled s now) now handle correlation bytes inputs client fields
    (asks_at s now handle bytes client correlation (AddsCounter fields) asks))
    (by_counter_verdict s (ruled s now) now handle correlation inputs client fields
    (found_number s.clients.rows handle client asks.attached))

-- ---- the end of the driver

termination_is_decided : (s : State) (now handle correlation : ℕ) (bytes : List ℕ) (inputs : Inputs) (client : Client)
    (fields : TerminateDriver) → Asks s handle bytes client correlation (Terminates fields) →
    drafted s (Command now handle bytes) inputs ≡ terminate (at_request s now handle) client correlation
unfolding drafted command asked requested at_moment
termination_is_decided s now handle correlation bytes inputs client fields asks =
    rw (asks.command, eq-eqb handle handle refl, asks.attached) refl

termination_grants : (s : State) (client : Client) (correlation : ℕ) →
    (termination_decision s client).verdict.allow ≡ true →
    terminate s client correlation ≡ terminated s client correlation
unfolding terminate
termination_grants s client correlation allows = rw allows refl

termination_denies : (s : State) (client : Client) (correlation : ℕ) →
    (termination_decision s client).verdict.allow ≡ false →
    terminate s client correlation
    ≡ refused s (termination_decision s client ∷ []) client.number correlation
    (Denied (termination_decision s client).verdict)
unfolding terminate
termination_denies s client correlation denies = rw denies refl

flat_nothing : {X Y : Type 0} (f : X → List Y) → ((x : X) → f x ≡ []) → (xs : List X) → flat_map f xs ≡ []
flat_nothing f none [] = refl
flat_nothing f none (x ∷ xs) = rw (none x, flat_nothing f none xs) refl

-- no subscription is left that could be told of an image
nothing_told : (s : State) (inputs : Inputs) (gone : List Pair) → images_told (stopped_for_good s) inputs gone [] ≡ []
unfolding images_told unavailable_for stopped_for_good
nothing_told s inputs gone =
    append-nil _ ∙ flat_nothing (unavailable_for (stopped_for_good s)) (λ pair. refl) gone

nothing_decided : (s : State) (gone : List Pair) → images_decided (stopped_for_good s) gone [] ≡ []
unfolding images_decided pair_decided_on stopped_for_good
nothing_decided s gone =
    append-nil _ ∙ flat_nothing (pair_decided_on (stopped_for_good s)) (λ pair. refl) gone

no_pairs : (s : State) → pairs_of (stopped_for_good s) ≡ []
unfolding pairs_of pairs_on stopped_for_good
no_pairs s = refl

terminated_change : (before s : State) (now handle correlation : ℕ) (inputs : Inputs) (client : Client) →
    client.number ≡ handle →
    IsTerminated s now handle correlation client (
    renewed before inputs (terminated (at_request s now handle) client correlation))
unfolding renewed terminated stopped_for_good decision_by heard at_moment touched
terminated_change before s now handle correlation inputs client own =
    let left = at_request s now handle in
    let none = no_pairs left in
    let gone = lacking (pairs_of before) [] in
    record {
      after_is = refl;
      told = rw (none, nothing_told left inputs gone, own) refl;
      decided = rw (none, nothing_decided left gone) refl;
      closes = refl;
    }

termination_verdict : (s : State) (now handle : ℕ) (client : Client) →
    (termination_decision (at_request s now handle) client).verdict ≡ verdict_on s (termination_question client)
unfolding decision_by heard at_moment
termination_verdict s now handle client = refl

termination_denied : (before s : State) (now handle correlation : ℕ) (inputs : Inputs) (client : Client) →
    client.number ≡ handle →
    IsRefusedOn before s now handle correlation inputs (termination_question client)
    (Denied (verdict_on s (termination_question client))) (
    dropping before (renewed before inputs
    (refused (at_request s now handle) (termination_decision (at_request s now handle) client ∷ []) client.number
    correlation (Denied (termination_decision (at_request s now handle) client).verdict))))
unfolding decision_by heard at_moment
termination_denied before s now handle correlation inputs client own =
    refused_change before s now handle correlation inputs client (termination_question client)
    (termination_decision (at_request s now handle) client) (Denied (verdict_on s (termination_question client))) own refl

-- no log is left that could be an image
none_left : (s : State) (now : ℕ) →
    without_unread (record (at_moment s now) {
      clients = cleared s.clients;
      streams = all_closed s.streams;
      destinations = all_recalled s.destinations;
      counters = [];
      stopped = true;
    })
    ≡ record (at_moment s now) {
      clients = cleared s.clients;
      streams = all_closed s.streams;
      destinations = all_recalled s.destinations;
      counters = [];
      stopped = true;
    }
unfolding without_unread without_unread_in
none_left s now = refl

each_closes : (s : State) (change : Change) (log : LogRow) → change.outcome.closes ≡ map place_of s.streams.sources →
    Contains s.streams.sources log → is_closed change log ≡ true
each_closes s change log closes has =
    let told : list_any (λ (closed : LogPlace). closed.source == log.number) (map place_of s.streams.sources) ≡ true =
    is_any (λ (closed : LogPlace). closed.source == log.number) (map place_of s.streams.sources) (place_of log)
    (is_mapped place_of s.streams.sources log has) (eq-eqb log.number log.number refl) in
    rw (closes, told) refl

still_terminated : (before s : State) → before.streams.sources ≡ s.streams.sources →
    (now handle correlation : ℕ) (client : Client) (change : Change) →
    IsTerminated s now handle correlation client change →
    IsTerminated s now handle correlation client (dropping before change)
unfolding dropping
still_terminated before s logs now handle correlation client change ends = record {
  after_is = ap without_unread ends.after_is ∙ none_left s now;
  told = ends.told;
  decided = ends.decided;
  closes = ap (λ (sources : List LogRow). map place_of (filter (is_closed change) sources)) logs
      ∙ ap (map place_of)
      (all_pass (is_closed change) s.streams.sources (λ log has. each_closes s change log ends.closes has));
}

by_termination_verdict : (before s : State) → before.streams.sources ≡ s.streams.sources → (now handle correlation : ℕ)
    (inputs : Inputs) (client : Client) → client.number ≡ handle →
    IsTerminatedExactly before s now handle correlation inputs client (
    dropping before (renewed before inputs (terminate (at_request s now handle) client correlation)))
by_termination_verdict before s logs now handle correlation inputs client own =
    let word = ap (λ (v : Verdict). v.allow) (termination_verdict s now handle client) in
    record {
      by = by_policy s (termination_question client);
      granted = λ allows.
          rw (termination_grants (at_request s now handle) client correlation (word ∙ allows))
          (still_terminated before s logs now handle correlation client
          (renewed before inputs (terminated (at_request s now handle) client correlation))
          (terminated_change before s now handle correlation inputs client own));
      denied = λ denies.
          rw (termination_denies (at_request s now handle) client correlation (word ∙ denies))
          (termination_denied before s now handle correlation inputs client own);
    }

pub terminated_exactly : (s : State) (now handle correlation : ℕ) (bytes : List ℕ) (inputs : Inputs) (client : Client)
    (fields : TerminateDriver) → Asks s handle bytes client correlation (Terminates fields) →
    IsTerminatedExactly s (ruled s now) now handle correlation inputs client (conduct s (Command now handle bytes) inputs)
terminated_exactly s now handle correlation bytes inputs client fields asks =
    by_draft (IsTerminatedExactly s (ruled s now) now handle correlation inputs client) s (Command now handle bytes) inputs
    (terminate (at_request (ruled s now) now handle) client correlation)
    (termination_is_decided (ruled s now) now handle correlation bytes inputs client fields
    (asks_at s now handle bytes client correlation (Terminates fields) asks))
    (by_termination_verdict s (ruled s now) (sources_at s now) now handle correlation inputs client
    (found_number s.clients.rows handle client asks.attached))
