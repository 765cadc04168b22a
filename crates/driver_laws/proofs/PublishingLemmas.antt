-- Publications are granted exactly.
use Rattle.std.proofs.Common.{◌≡◌, ℕ, ◌+◌, ◌&&◌, max, nat_le, length, Bool, true, false, List, [], ◌∷◌, Result, Ok, Err, if◌then◌else◌, refl, ap, ◌∙◌}
use Rattle.std.proofs.lemmas.Bool.{eq-eqb}
use Rattle.std.proofs.lemmas.List.{append-nil}
use Rattle.driver_core.specs.declared.state.event.Event.TheVariants.{Command}
use Rattle.driver_core.specs.declared.state.event.Inputs.{Inputs}
use Rattle.driver_core.specs.declared.state.refusal.Refusal.{Refusal}
use Rattle.driver_core.specs.declared.state.refusal.Refusal.TheVariants.{Denied, Full, NoRoom}
use Rattle.driver_core.specs.declared.state.replies.Message.{Message}
use Rattle.driver_core.specs.Commands.{heard, requested, asked, command, body_change, at_request}
use Rattle.driver_core.specs.Conduct.{conduct, drafted}
use Rattle.driver_core.specs.Deciding.{decision_by}
use Rattle.driver_core.specs.Directing.{has_room_for_sole}
use Rattle.driver_core.proofs.AskingLemmas.{sole_same}
use Rattle.driver_core.specs.Draft.{Draft, replied, replied_opening, refused, told}
use Rattle.driver_core.specs.Pairs.{is_within_pairs}
use Rattle.driver_core.specs.Publishing.{add_publication, has_place, has_room_for_publication, is_publishable, opening_of, publication_decision, publish, publish_by, publish_under, published, ready_for, refused_by_streams, session_of, with_publication}
use Rattle.driver_core.specs.Renewal.{renewed}
use Rattle.driver_core.specs.Requests.{PublicationRequest, AsksToPublish, publication_question, wanted_by}
use Rattle.driver_core.specs.State.{State, at_moment, has_number, ruled}
use Rattle.driver_core.specs.Unread.{dropping}
use Rattle.driver_core.specs.Verdicts.{verdict_on}
use Rattle.driver_laws.specs.GrantLaws.{IsRefusedOn, decided_on}
use Rattle.driver_laws.specs.PublishingLaws.{IsAllowed, IsPublished, IsPublishedExactly}
use Rattle.channel_uri.specs.Channel.{denotes}
use Rattle.client_registry.specs.declared.client.Client.{Client}
use Rattle.client_registry.specs.Clients.{touched}
use Rattle.command_codec.specs.declared.add_publication.AddPublication.{AddPublication}
use Rattle.command_codec.specs.declared.command.Body.TheVariants.{AddPublication as Publishes, AddExclusivePublication as PublishesExclusively}
use Rattle.policy_core.specs.declared.verdict.Verdict.{Verdict}
use Rattle.stream_registry.specs.declared.fault.StreamFault.{StreamFault}
use Rattle.stream_registry.specs.declared.pairs.Pair.{Pair}
use Rattle.stream_registry.specs.declared.wanted.Adding.{Adding}
use Rattle.stream_registry.specs.declared.wanted.Adding.TheVariants.{Join, Make}
use Rattle.stream_registry.specs.declared.wanted.Wanted.{Wanted}
use Rattle.stream_registry.specs.Adding.{adding_of}
use Rattle.driver_core.proofs.VerdictLemmas.{by_policy}
use Rattle.driver_core.proofs.PairLemmas.{principal_heard, prospects_by}
use Rattle.driver_laws.proofs.SubscribingLemmas.{found_number}
use Rattle.driver_laws.proofs.GrantLemmas.{asks_at, refused_change}
use Rattle.driver_laws.proofs.TurningLemmas.{by_draft, turns_to}

-- ---- a well-formed request comes to the policy

body_adds : (s : State) (client : Client) (correlation : ℕ) (fields : AddPublication) (exclusive : Bool) →
    body_change s client correlation (if exclusive then PublishesExclusively fields else Publishes fields)
    ≡ add_publication s client correlation fields exclusive
body_adds s client correlation fields true = refl
body_adds s client correlation fields false = refl

add_is_decided : (s : State) (request : PublicationRequest) → denotes request.fields.channel ≡ Ok request.channel →
    is_publishable request.channel ≡ true →
    add_publication s request.client request.correlation request.fields request.exclusive
    ≡ publish s request.client request.correlation (wanted_by request)
unfolding add_publication
add_is_decided s request denoted takes = rw (denoted, takes) refl

request_is_decided : (s : State) (now handle : ℕ) (bytes : List ℕ) (inputs : Inputs) (request : PublicationRequest) →
    AsksToPublish s handle bytes request →
    drafted s (Command now handle bytes) inputs
    ≡ publish (at_request s now handle) request.client request.correlation (wanted_by request)
unfolding drafted command asked requested at_moment
request_is_decided s now handle bytes inputs request asks =
    rw (asks.asks.command, eq-eqb handle handle refl, asks.asks.attached)
    (body_adds (at_request s now handle) request.client request.correlation request.fields request.exclusive
    ∙ add_is_decided (at_request s now handle) request asks.denotes_channel asks.takes_channel)

-- ---- the policy decides, then the lists, and then the room

publish_denies : (s : State) (client : Client) (correlation : ℕ) (wanted : Wanted) →
    (publication_decision s client wanted).verdict.allow ≡ false →
    publish s client correlation wanted
    ≡ refused s (publication_decision s client wanted ∷ []) client.number correlation
    (Denied (publication_decision s client wanted).verdict)
unfolding publish
publish_denies s client correlation wanted denies = rw denies refl

publish_goes_on : (s : State) (client : Client) (correlation : ℕ) (wanted : Wanted) (found : Result Adding StreamFault) →
    (publication_decision s client wanted).verdict.allow ≡ true → adding_of s.streams wanted ≡ found →
    publish s client correlation wanted ≡ publish_by s client correlation wanted found
unfolding publish
publish_goes_on s client correlation wanted found allows is = rw allows (ap (publish_by s client correlation wanted) is)

publish_is_full : (s : State) (client : Client) (correlation : ℕ) (wanted : Wanted) (adding : Adding) →
    has_room_for_publication s client.number wanted adding ≡ false →
    publish_under s client correlation wanted adding
    ≡ refused s (publication_decision s client wanted ∷ []) client.number correlation Full
unfolding publish_under
publish_is_full s client correlation wanted adding room = rw room refl

publish_lacks_place : (s : State) (client : Client) (correlation : ℕ) (wanted : Wanted) (adding : Adding) →
    has_room_for_publication s client.number wanted adding ≡ true → has_place s wanted adding ≡ false →
    publish_under s client correlation wanted adding
    ≡ refused s (publication_decision s client wanted ∷ []) client.number correlation NoRoom
unfolding publish_under
publish_lacks_place s client correlation wanted adding room placed = rw (room, placed) refl

publish_grants : (s : State) (client : Client) (correlation : ℕ) (wanted : Wanted) (adding : Adding) →
    has_room_for_publication s client.number wanted adding ≡ true → has_place s wanted adding ≡ true →
    publish_under s client correlation wanted adding ≡ published s client correlation wanted adding
unfolding publish_under
publish_grants s client correlation wanted adding room placed = rw (room, placed) refl

-- ---- what it decides by is as before

pub publication_verdict : (s : State) (now handle : ℕ) (request : PublicationRequest) →
    (publication_decision (at_request s now handle) request.client (wanted_by request)).verdict
    ≡ verdict_on s (publication_question request)
unfolding decision_by heard at_moment
publication_verdict s now handle request = refl

pub adding_is : (s : State) (now handle : ℕ) (wanted : Wanted) →
    adding_of (at_request s now handle).streams wanted ≡ adding_of s.streams wanted
unfolding heard at_moment
adding_is s now handle wanted = refl

pub place_is : (s : State) (now handle : ℕ) (wanted : Wanted) (adding : Adding) →
    has_place (at_request s now handle) wanted adding ≡ has_place s wanted adding
unfolding has_place heard at_moment
place_is s now handle wanted (Join source session) = refl
place_is s now handle wanted (Make session) = refl

opening_is : (s : State) (now handle : ℕ) (wanted : Wanted) (adding : Adding) →
    opening_of (at_request s now handle) wanted adding ≡ opening_of s wanted adding
unfolding opening_of heard at_moment
opening_is s now handle wanted (Join source session) = refl
opening_is s now handle wanted (Make session) = refl

pub room_is : (s : State) (now handle client : ℕ) (wanted : Wanted) (adding : Adding) →
    has_room_for_publication (at_request s now handle) client wanted adding
    ≡ has_room_for_publication s client wanted adding
unfolding has_number is_within_pairs with_publication heard at_moment touched
room_is s now handle client wanted adding =
    ap (λ (b : Bool). (has_number s && b) && is_within_pairs (with_publication (at_request s now handle) client wanted adding))
    (sole_same s now handle wanted adding)
    ∙ ap (λ (pairs : List Pair). (has_number s && has_room_for_sole s wanted adding) && nat_le (length pairs) 4096)
    (prospects_by (with_publication (at_request s now handle) client wanted adding) (with_publication s client wanted adding)
    refl refl refl refl (principal_heard s.clients.rows handle (max s.moment now)))

-- ---- what is told

decision_is : (s : State) (now handle : ℕ) (request : PublicationRequest) →
    publication_decision (at_request s now handle) request.client (wanted_by request)
    ≡ decided_on s (publication_question request)
unfolding decision_by heard at_moment
decision_is s now handle request = refl

refusal_change : (before s : State) (now handle : ℕ) (inputs : Inputs) (request : PublicationRequest) (refusal : Refusal) →
    request.client.number ≡ handle →
    IsRefusedOn before s now handle request.correlation inputs (publication_question request) refusal (
    dropping before (renewed before inputs (
    refused (at_request s now handle)
    (publication_decision (at_request s now handle) request.client (wanted_by request) ∷ [])
    request.client.number request.correlation refusal)))
refusal_change before s now handle inputs request refusal own =
    refused_change before s now handle request.correlation inputs request.client (publication_question request) _ refusal own
    (decision_is s now handle request)

denied_change : (before s : State) (now handle : ℕ) (inputs : Inputs) (request : PublicationRequest) →
    request.client.number ≡ handle →
    IsRefusedOn before s now handle request.correlation inputs (publication_question request)
    (Denied (verdict_on s (publication_question request))) (
    dropping before (renewed before inputs (
    refused (at_request s now handle)
    (publication_decision (at_request s now handle) request.client (wanted_by request) ∷ [])
    request.client.number request.correlation
    (Denied (publication_decision (at_request s now handle) request.client (wanted_by request)).verdict))))
unfolding decision_by heard at_moment
denied_change before s now handle inputs request own =
    refusal_change before s now handle inputs request (Denied (verdict_on s (publication_question request))) own

published_change : (before s : State) (now handle : ℕ) (inputs : Inputs) (request : PublicationRequest) (adding : Adding) →
    request.client.number ≡ handle →
    IsPublished before s now handle inputs request adding (
    dropping before (renewed before inputs (
    published (at_request s now handle) request.client request.correlation (wanted_by request) adding)))
unfolding dropping renewed published replied_opening replied told decision_by heard at_moment
published_change before s now handle inputs request adding own =
    let draft : Draft = published (at_request s now handle) request.client request.correlation (wanted_by request) adding in
    record {
      after_is = refl;
      turns = turns_to before inputs draft draft.after refl refl;
      told = rw own
          (ap (λ (images : List Message).
          record {
            client = handle;
            reply = ready_for (wanted_by request) request.correlation (s.last_number + 1) (session_of adding);
          }
          ∷ images)
          (append-nil _));
      decided = refl;
      opens = opening_is s now handle (wanted_by request) adding;
    }

-- ---- granted exactly

by_verdict : (before s : State) (now handle : ℕ) (inputs : Inputs) (request : PublicationRequest) →
    request.client.number ≡ handle →
    IsPublishedExactly before s now handle inputs request (
    dropping before (renewed before inputs
    (publish (at_request s now handle) request.client request.correlation (wanted_by request))))
by_verdict before s now handle inputs request own =
    let left = at_request s now handle in
    let wanted = wanted_by request in
    let word = ap (λ (v : Verdict). v.allow) (publication_verdict s now handle request) in
    let goes_on = λ (found : Result Adding StreamFault) (allows : IsAllowed s request) (is : adding_of s.streams wanted ≡ found).
    publish_goes_on left request.client request.correlation wanted found (word ∙ allows)
    (adding_is s now handle wanted ∙ is)
    in
    let room = λ (adding : Adding).
    room_is s now handle request.client.number wanted adding
    ∙ ap (λ (client : ℕ). has_room_for_publication s client wanted adding) own
    in
    record {
      by = by_policy s (publication_question request);
      granted = λ adding allows is roomy placed.
          rw (
            goes_on (Ok adding) allows is,
            publish_grants left request.client request.correlation wanted adding (room adding ∙ roomy)
                (place_is s now handle wanted adding ∙ placed),
          )
          (published_change before s now handle inputs request adding own);
      refused = λ fault allows is.
          rw (goes_on (Err fault) allows is) (refusal_change before s now handle inputs request (refused_by_streams fault) own);
      full = λ adding allows is lacks.
          rw (goes_on (Ok adding) allows is, publish_is_full left request.client request.correlation wanted adding (room adding ∙ lacks))
          (refusal_change before s now handle inputs request Full own);
      no_room = λ adding allows is roomy lacks.
          rw (
            goes_on (Ok adding) allows is,
            publish_lacks_place left request.client request.correlation wanted adding (room adding ∙ roomy)
                (place_is s now handle wanted adding ∙ lacks),
          )
          (refusal_change before s now handle inputs request NoRoom own);
      denied = λ denies.
          rw (publish_denies left request.client request.correlation wanted (word ∙ denies))
          (denied_change before s now handle inputs request own);
    }

-- a request that is granted comes to the publication
pub grants_is : (s : State) (now handle : ℕ) (bytes : List ℕ) (inputs : Inputs) (request : PublicationRequest) (adding : Adding) →
    AsksToPublish s handle bytes request → IsAllowed s request → adding_of s.streams (wanted_by request) ≡ Ok adding →
    has_room_for_publication s handle (wanted_by request) adding ≡ true → has_place s (wanted_by request) adding ≡ true →
    drafted s (Command now handle bytes) inputs
    ≡ published (at_request s now handle) request.client request.correlation (wanted_by request) adding
grants_is s now handle bytes inputs request adding asks allows is room placed =
    let left : State = at_request s now handle in
    let wanted : Wanted = wanted_by request in
    let own : request.client.number ≡ handle = found_number s.clients.rows handle request.client asks.asks.attached in
    request_is_decided s now handle bytes inputs request asks
    ∙ publish_goes_on left request.client request.correlation wanted (Ok adding)
    (ap (λ (v : Verdict). v.allow) (publication_verdict s now handle request) ∙ allows)
    (adding_is s now handle wanted ∙ is)
    ∙ publish_grants left request.client request.correlation wanted adding
    (room_is s now handle request.client.number wanted adding
    ∙ ap (λ (client : ℕ). has_room_for_publication s client wanted adding) own ∙ room)
    (place_is s now handle wanted adding ∙ placed)

-- the same client and channel, by the policy as it is at the moment of the event
publishes_at : (s : State) (now handle : ℕ) (bytes : List ℕ) (request : PublicationRequest) →
    AsksToPublish s handle bytes request → AsksToPublish (ruled s now) handle bytes request
publishes_at s now handle bytes request asks = record {
  asks = asks_at s now handle bytes request.client request.correlation _ asks.asks;
  denotes_channel = asks.denotes_channel;
  takes_channel = asks.takes_channel;
}

pub published_exactly : (s : State) (now handle : ℕ) (bytes : List ℕ) (inputs : Inputs) (request : PublicationRequest) →
    AsksToPublish s handle bytes request →
    IsPublishedExactly s (ruled s now) now handle inputs request (conduct s (Command now handle bytes) inputs)
published_exactly s now handle bytes inputs request asks =
    by_draft (IsPublishedExactly s (ruled s now) now handle inputs request) s (Command now handle bytes) inputs
    (publish (at_request (ruled s now) now handle) request.client request.correlation (wanted_by request))
    (request_is_decided (ruled s now) now handle bytes inputs request (publishes_at s now handle bytes request asks))
    (by_verdict s (ruled s now) now handle inputs request (found_number s.clients.rows handle request.client asks.asks.attached))
