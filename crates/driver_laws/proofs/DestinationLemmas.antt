-- Destinations are named exactly where the policy in force allows it.
use Rattle.std.proofs.Common.{◌≡◌, ℕ, true, false, List, [], ◌∷◌, Ok, refl, ap, ◌∙◌}
use Rattle.std.proofs.lemmas.Bool.{eq-eqb}
use Rattle.std.proofs.lemmas.List.{append-nil}
use Rattle.driver_core.specs.declared.state.event.Event.TheVariants.{Command}
use Rattle.driver_core.specs.declared.state.event.Inputs.{Inputs}
use Rattle.driver_core.specs.declared.state.refusal.Refusal.{Refusal}
use Rattle.driver_core.specs.declared.state.refusal.Refusal.TheVariants.{Conflict, Denied, Full}
use Rattle.driver_core.specs.declared.state.replies.Message.{Message}
use Rattle.driver_core.specs.declared.state.replies.Reply.TheVariants.{OperationSuccess}
use Rattle.driver_core.specs.Commands.{asked, at_request, command, heard, requested}
use Rattle.driver_core.specs.Conduct.{conduct, drafted}
use Rattle.driver_core.specs.Deciding.{decision_by}
use Rattle.driver_core.specs.Directing.{add_destination, added_on, destination_decision, directed, directed_as, directing_by, directing_of, own_log, target_of, with_destination}
use Rattle.driver_core.specs.Draft.{Draft, refused, replied, told}
use Rattle.driver_core.specs.Pairs.{pairs_of}
use Rattle.driver_core.specs.Renewal.{renewed}
use Rattle.driver_core.specs.Requests.{AsksToDirect, DestinationRequest, destination_question}
use Rattle.driver_core.specs.State.{State, at_moment, ruled}
use Rattle.driver_core.specs.Unread.{dropping}
use Rattle.driver_core.specs.Verdicts.{verdict_on}
use Rattle.driver_laws.specs.DestinationLaws.{IsDirected, IsDirectedExactly}
use Rattle.driver_laws.specs.GrantLaws.{IsRefusedOn, decided_on}
use Rattle.destinations.specs.Destinations.{adding as naming, has, has_room}
use Rattle.policy_core.specs.declared.decision.Decision.{Decision}
use Rattle.policy_core.specs.declared.verdict.Verdict.{Verdict}
use Rattle.driver_core.proofs.EventCases.{target_heard}
use Rattle.driver_core.proofs.PairLemmas.{pairs_by, pairs_heard}
use Rattle.driver_core.proofs.VerdictLemmas.{by_policy}
use Rattle.driver_laws.proofs.GrantLemmas.{asks_at, refused_change}
use Rattle.driver_laws.proofs.TurningLemmas.{by_draft, turns_to}
use Rattle.driver_laws.proofs.SubscribingLemmas.{found_number}

-- ---- the request is decided on its target

asked_on : (s : State) (now handle : ℕ) (bytes : List ℕ) (inputs : Inputs) (request : DestinationRequest) →
    AsksToDirect s handle bytes request →
    drafted s (Command now handle bytes) inputs
    ≡ add_destination (at_request s now handle) request.client request.correlation request.fields
unfolding drafted command asked requested at_moment
asked_on s now handle bytes inputs request asks =
    rw (asks.asks.command, eq-eqb handle handle refl, asks.asks.attached) refl

targets_stay : (s : State) (now : ℕ) (request : DestinationRequest) (handle : ℕ) (bytes : List ℕ) →
    AsksToDirect s handle bytes request → AsksToDirect (at_moment s now) handle bytes request
unfolding at_moment target_of own_log
targets_stay s now request handle bytes asks = record {
  asks = record { command = asks.asks.command; attached = asks.asks.attached };
  denotes_channel = asks.denotes_channel;
  names_target = asks.names_target;
}

on_target : (s : State) (handle : ℕ) (bytes : List ℕ) (request : DestinationRequest) → AsksToDirect s handle bytes request →
    add_destination (heard s handle) request.client request.correlation request.fields
    ≡ directed_as (heard s handle) request.client request.correlation
    (directing_by (heard s handle) request.client request.channel (Ok request.target))
unfolding add_destination directing_of
on_target s handle bytes request asks =
    rw (
      asks.denotes_channel,
      target_heard s handle request.client.number request.fields.registration request.channel,
      asks.names_target,
    )
    refl

request_is_decided : (s : State) (now handle : ℕ) (bytes : List ℕ) (inputs : Inputs) (request : DestinationRequest) →
    AsksToDirect s handle bytes request →
    drafted s (Command now handle bytes) inputs
    ≡ directed_as (at_request s now handle) request.client request.correlation
    (directing_by (at_request s now handle) request.client request.channel (Ok request.target))
request_is_decided s now handle bytes inputs request asks =
    asked_on s now handle bytes inputs request asks
    ∙ on_target (at_moment s now) handle bytes request (targets_stay s now request handle bytes asks)

-- ---- the policy decides, and then the table

abbrev decision_on : State → DestinationRequest → Decision
decision_on s request = destination_decision s request.client request.channel request.target

abbrev directs : State → DestinationRequest → Draft
directs s request =
    directed_as s request.client request.correlation (directing_by s request.client request.channel (Ok request.target))

abbrev refuses : State → DestinationRequest → Refusal → Draft
refuses s request refusal = refused s (decision_on s request ∷ []) request.client.number request.correlation refusal

abbrev grants : State → DestinationRequest → Draft
grants s request =
    directed s request.client request.correlation
    (record { decision = decision_on s request; target = request.target; channel = request.channel })

directing_denies : (s : State) (request : DestinationRequest) → (decision_on s request).verdict.allow ≡ false →
    directs s request ≡ refuses s request (Denied (decision_on s request).verdict)
directing_denies s request denies = rw denies refl

other_conflicts : (s : State) (request : DestinationRequest) → (decision_on s request).verdict.allow ≡ true →
    request.target.manual ≡ false → directs s request ≡ refuses s request Conflict
other_conflicts s request allows manual = rw (allows, manual) refl

table_decides : (s : State) (request : DestinationRequest) → (decision_on s request).verdict.allow ≡ true →
    request.target.manual ≡ true →
    directs s request
    ≡ directed_as s request.client request.correlation
    (added_on (decision_on s request) request.target request.channel
    (naming s.destinations request.target.source request.target.address))
table_decides s request allows manual = rw (allows, manual) refl

known_conflicts : (s : State) (request : DestinationRequest) → (decision_on s request).verdict.allow ≡ true →
    request.target.manual ≡ true → has s.destinations.rows request.target.source request.target.address ≡ true →
    directs s request ≡ refuses s request Conflict
unfolding naming
known_conflicts s request allows manual known = table_decides s request allows manual ∙ rw known refl

full_refuses : (s : State) (request : DestinationRequest) → (decision_on s request).verdict.allow ≡ true →
    request.target.manual ≡ true → has s.destinations.rows request.target.source request.target.address ≡ false →
    has_room s.destinations request.target.source ≡ false → directs s request ≡ refuses s request Full
unfolding naming
full_refuses s request allows manual new room = table_decides s request allows manual ∙ rw (new, room) refl

directing_grants : (s : State) (request : DestinationRequest) → (decision_on s request).verdict.allow ≡ true →
    request.target.manual ≡ true → has s.destinations.rows request.target.source request.target.address ≡ false →
    has_room s.destinations request.target.source ≡ true → directs s request ≡ grants s request
unfolding naming
directing_grants s request allows manual new room = table_decides s request allows manual ∙ rw (new, room) refl

-- ---- no pair is by a destination

directed_pairs : (s : State) (now handle : ℕ) (request : DestinationRequest) →
    pairs_of (grants (at_request s now handle) request).after ≡ pairs_of s
unfolding directed with_destination replied told heard at_moment
directed_pairs s now handle request =
    pairs_by (grants (at_request s now handle) request).after (at_request s now handle) refl refl refl (λ n. refl)
    ∙ pairs_heard s now handle

-- ---- granted exactly

directed_change : (before s : State) (now handle : ℕ) (inputs : Inputs) (request : DestinationRequest) →
    request.client.number ≡ handle →
    IsDirected before s now handle inputs request (
    dropping before (renewed before inputs (grants (at_request s now handle) request)))
unfolding dropping renewed directed with_destination decision_by replied told heard at_moment
directed_change before s now handle inputs request own =
    let draft : Draft = grants (at_request s now handle) request in
    let done : Message = record { client = handle; reply = OperationSuccess request.correlation } in
    record {
      after_is = refl;
      turns = turns_to before inputs draft s refl (directed_pairs s now handle request);
      told = rw own (ap (λ (others : List Message). done ∷ others) (append-nil _));
      decided = refl;
    }

verdict_is : (s : State) (now handle : ℕ) (request : DestinationRequest) →
    (decision_on (at_request s now handle) request).verdict ≡ verdict_on s (destination_question request)
unfolding decision_by heard at_moment
verdict_is s now handle request = refl

decision_is : (s : State) (now handle : ℕ) (request : DestinationRequest) →
    decision_on (at_request s now handle) request ≡ decided_on s (destination_question request)
unfolding decision_by heard at_moment
decision_is s now handle request = refl

destinations_heard : (s : State) (now handle : ℕ) → (at_request s now handle).destinations ≡ s.destinations
unfolding heard at_moment
destinations_heard s now handle = refl

refusal_change : (before s : State) (now handle : ℕ) (inputs : Inputs) (request : DestinationRequest) (refusal : Refusal) →
    request.client.number ≡ handle →
    IsRefusedOn before s now handle request.correlation inputs (destination_question request) refusal (
    dropping before (renewed before inputs (refuses (at_request s now handle) request refusal)))
refusal_change before s now handle inputs request refusal own =
    refused_change before s now handle request.correlation inputs request.client (destination_question request) _ refusal own
    (decision_is s now handle request)

denial_change : (before s : State) (now handle : ℕ) (inputs : Inputs) (request : DestinationRequest) →
    request.client.number ≡ handle →
    IsRefusedOn before s now handle request.correlation inputs (destination_question request)
    (Denied (verdict_on s (destination_question request))) (
    dropping before (renewed before inputs
    (refuses (at_request s now handle) request (Denied (decision_on (at_request s now handle) request).verdict))))
unfolding decision_by heard at_moment
denial_change before s now handle inputs request own =
    refusal_change before s now handle inputs request (Denied (verdict_on s (destination_question request))) own

by_verdict : (before s : State) (now handle : ℕ) (inputs : Inputs) (request : DestinationRequest) →
    request.client.number ≡ handle →
    IsDirectedExactly before s now handle inputs request (
    dropping before (renewed before inputs (directs (at_request s now handle) request)))
unfolding heard at_moment
by_verdict before s now handle inputs request own =
    let left : State = at_request s now handle in
    let word = ap (λ (v : Verdict). v.allow) (verdict_is s now handle request) in
    record {
      by = by_policy s (destination_question request);
      granted = λ allows manual new room.
          rw (directing_grants left request (word ∙ allows) manual new room)
          (directed_change before s now handle inputs request own);
      not_by_hand = λ allows manual.
          rw (other_conflicts left request (word ∙ allows) manual)
          (refusal_change before s now handle inputs request Conflict own);
      known = λ allows manual there.
          rw (known_conflicts left request (word ∙ allows) manual there)
          (refusal_change before s now handle inputs request Conflict own);
      full = λ allows manual new room.
          rw (full_refuses left request (word ∙ allows) manual new room)
          (refusal_change before s now handle inputs request Full own);
      denied = λ denies.
          rw (directing_denies left request (word ∙ denies)) (denial_change before s now handle inputs request own);
    }

-- the same client and channel, by the policy as it is at the moment of the event
directs_at : (s : State) (now handle : ℕ) (bytes : List ℕ) (request : DestinationRequest) →
    AsksToDirect s handle bytes request → AsksToDirect (ruled s now) handle bytes request
unfolding ruled target_of own_log
directs_at s now handle bytes request asks = record {
  asks = asks_at s now handle bytes request.client request.correlation _ asks.asks;
  denotes_channel = asks.denotes_channel;
  names_target = asks.names_target;
}

pub directed_exactly : (s : State) (now handle : ℕ) (bytes : List ℕ) (inputs : Inputs)
    (request : DestinationRequest) → AsksToDirect s handle bytes request →
    IsDirectedExactly s (ruled s now) now handle inputs request (conduct s (Command now handle bytes) inputs)
directed_exactly s now handle bytes inputs request asks =
    by_draft (IsDirectedExactly s (ruled s now) now handle inputs request) s (Command now handle bytes) inputs
    (directs (at_request (ruled s now) now handle) request)
    (request_is_decided (ruled s now) now handle bytes inputs request (directs_at s now handle bytes request asks))
    (by_verdict s (ruled s now) now handle inputs request
    (found_number s.clients.rows handle request.client asks.asks.attached))
