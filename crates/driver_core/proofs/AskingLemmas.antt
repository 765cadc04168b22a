-- What a client's command tells, and what is decided on it, is the same before the client was heard of.
use Rattle.std.proofs.Common.{◌≡◌, ℕ, ℤ, max, Bool, true, false, not, ◌&&◌, nat_le, List, length, [], ◌∷◌, Option, Some, None, Result, Ok, Err, if◌then◌else◌, refl, ap, ◌∙◌}
use Rattle.driver_core.specs.declared.state.refusal.Refusal.{Refusal}
use Rattle.driver_core.specs.declared.state.refusal.Refusal.TheVariants.{UnknownPublication, UnknownCounter, Denied, Full}
use Rattle.driver_core.specs.declared.state.replies.Reply.{Reply}
use Rattle.driver_core.specs.Closing.{keep_alive}
use Rattle.driver_core.specs.Commands.{at_request, body_change, heard, keeps_pairs, requested}
use Rattle.driver_core.specs.Counting.{add_counter, counted, counter_decision, has_room_for_counter, set_counter, valued, remove_counter, uncounted}
use Rattle.driver_core.specs.Deciding.{decision_by}
use Rattle.driver_core.specs.Directing.{add_destination, directed, directed_as, directing_by, directing_of, directing_on, has_room_for_sole, recalled, recalled_as, recalling_by, recalling_of, recalling_on, remove_destination, log_with, own_log, target_address, target_at, target_of, target_on}
use Rattle.driver_core.specs.declared.rules.directing.Directed.{Directed}
use Rattle.driver_core.specs.declared.rules.directing.Target.{Target}
use Rattle.driver_core.specs.Draft.{Draft, refused, replied, told}
use Rattle.driver_core.specs.LogRequests.{registration_at}
use Rattle.driver_core.specs.Pairs.{is_within_pairs}
use Rattle.driver_core.specs.declared.rules.publishing.Granted.{Granted}
use Rattle.driver_core.specs.declared.state.refused.Refused.{Refused}
use Rattle.driver_core.specs.Publishing.{granting_of, has_place, has_room_for_publication, publication_decision, publishing_by, publishing_of, with_publication}
use Rattle.driver_core.specs.Refusing.{decisions_by, denied}
use Rattle.driver_core.specs.State.{State, at_moment, has_number}
use Rattle.driver_core.specs.Subscribing.{has_room_for_subscription, subscribing_of, with_subscription}
use Rattle.driver_core.specs.Report.{report_of}
use Rattle.driver_core.specs.Unpublishing.{remove_publication, unpublished}
use Rattle.driver_core.proofs.PairLemmas.{principal_heard, prospects_by}
use Rattle.channel_uri.specs.declared.address.Address.{Address}
use Rattle.channel_uri.specs.declared.error.UriError.{UriError}
use Rattle.channel_uri.specs.Channel.{Shape, denotes}
use Rattle.client_registry.specs.declared.client.Client.{Client}
use Rattle.client_registry.specs.Clients.{touched}
use Rattle.command_codec.specs.declared.add_counter.AddCounter.{AddCounter}
use Rattle.command_codec.specs.declared.command.Body.{Body}
use Rattle.command_codec.specs.declared.command.Body.TheVariants.{AddPublication as Publishes, AddExclusivePublication as PublishesExclusively, RemovePublication as Unpublishes, AddSubscription as Adds, RemoveSubscription as Removes, ClientKeepalive as Keeps, AddDestination as Directs, RemoveDestination as Recalls, AddCounter as AddsCounter, RemoveCounter as RemovesCounter, ClientClose as Closes, TerminateDriver as Terminates, SetCounter as Sets}
use Rattle.command_codec.specs.declared.command.Command.{Command}
use Rattle.command_codec.specs.declared.destination.Destination.{Destination}
use Rattle.command_codec.specs.declared.removal.Removal.{Removal}
use Rattle.command_codec.specs.declared.set_counter.SetCounter.{SetCounter}
use Rattle.counters.specs.Counters.{has}
use Rattle.policy_core.specs.declared.decision.Decision.{Decision}
use Rattle.stream_registry.specs.declared.fault.StreamFault.{StreamFault}
use Rattle.stream_registry.specs.declared.pairs.Pair.{Pair}
use Rattle.stream_registry.specs.declared.row.Registration.{Registration}
use Rattle.stream_registry.specs.declared.wanted.Adding.{Adding}
use Rattle.stream_registry.specs.declared.wanted.Adding.TheVariants.{Join, Make}
use Rattle.stream_registry.specs.declared.wanted.Wanted.{Wanted}
use Rattle.stream_registry.specs.Adding.{adding_of, has_room_for_subscription as has_room_in}
use Rattle.stream_registry.specs.Leaving.{has_registration}

-- two drafts tell the same
abbrev pub TellTheSame : Draft → Draft → Type 0
TellTheSame draft other = report_of draft ≡ report_of other

either_same : (b : Bool) (draft other draft_too other_too : Draft) → TellTheSame draft draft_too → TellTheSame other other_too →
    TellTheSame (if b then draft else other) (if b then draft_too else other_too)
either_same true draft other draft_too other_too same others = same
either_same false draft other draft_too other_too same others = others

refused_same : (s t : State) (decisions : List Decision) (client correlation : ℕ) (refusal : Refusal) →
    TellTheSame (refused s decisions client correlation refusal) (refused t decisions client correlation refusal)
unfolding refused replied told
refused_same s t decisions client correlation refusal = refl

replied_same : (s t : State) (decisions : List Decision) (client : ℕ) (reply : Reply) →
    TellTheSame (replied s decisions client reply) (replied t decisions client reply)
unfolding replied told
replied_same s t decisions client reply = refl

-- ---- destinations

log_same : (s : State) (now handle : ℕ) (found : Option Registration) →
    log_with (at_request s now handle) found ≡ log_with s found
unfolding heard at_moment
log_same s now handle None = refl
log_same s now handle (Some registration) = refl

own_log_same : (s : State) (now handle client number : ℕ) →
    own_log (at_request s now handle) client number ≡ own_log s client number
unfolding own_log heard at_moment
own_log_same s now handle client number = log_same s now handle (registration_at s.streams.registrations client number)

target_at_same : (s : State) (now handle client number : ℕ) (address : Option Address) →
    target_at (at_request s now handle) client number address ≡ target_at s client number address
target_at_same s now handle client number None = refl
target_at_same s now handle client number (Some address) = ap (target_on address) (own_log_same s now handle client number)

-- the target is the same before the client was heard of
pub target_asked : (s : State) (now handle client number : ℕ) (channel : Shape) →
    target_of (at_request s now handle) client number channel ≡ target_of s client number channel
unfolding target_of
target_asked s now handle client number channel = target_at_same s now handle client number (target_address channel)

directing_by_same : (s : State) (now handle : ℕ) (client : Client) (channel : Shape) (found : Result Target Refused) →
    directing_by (at_request s now handle) client channel found ≡ directing_by s client channel found
unfolding decision_by heard at_moment
directing_by_same s now handle client channel (Ok target) = refl
directing_by_same s now handle client channel (Err why) = refl

directing_on_same : (s : State) (now handle : ℕ) (client : Client) (number : ℕ) (channel : Result Shape UriError) →
    directing_on (at_request s now handle) client number channel ≡ directing_on s client number channel
directing_on_same s now handle client number (Ok channel) =
    ap (directing_by (at_request s now handle) client channel) (target_asked s now handle client.number number channel)
    ∙ directing_by_same s now handle client channel (target_of s client.number number channel)
directing_on_same s now handle client number (Err why) = refl

directed_same : (s : State) (now handle : ℕ) (client : Client) (correlation : ℕ) (found : Result Directed Refused) →
    TellTheSame (directed_as (at_request s now handle) client correlation found) (directed_as s client correlation found)
unfolding directed replied told
directed_same s now handle client correlation (Ok granted) = refl
directed_same s now handle client correlation (Err why) =
    refused_same (at_request s now handle) s (decisions_by why.decision) client.number correlation why.refusal

destination_added : (s : State) (now handle : ℕ) (client : Client) (correlation : ℕ) (fields : Destination) →
    TellTheSame (add_destination (at_request s now handle) client correlation fields)
    (add_destination s client correlation fields)
unfolding add_destination directing_of
destination_added s now handle client correlation fields =
    ap (λ (found : Result Directed Refused). report_of (directed_as (at_request s now handle) client correlation found))
    (directing_on_same s now handle client fields.registration (denotes fields.channel))
    ∙ directed_same s now handle client correlation (directing_on s client fields.registration (denotes fields.channel))

recalling_by_same : (s : State) (now handle : ℕ) (found : Result Target Refused) →
    recalling_by (at_request s now handle) found ≡ recalling_by s found
unfolding heard at_moment
recalling_by_same s now handle (Ok target) = refl
recalling_by_same s now handle (Err why) = refl

recalling_on_same : (s : State) (now handle client number : ℕ) (channel : Result Shape UriError) →
    recalling_on (at_request s now handle) client number channel ≡ recalling_on s client number channel
recalling_on_same s now handle client number (Ok channel) =
    ap (recalling_by (at_request s now handle)) (target_asked s now handle client number channel)
    ∙ recalling_by_same s now handle (target_of s client number channel)
recalling_on_same s now handle client number (Err why) = refl

recalled_same : (s : State) (now handle : ℕ) (client : Client) (correlation : ℕ) (found : Result Target Refused) →
    TellTheSame (recalled_as (at_request s now handle) client correlation found) (recalled_as s client correlation found)
unfolding recalled replied told
recalled_same s now handle client correlation (Ok target) = refl
recalled_same s now handle client correlation (Err why) =
    refused_same (at_request s now handle) s (decisions_by why.decision) client.number correlation why.refusal

destination_removed : (s : State) (now handle : ℕ) (client : Client) (correlation : ℕ) (fields : Destination) →
    TellTheSame (remove_destination (at_request s now handle) client correlation fields)
    (remove_destination s client correlation fields)
unfolding remove_destination recalling_of
destination_removed s now handle client correlation fields =
    ap (λ (found : Result Target Refused). report_of (recalled_as (at_request s now handle) client correlation found))
    (recalling_on_same s now handle client.number fields.registration (denotes fields.channel))
    ∙ recalled_same s now handle client correlation
    (recalling_on s client.number fields.registration (denotes fields.channel))

-- ---- counters

counted_same : (s : State) (now handle : ℕ) (client : Client) (correlation : ℕ) (fields : AddCounter) →
    TellTheSame (counted (at_request s now handle) client correlation fields) (counted s client correlation fields)
unfolding counted decision_by heard at_moment replied told
counted_same s now handle client correlation fields = refl

counter_added : (s : State) (now handle : ℕ) (client : Client) (correlation : ℕ) (fields : AddCounter) →
    TellTheSame (add_counter (at_request s now handle) client correlation fields) (add_counter s client correlation fields)
unfolding add_counter decision_by heard at_moment
counter_added s now handle client correlation fields =
    let decision = counter_decision s client fields in
    either_same (not decision.verdict.allow) _ _ _ _
    (refused_same (at_request s now handle) s (decision ∷ []) client.number correlation (Denied decision.verdict))
    (either_same (has_room_for_counter s) _ _ _ _
    (counted_same s now handle client correlation fields)
    (refused_same (at_request s now handle) s (decision ∷ []) client.number correlation Full))

counter_set : (s : State) (now handle : ℕ) (client : Client) (correlation : ℕ) (fields : SetCounter) →
    TellTheSame (set_counter (at_request s now handle) client correlation fields) (set_counter s client correlation fields)
unfolding set_counter valued heard at_moment
counter_set s now handle client correlation fields =
    either_same (has s.counters client.number fields.registration) _ _ _ _
    (replied_same _ _ [] client.number _)
    (refused_same (at_request s now handle) s [] client.number correlation UnknownCounter)

uncounted_same : (s : State) (now handle : ℕ) (client : Client) (correlation number : ℕ) →
    TellTheSame (uncounted (at_request s now handle) client correlation number) (uncounted s client correlation number)
unfolding uncounted told
uncounted_same s now handle client correlation number = refl

counter_removed : (s : State) (now handle : ℕ) (client : Client) (correlation : ℕ) (fields : Removal) →
    TellTheSame (remove_counter (at_request s now handle) client correlation fields)
    (remove_counter s client correlation fields)
unfolding remove_counter heard at_moment
counter_removed s now handle client correlation fields =
    either_same (has s.counters client.number fields.registration) _ _ _ _
    (uncounted_same s now handle client correlation fields.registration)
    (refused_same (at_request s now handle) s [] client.number correlation UnknownCounter)

-- ---- removals

publication_removed : (s : State) (now handle : ℕ) (client : Client) (correlation : ℕ) (fields : Removal) →
    TellTheSame (remove_publication (at_request s now handle) client correlation fields)
    (remove_publication s client correlation fields)
unfolding remove_publication unpublished heard at_moment
publication_removed s now handle client correlation fields =
    either_same (has_registration s.streams client.number fields.registration) _ _ _ _
    (replied_same _ _ [] client.number _)
    (refused_same (at_request s now handle) s [] client.number correlation UnknownPublication)

-- ---- a client that keeps alive

kept_alive : (s t : State) → TellTheSame (keep_alive s) (keep_alive t)
unfolding keep_alive told
kept_alive s t = refl

-- ---- all of them

body_same : (s : State) (now handle : ℕ) (client : Client) (correlation : ℕ) (body : Body) → keeps_pairs body ≡ true →
    TellTheSame (body_change (at_request s now handle) client correlation body) (body_change s client correlation body)
body_same s now handle client correlation (Unpublishes fields) keeps = publication_removed s now handle client correlation fields
body_same s now handle client correlation Keeps keeps = kept_alive (at_request s now handle) s
body_same s now handle client correlation (Directs fields) keeps = destination_added s now handle client correlation fields
body_same s now handle client correlation (Recalls fields) keeps = destination_removed s now handle client correlation fields
body_same s now handle client correlation (AddsCounter fields) keeps = counter_added s now handle client correlation fields
body_same s now handle client correlation (RemovesCounter fields) keeps = counter_removed s now handle client correlation fields
body_same s now handle client correlation (Sets fields) keeps = counter_set s now handle client correlation fields
body_same s now handle client correlation (Publishes fields) keeps = absurd cc
body_same s now handle client correlation (PublishesExclusively fields) keeps = absurd cc
body_same s now handle client correlation (Adds fields) keeps = absurd cc
body_same s now handle client correlation (Removes fields) keeps = absurd cc
body_same s now handle client correlation Closes keeps = absurd cc
body_same s now handle client correlation (Terminates fields) keeps = absurd cc

-- a command that changes no pair tells what it told before the client was heard of
pub quiet_same : (s : State) (now handle : ℕ) (client : Client) (command : Command) → keeps_pairs command.body ≡ true →
    TellTheSame (requested (at_request s now handle) client command) (requested s client command)
unfolding requested
quiet_same s now handle client command keeps = body_same s now handle client command.correlation command.body keeps

-- ---- what is decided is the same before the client was heard of

room_for_subscription : (s : State) (now handle client : ℕ) (channel : Shape) (stream : ℤ) →
    has_room_for_subscription (at_request s now handle) client channel stream
    ≡ has_room_for_subscription s client channel stream
unfolding has_room_for_subscription has_number is_within_pairs with_subscription heard at_moment touched
room_for_subscription s now handle client channel stream =
    ap (λ (pairs : List Pair). has_number s && has_room_in s.streams && nat_le (length pairs) 4096)
    (prospects_by (with_subscription (at_request s now handle) client channel stream) (with_subscription s client channel stream)
    refl refl refl refl (principal_heard s.clients.rows handle (max s.moment now)))

pub subscribing_same : (s : State) (now handle : ℕ) (client : Client) (channel : Shape) (stream : ℤ) →
    subscribing_of (at_request s now handle) client channel stream ≡ subscribing_of s client channel stream
unfolding subscribing_of decision_by heard at_moment
subscribing_same s now handle client channel stream =
    rw (room_for_subscription s now handle client.number channel stream) refl

pub sole_same : (s : State) (now handle : ℕ) (wanted : Wanted) (adding : Adding) →
    has_room_for_sole (at_request s now handle) wanted adding ≡ has_room_for_sole s wanted adding
unfolding has_room_for_sole heard at_moment
sole_same s now handle wanted (Join source session) = refl
sole_same s now handle wanted (Make session) = refl

room_for_publication : (s : State) (now handle client : ℕ) (wanted : Wanted) (adding : Adding) →
    has_room_for_publication (at_request s now handle) client wanted adding
    ≡ has_room_for_publication s client wanted adding
unfolding has_number is_within_pairs with_publication heard at_moment touched
room_for_publication s now handle client wanted adding =
    ap (λ (b : Bool). (has_number s && b) && is_within_pairs (with_publication (at_request s now handle) client wanted adding))
    (sole_same s now handle wanted adding)
    ∙ ap (λ (pairs : List Pair). (has_number s && has_room_for_sole s wanted adding) && nat_le (length pairs) 4096)
    (prospects_by (with_publication (at_request s now handle) client wanted adding) (with_publication s client wanted adding)
    refl refl refl refl (principal_heard s.clients.rows handle (max s.moment now)))

place_same : (s : State) (now handle : ℕ) (wanted : Wanted) (adding : Adding) →
    has_place (at_request s now handle) wanted adding ≡ has_place s wanted adding
unfolding has_place heard at_moment
place_same s now handle wanted (Join source session) = refl
place_same s now handle wanted (Make session) = refl

granting_same : (s : State) (now handle : ℕ) (client : Client) (wanted : Wanted) (adding : Adding) →
    granting_of (at_request s now handle) client wanted adding ≡ granting_of s client wanted adding
unfolding decision_by heard at_moment
granting_same s now handle client wanted adding =
    rw (room_for_publication s now handle client.number wanted adding, place_same s now handle wanted adding) refl

found_same : (s : State) (now handle : ℕ) (client : Client) (wanted : Wanted) (found : Result Adding StreamFault) →
    publishing_by (at_request s now handle) client wanted found ≡ publishing_by s client wanted found
unfolding decision_by heard at_moment
found_same s now handle client wanted (Err why) = refl
found_same s now handle client wanted (Ok adding) = granting_same s now handle client wanted adding

pub publishing_same : (s : State) (now handle : ℕ) (client : Client) (wanted : Wanted) →
    publishing_of (at_request s now handle) client wanted ≡ publishing_of s client wanted
unfolding publishing_of decision_by heard at_moment
publishing_same s now handle client wanted =
    ap (λ (decided : Result Granted Refused).
    if not (publication_decision s client wanted).verdict.allow
    then Err (denied (publication_decision s client wanted))
    else decided) (found_same s now handle client wanted (adding_of s.streams wanted))
