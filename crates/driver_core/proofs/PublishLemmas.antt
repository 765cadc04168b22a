-- A publication is made or refused by what is decided on it.
use Rattle.std.proofs.Common.{◌≡◌, ℕ, Bool, true, false, [], Result, Ok, Err, refl, subst, ◌∙◌}
use Rattle.driver_core.specs.declared.rules.publishing.Granted.{Granted}
use Rattle.driver_core.specs.declared.state.refused.Refused.{Refused}
use Rattle.driver_core.specs.Draft.{Draft, refused}
use Rattle.driver_core.specs.Publishing.{add_publication, granting_of, has_place, has_room_for_publication, publication_decision, is_publishable, publish, publish_by, publish_on, publish_under, published, publishing_by, publishing_of}
use Rattle.driver_core.specs.declared.state.refusal.Refusal.TheVariants.{Full, NoRoom, InvalidChannel}
use Rattle.driver_core.specs.Refusing.{denied, on, refused_by}
use Rattle.driver_core.specs.State.{State}
use Rattle.client_registry.specs.declared.client.Client.{Client}
use Rattle.channel_uri.specs.declared.error.UriError.{UriError}
use Rattle.channel_uri.specs.Channel.{Shape, denotes}
use Rattle.command_codec.specs.declared.add_publication.AddPublication.{AddPublication}
use Rattle.stream_registry.specs.declared.fault.StreamFault.{StreamFault}
use Rattle.stream_registry.specs.declared.wanted.Adding.{Adding}
use Rattle.stream_registry.specs.declared.wanted.Wanted.{Wanted}
use Rattle.stream_registry.specs.Adding.{adding_of}

abbrev pub publish_as : State → Client → ℕ → Wanted → Result Granted Refused → Draft
publish_as s client correlation wanted (Ok granted) = published s client correlation wanted granted.adding
publish_as s client correlation wanted (Err why) = refused_by s client.number correlation why

under_as : (s : State) (client : Client) (correlation : ℕ) (wanted : Wanted) (adding : Adding) (room place : Bool) →
    has_room_for_publication s client.number wanted adding ≡ room → has_place s wanted adding ≡ place →
    publish_under s client correlation wanted adding
    ≡ publish_as s client correlation wanted (granting_of s client wanted adding)
unfolding publish_under
under_as s client correlation wanted adding true true room place = rw (room, place) refl
under_as s client correlation wanted adding true false room place = rw (room, place) refl
under_as s client correlation wanted adding false place room is = rw room refl

by_as : (s : State) (client : Client) (correlation : ℕ) (wanted : Wanted) (found : Result Adding StreamFault) →
    publish_by s client correlation wanted found
    ≡ publish_as s client correlation wanted (publishing_by s client wanted found)
by_as s client correlation wanted (Err why) = refl
by_as s client correlation wanted (Ok adding) = under_as s client correlation wanted adding _ _ refl refl

allowed_as : (s : State) (client : Client) (correlation : ℕ) (wanted : Wanted) (allow : Bool) →
    (publication_decision s client wanted).verdict.allow ≡ allow →
    publish s client correlation wanted ≡ publish_as s client correlation wanted (publishing_of s client wanted)
unfolding publish publishing_of
allowed_as s client correlation wanted true allow = rw allow (by_as s client correlation wanted (adding_of s.streams wanted))
allowed_as s client correlation wanted false allow = rw allow refl

pub publish_is : (s : State) (client : Client) (correlation : ℕ) (wanted : Wanted) (decided : Result Granted Refused) →
    publishing_of s client wanted ≡ decided →
    publish s client correlation wanted ≡ publish_as s client correlation wanted decided
publish_is s client correlation wanted decided is = rw (← is) (allowed_as s client correlation wanted _ refl)

-- ---- where it is granted

pub record IsGranted (s : State) (client : Client) (wanted : Wanted) (granted : Granted) : Type 0 where
  pub room : has_room_for_publication s client.number wanted granted.adding ≡ true
  pub taken : adding_of s.streams wanted ≡ Ok granted.adding
  pub decided : granted.decision ≡ publication_decision s client wanted

granted_under : (s : State) (client : Client) (wanted : Wanted) (granted : Granted) (adding : Adding) (room place : Bool) →
    has_room_for_publication s client.number wanted adding ≡ room → has_place s wanted adding ≡ place →
    adding_of s.streams wanted ≡ Ok adding → granting_of s client wanted adding ≡ Ok granted → IsGranted s client wanted granted
granted_under s client wanted granted adding true true room place found is =
    let whole : Granted = record { decision = publication_decision s client wanted; adding = adding } in
    let same : Ok whole ≡ Ok granted = (rw (room, place) refl) ∙ is in
    let one : whole ≡ granted = cc in
    subst (IsGranted s client wanted) one (record { room = room; taken = found; decided = refl })
granted_under s client wanted granted adding true false room place found is =
    let never : Err (on (publication_decision s client wanted) NoRoom) ≡ Ok granted = (rw (room, place) refl) ∙ is in
    absurd cc
granted_under s client wanted granted adding false place room known found is =
    let never : Err (on (publication_decision s client wanted) Full) ≡ Ok granted = (rw room refl) ∙ is in
    absurd cc

granted_as : (s : State) (client : Client) (wanted : Wanted) (granted : Granted) (found : Result Adding StreamFault) →
    adding_of s.streams wanted ≡ found → publishing_by s client wanted found ≡ Ok granted → IsGranted s client wanted granted
granted_as s client wanted granted (Err why) found is = absurd cc
granted_as s client wanted granted (Ok adding) found is = granted_under s client wanted granted adding _ _ refl refl found is

granted_by : (s : State) (client : Client) (wanted : Wanted) (granted : Granted) (allow : Bool) →
    (publication_decision s client wanted).verdict.allow ≡ allow → publishing_of s client wanted ≡ Ok granted →
    IsGranted s client wanted granted
unfolding publishing_of
granted_by s client wanted granted true allow is =
    granted_as s client wanted granted (adding_of s.streams wanted) refl ((rw allow refl) ∙ is)
granted_by s client wanted granted false allow is =
    let never : Err (denied (publication_decision s client wanted)) ≡ Ok granted = (rw allow refl) ∙ is in
    absurd cc

pub is_granted : (s : State) (client : Client) (wanted : Wanted) (granted : Granted) →
    publishing_of s client wanted ≡ Ok granted → IsGranted s client wanted granted
is_granted s client wanted granted is = granted_by s client wanted granted _ refl is

-- ---- by the channel

pub added_on : (s : State) (client : Client) (correlation : ℕ) (fields : AddPublication) (exclusive : Bool)
    (channel : Result Shape UriError) → denotes fields.channel ≡ channel →
    add_publication s client correlation fields exclusive ≡ publish_on s client correlation channel fields.stream exclusive
unfolding add_publication
added_on s client correlation fields exclusive channel is = rw is refl

-- on a channel that the command does not take
pub not_taken : (s : State) (client : Client) (correlation : ℕ) (fields : AddPublication) (exclusive : Bool)
    (channel : Shape) → denotes fields.channel ≡ Ok channel → is_publishable channel ≡ false →
    add_publication s client correlation fields exclusive ≡ refused s [] client.number correlation InvalidChannel
not_taken s client correlation fields exclusive channel is taken =
    added_on s client correlation fields exclusive (Ok channel) is ∙ (rw taken refl)
