-- SETUP of a remote publisher: an image of its stream comes, or the SETUP is dropped. Own rules.
use Rattle.std.specs.Prelude.{ℕ, ◌+◌, Bool, false, not, ◌&&◌, nat_lt, List, [], ◌∷◌, filter, length, Option, Some, None, Result, Ok, Err, is_some, unwrap_or, if◌then◌else◌}
use Rattle.std.specs.List.{list_any}
use Rattle.std.specs.Str.{bytes_eq}
use Rattle.driver_core.specs.declared.state.outcome.Response.TheVariants.{Imaged, Dropped}
use Rattle.driver_core.specs.declared.state.setup_fault.SetupFault.{SetupFault}
use Rattle.driver_core.specs.declared.state.setup_fault.SetupFault.TheVariants.{BadSetup, Exists, NoSubscription, Denied, Full, NoRoom}
use Rattle.driver_core.specs.Draft.{Draft, answered}
use Rattle.driver_core.specs.Pairs.{is_within_pairs}
use Rattle.driver_core.specs.State.{State, has_number}
use Rattle.channel_uri.specs.declared.address.Address.{Address}
use Rattle.channel_uri.specs.Channel.{endpoint_shape}
use Rattle.client_registry.specs.Clients.{principal_at}
use Rattle.frame_codec.specs.declared.join.Join.{Join}
use Rattle.frame_codec.specs.declared.setup.Setup.{Setup}
use Rattle.frame_codec.specs.Join.{join_of}
use Rattle.policy_core.specs.declared.verdict.Verdict.{Verdict}
use Rattle.policy_core.specs.Rules.{defaulted, verdict_of}
use Rattle.stream_registry.specs.declared.row.LogRow.{LogRow}
use Rattle.stream_registry.specs.declared.row.Subscription.{Subscription}
use Rattle.stream_registry.specs.declared.wanted.ImageWanted.{ImageWanted}
use Rattle.stream_registry.specs.Images.{has_room_for_image, image_at, image_of, image_place_for, imaged}
use Rattle.stream_registry.specs.Origins.{address_of}
use Rattle.stream_registry.specs.Pairs.{fits, image_question, is_allowed}

-- ---- what is made

-- datagrams to this address, from that one, from where the SETUP says on; no image lingers
abbrev pub wanted_by : Address → Address → Setup → Join → ImageWanted
wanted_by local from setup join = record {
  channel = endpoint_shape local;
  stream = setup.stream_id;
  session = setup.session_id;
  address = from;
  initial_term = setup.initial_term_id;
  join = join.position;
  measures = record { mtu = join.mtu; term_length = join.term_length; linger = 0 };
}

-- the least place where the log has room among the live ones
abbrev pub place_of_image : State → ImageWanted → Option ℕ
place_of_image s wanted = image_place_for s.streams s.settings.arena_pages wanted

-- the row of the image, under the next number
abbrev pub new_image : State → ImageWanted → LogRow
new_image s wanted = image_of s.streams (s.last_number + 1) wanted (unwrap_or (place_of_image s wanted) 0)

-- it is there
unfoldable pub with_image : State → ImageWanted → State
with_image s wanted = record s {
  streams = imaged s.streams (s.last_number + 1) wanted (unwrap_or (place_of_image s wanted) 0);
  last_number = s.last_number + 1;
}

-- ---- in which order it is dropped

abbrev pub sends_from : Address → Option Address → Bool
sends_from from None = false
sends_from from (Some publisher) = bytes_eq publisher.octets from.octets

-- it is an image whose publisher sends from that address, from whichever port
abbrev pub is_from : Address → LogRow → Bool
is_from from log = sends_from from (address_of log)

-- fewer images than the driver is set to have of one source are of that publisher's address
abbrev pub is_within_source : State → ImageWanted → Bool
is_within_source s wanted = nat_lt (length (filter (is_from wanted.address) s.streams.sources)) s.settings.images_per_source

-- no number is used again, and there are at most 4,096 pairs
abbrev pub has_room_for_setup : State → ImageWanted → Bool
has_room_for_setup s wanted =
    has_room_for_image s.streams
    && (is_within_source s wanted && (has_number s && is_within_pairs (with_image s wanted)))

abbrev pub placing : Option ℕ → Result ℕ SetupFault
placing None = Err NoRoom
placing (Some place) = Ok place

-- full, without room for the log, or at that place
unfoldable pub room_for : State → ImageWanted → Result ℕ SetupFault
room_for s wanted = if not (has_room_for_setup s wanted) then Err Full else placing (place_of_image s wanted)

-- what the policy in force decides on the image for a subscription, which no client that is gone has
abbrev pub verdict_to : State → Subscription → Option ℕ → Verdict
verdict_to s subscription None = defaulted false s.epoch
verdict_to s subscription (Some principal) = verdict_of s.policy s.epoch (image_question principal subscription)

abbrev pub verdict_for : State → Subscription → Verdict
verdict_for s subscription = verdict_to s subscription (principal_at s.clients.rows subscription.client)

-- by the subscriptions that it fits, by their numbers: the verdict for the first is reported where none is allowed
abbrev pub allowed_for : State → ImageWanted → List Subscription → Result ℕ SetupFault
allowed_for s wanted [] = Err NoSubscription
allowed_for s wanted (first ∷ others) =
    if list_any (is_allowed s.clients.rows s.policy s.epoch) (first ∷ others)
    then room_for s wanted
    else Err (Denied (verdict_for s first))

abbrev pub fitting : State → ImageWanted → List Subscription
fitting s wanted = filter (fits (new_image s wanted)) s.streams.subscriptions

-- the place that its log gets, or why there is none
unfoldable pub setting_of : State → ImageWanted → Result ℕ SetupFault
setting_of s wanted =
    if is_some (image_at s.streams wanted.channel wanted.session wanted.stream)
    then Err Exists
    else allowed_for s wanted (fitting s wanted)

-- ---- the event

-- its number is the answer, and its log opens there; the pairs that it brings are reported after that
unfoldable pub image_made : State → ImageWanted → ℕ → Draft
image_made s wanted place = record (answered (with_image s wanted) (Imaged (s.last_number + 1))) {
  opens = Some (record { source = s.last_number + 1; place = place });
}

-- nobody learns of a SETUP that is dropped, and no policy's decision on it is reported
abbrev pub set_by : State → ImageWanted → Result ℕ SetupFault → Draft
set_by s wanted (Err fault) = answered s (Dropped fault)
set_by s wanted (Ok place) = image_made s wanted place

abbrev pub set_up_by : State → Address → Address → Setup → Option Join → Draft
set_up_by s local from setup None = answered s (Dropped BadSetup)
set_up_by s local from setup (Some join) =
    set_by s (wanted_by local from setup join) (setting_of s (wanted_by local from setup join))

-- A SETUP came to the address `local`, from the address `from`.
unfoldable pub set_up : State → Address → Address → Setup → Draft
set_up s local from setup = set_up_by s local from setup (join_of setup)
