-- In every registry no two images are of one endpoint, session and stream.
use Rattle.std.proofs.Common.{◌≡◌, ℤ, true, false, not, List, find, Option, Some, None, is_some, refl, sym, subst, ap, ◌∙◌, ⊎_elim}
use Rattle.std.specs.List.{Contains}
use Rattle.std.specs.Ordering.{int_eq}
use Rattle.std.proofs.lemmas.Bool.{and_parts}
use Rattle.std.proofs.lemmas.Bool.Decides.{Decides-int_eq}
use Rattle.std.proofs.lemmas.Slice.Eq.{bytes_eq-Decides}
use Rattle.driver_core.specs.declared.state.event.Event.{Event}
use Rattle.driver_core.specs.declared.state.event.Inputs.{Inputs}
use Rattle.driver_core.specs.declared.state.peer.Peer.{Peer}
use Rattle.driver_core.specs.declared.state.settings.Settings.{Settings}
use Rattle.driver_core.specs.Conduct.{coming_to, state_after}
use Rattle.driver_core.specs.SettingUp.{wanted_by}
use Rattle.driver_core.specs.State.{State, at_moment, opened, ruled}
use Rattle.driver_laws.specs.ClosingLaws.{IsSameLog}
use Rattle.driver_laws.specs.Events.{AfterAnyEvents}
use Rattle.driver_laws.specs.NumberLaws.{AreRising}
use Rattle.driver_laws.specs.PublishingLaws.{IsImageMadeBy, WasLive}
use Rattle.driver_laws.specs.UniqueImageLaws.{AreOfOnePublisher, HasUniqueImages, ImagesAreUnique}
use Rattle.channel_uri.specs.Channel.{Shape}
use Rattle.channel_uri.specs.Place.{Spot, AtIpc, AtManual, AtControl, AtEndpoint, spot_of}
use Rattle.policy_core.specs.RuleList.{Rules}
use Rattle.stream_registry.specs.declared.row.Origin.{Origin}
use Rattle.stream_registry.specs.declared.row.Origin.TheVariants.{Published, Remote}
use Rattle.stream_registry.specs.declared.row.LogRow.{LogRow}
use Rattle.stream_registry.specs.Images.{is_image_at}
use Rattle.stream_registry.specs.Origins.{is_published_by, is_remote, unlingering}
use Rattle.stream_registry.specs.Places.{are_same, is_same_place, is_same_spot}
use Rattle.driver_core.proofs.CacheLemmas.{IsFound, found_in}
use Rattle.driver_core.proofs.ListLemmas.{contains_none}
use Rattle.driver_core.proofs.SettingLemmas.{IsSet, is_set}
use Rattle.driver_laws.proofs.DroppingLemmas.{none_found}
use Rattle.driver_laws.proofs.EveryLemmas.{after_any}
use Rattle.driver_laws.proofs.NewNumberLemmas.{image_number}
use Rattle.driver_laws.proofs.NumberLemmas.{event_rises, opened_rises}
use Rattle.driver_laws.proofs.PublicationLemmas.{images_come}
use Rattle.driver_laws.proofs.RisingLemmas.{rises_unique}

-- ---- places that are the same

spots_are : (spot other : Spot) → is_same_spot spot other ≡ true → spot ≡ other
spots_are AtIpc AtIpc same = refl
spots_are AtIpc AtManual same = absurd (cc same)
spots_are AtIpc (AtControl address) same = absurd (cc same)
spots_are AtIpc (AtEndpoint address) same = absurd (cc same)
spots_are AtManual AtIpc same = absurd (cc same)
spots_are AtManual AtManual same = refl
spots_are AtManual (AtControl address) same = absurd (cc same)
spots_are AtManual (AtEndpoint address) same = absurd (cc same)
spots_are (AtControl address) AtIpc same = absurd (cc same)
spots_are (AtControl address) AtManual same = absurd (cc same)
spots_are (AtControl address) (AtControl other) same = ap AtControl ((bytes_eq-Decides address other).0 same)
spots_are (AtControl address) (AtEndpoint other) same = absurd (cc same)
spots_are (AtEndpoint address) AtIpc same = absurd (cc same)
spots_are (AtEndpoint address) AtManual same = absurd (cc same)
spots_are (AtEndpoint address) (AtControl other) same = absurd (cc same)
spots_are (AtEndpoint address) (AtEndpoint other) same = ap AtEndpoint ((bytes_eq-Decides address other).0 same)

places_are : (spot other : Option Spot) → are_same spot other ≡ true → spot ≡ other
places_are (Some spot) (Some other) same = ap Some (spots_are spot other same)
places_are (Some spot) None same = absurd (cc same)
places_are None (Some other) same = absurd (cc same)
places_are None None same = absurd (cc same)

same_back : (spot other : Option Spot) → are_same spot other ≡ true → are_same other spot ≡ true
same_back spot other same =
    let is : spot ≡ other = places_are spot other same in
    subst (λ place. are_same other place ≡ true) (sym is) (subst (λ place. are_same place other ≡ true) is same)

same_through : (spot other third : Option Spot) → are_same spot third ≡ true → are_same other third ≡ true →
    are_same spot other ≡ true
same_through spot other third one two =
    subst (λ place. are_same spot place ≡ true) (sym (places_are other third two)) one

place_back : (channel other : Shape) → is_same_place channel other ≡ true → is_same_place other channel ≡ true
unfolding is_same_place
place_back channel other same = same_back (spot_of channel) (spot_of other) same

place_through : (channel other third : Shape) → is_same_place channel third ≡ true → is_same_place other third ≡ true →
    is_same_place channel other ≡ true
unfolding is_same_place
place_through channel other third one two =
    same_through (spot_of channel) (spot_of other) (spot_of third) one two

-- ---- images of one publisher

-- the parts of what a search looks for
record IsAt (channel : Shape) (session stream : ℤ) (log : LogRow) : Type 0 where
  is_image : is_remote log ≡ true
  session_is : log.session ≡ session
  stream_is : log.stream ≡ stream
  place : is_same_place log.channel channel ≡ true

is_at : (channel : Shape) (session stream : ℤ) (log : LogRow) → is_image_at channel session stream log ≡ true →
    IsAt channel session stream log
unfolding is_image_at
is_at channel session stream log is =
    let first = and_parts _ _ is in
    let second = and_parts _ _ first.0 in
    let third = and_parts _ _ second.0 in
    record {
      is_image = third.0;
      session_is = (Decides-int_eq log.session session).0 third.1;
      stream_is = (Decides-int_eq log.stream stream).0 second.1;
      place = first.1;
    }

looked_for : (channel : Shape) (session stream : ℤ) (log : LogRow) → IsAt channel session stream log →
    is_image_at channel session stream log ≡ true
unfolding is_image_at
looked_for channel session stream log at =
    let session' : int_eq log.session session ≡ true = (Decides-int_eq log.session session).1 at.session_is in
    let stream' : int_eq log.stream stream ≡ true = (Decides-int_eq log.stream stream).1 at.stream_is in
    rw (at.is_image, session', stream', at.place) refl

other_way : (log other : LogRow) → AreOfOnePublisher log other → AreOfOnePublisher other log
other_way log other both = record {
  is_image = both.other_is_image;
  other_is_image = both.is_image;
  place = place_back log.channel other.channel both.place;
  session = sym both.session;
  stream = sym both.stream;
}

at_one : (channel : Shape) (session stream : ℤ) (log other : LogRow) → IsAt channel session stream log →
    IsAt channel session stream other → AreOfOnePublisher log other
at_one channel session stream log other one two = record {
  is_image = one.is_image;
  other_is_image = two.is_image;
  place = place_through log.channel other.channel channel one.place two.place;
  session = one.session_is ∙ sym two.session_is;
  stream = one.stream_is ∙ sym two.stream_is;
}

-- whether they linger or not
origin_kind : (origin : Origin) → is_published_by (unlingering origin) ≡ is_published_by origin
origin_kind (Published exclusive since) = refl
origin_kind (Remote address initial_term join) = refl

kind_alike : (log other : LogRow) → IsSameLog log other → is_remote log ≡ is_remote other
kind_alike log other same =
    ap not (sym (origin_kind log.origin)) ∙ ap (λ (p : LogRow). is_remote p) same ∙ ap not (origin_kind other.origin)

were_of_one : (log other before another : LogRow) → IsSameLog log before → IsSameLog other another →
    AreOfOnePublisher log other → AreOfOnePublisher before another
were_of_one log other before another one two both =
    let channel : log.channel ≡ before.channel = ap (λ (p : LogRow). p.channel) one in
    let channel' : other.channel ≡ another.channel = ap (λ (p : LogRow). p.channel) two in
    let session : log.session ≡ before.session = ap (λ (p : LogRow). p.session) one in
    let session' : other.session ≡ another.session = ap (λ (p : LogRow). p.session) two in
    let stream : log.stream ≡ before.stream = ap (λ (p : LogRow). p.stream) one in
    let stream' : other.stream ≡ another.stream = ap (λ (p : LogRow). p.stream) two in
    record {
      is_image = sym (kind_alike log before one) ∙ both.is_image;
      other_is_image = sym (kind_alike other another two) ∙ both.other_is_image;
      place = rw (← channel, ← channel') both.place;
      session = sym session ∙ both.session ∙ session';
      stream = sym stream ∙ both.stream ∙ stream';
    }

-- ---- an image that comes

-- none of its publisher was there
is_new : (s : State) (event : Event) (image log : LogRow) → IsImageMadeBy s event image → Contains s.streams.sources log →
    AreOfOnePublisher log image → ⊥
unfolding at_moment
is_new s event image log made has both =
    let wanted = wanted_by made.local made.from made.setup made.join in
    let set : IsSet (at_moment s made.now) wanted made.place = is_set (at_moment s made.now) wanted made.place made.set in
    let channel : image.channel ≡ wanted.channel = ap (λ (p : LogRow). p.channel) made.log_is in
    let session : image.session ≡ wanted.session = ap (λ (p : LogRow). p.session) made.log_is in
    let stream : image.stream ≡ wanted.stream = ap (λ (p : LogRow). p.stream) made.log_is in
    let there : is_image_at wanted.channel wanted.session wanted.stream log ≡ true =
    looked_for wanted.channel wanted.session wanted.stream log (record {
      is_image = both.is_image;
      session_is = both.session ∙ session;
      stream_is = both.stream ∙ stream;
      place = rw (← channel) both.place;
    }) in
    let none = none_found (is_image_at wanted.channel wanted.session wanted.stream) s.streams.sources set.new log has in
    let never : false ≡ true = sym none ∙ there in
    absurd (cc never)

-- ---- behind an event

one_number : (s : State) (event : Event) (inputs : Inputs) (log other : LogRow) → HasUniqueImages s →
    Contains (state_after s event inputs).streams.sources log →
    Contains (state_after s event inputs).streams.sources other → AreOfOnePublisher log other → log.number ≡ other.number
unfolding ruled
one_number s event inputs log other before has stands both =
    let at : State = coming_to s event in
    ⊎_elim
    (λ (was : WasLive s.streams log).
    ⊎_elim
    (λ (was' : WasLive s.streams other).
    ap (λ (p : LogRow). p.number) was.same
    ∙ ap (λ (p : LogRow). p.number)
    (before.one was.before was'.before was.stood was'.stood
    (were_of_one log other was.before was'.before was.same was'.same both))
    ∙ sym (ap (λ (p : LogRow). p.number) was'.same))
    (λ (made : IsImageMadeBy at event other).
    absurd (is_new at event other was.before made was.stood
    (were_of_one log other was.before other was.same refl both)))
    (images_come s event inputs other stands both.other_is_image))
    (λ (made : IsImageMadeBy at event log).
    ⊎_elim
    (λ (was : WasLive s.streams other).
    absurd (is_new at event log was.before made was.stood
    (were_of_one other log was.before log was.same refl (other_way log other both))))
    (λ (made' : IsImageMadeBy at event other).
    image_number at event log made ∙ sym (image_number at event other made'))
    (images_come s event inputs other stands both.other_is_image))
    (images_come s event inputs log has both.is_image)

-- the one that is looked for is found
only_found : (logs : List LogRow) (channel : Shape) (session stream : ℤ) (log : LogRow) →
    ((one other : LogRow) → Contains logs one → Contains logs other → AreOfOnePublisher one other → one ≡ other) →
    Contains logs log → is_image_at channel session stream log ≡ true →
    (found : Option LogRow) → find (is_image_at channel session stream) logs ≡ found → found ≡ Some log
only_found logs channel session stream log unique has is None found =
    let none = none_found (is_image_at channel session stream) logs (ap is_some found) log has in
    let never : false ≡ true = sym none ∙ is in
    absurd (cc never)
only_found logs channel session stream log unique has is (Some other) found =
    let there : IsFound (is_image_at channel session stream) logs other =
    found_in (is_image_at channel session stream) logs other found in
    ap Some
    (unique other log there.stands has
    (at_one channel session stream other log (is_at channel session stream other there.passes)
    (is_at channel session stream log is)))

are_unique : (s : State) →
    ((log other : LogRow) → Contains s.streams.sources log → Contains s.streams.sources other →
    AreOfOnePublisher log other → log ≡ other) →
    HasUniqueImages s
are_unique s unique = record {
  one = unique;
  found = λ channel session stream log has is.
      only_found s.streams.sources channel session stream log unique has is _ refl;
}

stay_unique : (s : State) (event : Event) (inputs : Inputs) → AreRising s → HasUniqueImages s →
    HasUniqueImages (state_after s event inputs)
stay_unique s event inputs rises before =
    let after : State = state_after s event inputs in
    are_unique after (λ log other has stands both.
    rises_unique (λ (p : LogRow). p.number) 0 after.last_number after.streams.sources log other
    (event_rises s event inputs rises).rises.sources has stands
    (one_number s event inputs log other before has stands both))

opened_unique : (settings : Settings) (policy : Rules) (peers : List Peer) →
    HasUniqueImages (opened settings policy peers)
unfolding opened
opened_unique settings policy peers =
    are_unique (opened settings policy peers) (λ log other has. absurd (contains_none log has))

both_hold : AfterAnyEvents (λ s. AreRising s × HasUniqueImages s)
both_hold =
    after_any (λ s. AreRising s × HasUniqueImages s)
    (λ settings policy peers. (opened_rises settings policy peers, opened_unique settings policy peers))
    (λ s event inputs both.
    ((event_rises s event inputs both.0).rises, stay_unique s event inputs both.0 both.1))

pub images_unique : ImagesAreUnique
images_unique settings policy peers events = (both_hold settings policy peers events).1
