-- In every registry no two live publications are of one medium, stream and session.
use Rattle.std.proofs.Common.{◌≡◌, ℕ, ◌+◌, ◌<◌, ◌^◌, ℤ, Bool, true, false, ◌&&◌, cond, List, [], ◌∷◌, length, filter, find, Option, Some, None, Result, Ok, Err, is_some, refl, sym, ap, ◌∙◌, ◌⊎◌, inl, inr, ⊎_elim, arith}
use Rattle.std.specs.List.{Contains, list_any}
use Rattle.std.specs.Int.{w32}
use Rattle.std.specs.Ordering.{int_eq}
use Rattle.std.specs.Prelude.{FitsSigned}
use Rattle.std.proofs.lemmas.Bool.{and_parts, eq-eqb}
use Rattle.std.proofs.lemmas.Bool.Decides.{Decides-int_eq}
use Rattle.std.proofs.lemmas.List.Filters.{length-filter_both}
use Rattle.driver_core.specs.declared.state.event.Event.{Event}
use Rattle.driver_core.specs.declared.state.event.Inputs.{Inputs}
use Rattle.driver_core.specs.declared.state.peer.Peer.{Peer}
use Rattle.driver_core.specs.declared.state.settings.Settings.{Settings}
use Rattle.driver_core.specs.Conduct.{coming_to, state_after, state_of}
use Rattle.driver_core.specs.PublicationRequests.{is_sent_as}
use Rattle.driver_core.specs.Publishing.{published}
use Rattle.driver_core.specs.Requests.{wanted_by}
use Rattle.driver_core.specs.Looking.{IsAtItsMoment}
use Rattle.driver_core.specs.State.{State, opened, ruled}
use Rattle.driver_laws.specs.ClosingLaws.{IsSameLog}
use Rattle.driver_laws.specs.NumberLaws.{AreRising}
use Rattle.driver_laws.specs.OwnerLaws.{HaveTheirClients}
use Rattle.driver_laws.specs.PublishingLaws.{IsImageMadeBy, IsLogMadeBy, WasLive}
use Rattle.driver_laws.specs.UniquePublicationLaws.{AreOfOneStream, HasUniquePublications, PublicationsAreUnique}
use Rattle.channel_uri.specs.declared.media.Media.{Media}
use Rattle.channel_uri.specs.declared.media.Media.TheVariants.{Udp, Ipc, Counter}
use Rattle.channel_uri.specs.Media.{media_number}
use Rattle.channel_uri.specs.Parameters.{stated_session_of}
use Rattle.policy_core.specs.RuleList.{Rules}
use Rattle.stream_registry.specs.declared.fault.StreamFault.{StreamFault}
use Rattle.stream_registry.specs.declared.fault.StreamFault.TheVariants.{Conflict, Full}
use Rattle.stream_registry.specs.declared.row.Origin.{Origin}
use Rattle.stream_registry.specs.declared.row.Origin.TheVariants.{Published, Remote}
use Rattle.stream_registry.specs.declared.row.LogRow.{LogRow}
use Rattle.stream_registry.specs.declared.wanted.Adding.{Adding}
use Rattle.stream_registry.specs.declared.wanted.Adding.TheVariants.{Join, Make}
use Rattle.stream_registry.specs.declared.wanted.Wanted.{Wanted}
use Rattle.stream_registry.specs.Adding.{adding_by, adding_of, has_room_for_log, has_room_for_registration, joining_of, making_of, session_of}
use Rattle.stream_registry.specs.Few.{AreFew}
use Rattle.stream_registry.specs.Joining.{contradicts, joined_at}
use Rattle.stream_registry.specs.Origins.{is_published, is_published_by, is_remote, unlingering}
use Rattle.stream_registry.specs.Places.{is_same_media, is_udp}
use Rattle.stream_registry.specs.Sessions.{free_session, has_session, has_session_at, is_stated_again, is_taken}
use Rattle.stream_registry.specs.Streams.{Streams}
use Rattle.stream_registry.proofs.SessionLemmas.{all_free}
use Rattle.driver_core.proofs.CacheLemmas.{IsFound, found_in}
use Rattle.driver_core.proofs.ListLemmas.{contains_none}
use Rattle.driver_laws.proofs.CountedLemmas.{IsCounted, event_counted}
use Rattle.driver_laws.proofs.DroppingLemmas.{is_any, none_found}
use Rattle.driver_laws.proofs.LimitLemmas.{IsWithin, event_within, opened_within}
use Rattle.driver_laws.proofs.NumberLemmas.{event_rises, opened_rises}
use Rattle.driver_laws.proofs.OwnerLemmas.{opened_owned, stay_owned}
use Rattle.driver_core.proofs.MomentLemmas.{event_timely, opened_timely}
use Rattle.driver_laws.proofs.PublishingOnlyLemmas.{published_only}
use Rattle.driver_laws.proofs.RisingLemmas.{rises_unique}

-- ---- a log that is made has a session of its own

never_makes : (other room : Bool) (number : ℕ) (joined session : ℤ) →
    cond other (Err Conflict) (cond room (Ok (Join number joined)) (Err Full)) ≡ Ok (Make session) → ⊥
never_makes true room number joined session is = absurd (cc is)
never_makes false true number joined session is = absurd (cc is)
never_makes false false number joined session is = absurd (cc is)

joins_none : (s : Streams) (wanted : Wanted) (session : ℤ) (found : Option LogRow) →
    adding_by s wanted found ≡ Ok (Make session) → making_of s wanted ≡ Ok (Make session)
unfolding joining_of
joins_none s wanted session None is = is
joins_none s wanted session (Some log) is =
    absurd (never_makes (contradicts s.defaults wanted.channel log) (has_room_for_registration s) log.number log.session session is)

either_makes : (exclusive : Bool) (one other wants : Result Adding StreamFault) → (other ≡ wants → one ≡ wants) →
    cond exclusive one other ≡ wants → one ≡ wants
either_makes true one other wants more is = is
either_makes false one other wants more is = more is

pub makes_log : (s : Streams) (wanted : Wanted) (session : ℤ) → adding_of s wanted ≡ Ok (Make session) →
    making_of s wanted ≡ Ok (Make session)
unfolding adding_of
makes_log s wanted session is =
    either_makes wanted.exclusive (making_of s wanted) (adding_by s wanted (joined_at s.sources wanted.channel wanted.stream))
    (Ok (Make session)) (joins_none s wanted session (joined_at s.sources wanted.channel wanted.stream)) is

making_parts : (again room : Bool) (own session : ℤ) →
    cond again (Err Conflict) (cond room (Ok (Make own)) (Err Full)) ≡ Ok (Make session) → (again ≡ false) × (own ≡ session)
making_parts true room own session is = absurd (cc is)
making_parts false true own session is = (refl, cc is)
making_parts false false own session is = absurd (cc is)

pub record IsNewSession (s : Streams) (wanted : Wanted) (session : ℤ) : Type 0 where
  pub new : is_stated_again s.sources wanted.channel.media wanted.stream (stated_session_of wanted.channel) ≡ false
  pub session_is : session_of s wanted.channel ≡ session

pub new_session : (s : Streams) (wanted : Wanted) (session : ℤ) → making_of s wanted ≡ Ok (Make session) →
    IsNewSession s wanted session
unfolding making_of
new_session s wanted session is =
    let parts =
    making_parts (is_stated_again s.sources wanted.channel.media wanted.stream (stated_session_of wanted.channel))
    (has_room_for_registration s && has_room_for_log s) (session_of s wanted.channel) session is in
    record { new = parts.0; session_is = parts.1 }

has_it : (log : LogRow) (session : ℤ) → is_published log ≡ true → log.session ≡ session → has_session session log ≡ true
has_it log session published is =
    let same : int_eq log.session session ≡ true = (Decides-int_eq log.session session).1 is in
    rw (published, same) refl

has_it_at : (log : LogRow) (media : Media) (stream session : ℤ) → is_published log ≡ true →
    log.channel.media ≡ media → log.stream ≡ stream → log.session ≡ session → has_session_at media stream session log ≡ true
unfolding has_session_at
has_it_at log media stream session published medium stream_is session_is =
    let media' : is_same_media log.channel.media media ≡ true =
    eq-eqb (media_number log.channel.media) (media_number media) (ap media_number medium) in
    let stream' : int_eq log.stream stream ≡ true = (Decides-int_eq log.stream stream).1 stream_is in
    let session' : int_eq log.session session ≡ true = (Decides-int_eq log.session session).1 session_is in
    rw (media', stream', published, session') refl

-- no live publication of its medium and stream has it
own_by : (s : Streams) (wanted : Wanted) (session : ℤ) (stated : Option ℤ) → stated_session_of wanted.channel ≡ stated →
    FitsSigned w32 s.next_session → length s.sources < 2 ^ 32 → IsNewSession s wanted session → (log : LogRow) →
    Contains s.sources log → is_published log ≡ true → log.channel.media ≡ wanted.channel.media → log.stream ≡ wanted.stream →
    log.session ≡ session → ⊥
own_by s wanted session None stated fits few is log has published media stream same =
    let free : free_session s.sources s.next_session ≡ session = rw (stated) at is.session_is in
    let taken : is_taken s.sources (free_session s.sources s.next_session) ≡ true =
    is_any (has_session (free_session s.sources s.next_session)) s.sources log has
    (has_it log (free_session s.sources s.next_session) published (same ∙ sym free)) in
    let never : false ≡ true = sym (all_free s.sources s.next_session few fits).is_free ∙ taken in
    absurd (cc never)
own_by s wanted session (Some one) stated fits few is log has published media stream same =
    let it : one ≡ session = rw (stated) at is.session_is in
    let none : list_any (has_session_at wanted.channel.media wanted.stream one) s.sources ≡ false = rw (stated) at is.new in
    let there : list_any (has_session_at wanted.channel.media wanted.stream one) s.sources ≡ true =
    is_any (has_session_at wanted.channel.media wanted.stream one) s.sources log has
    (has_it_at log wanted.channel.media wanted.stream one published media stream (same ∙ sym it)) in
    let never : false ≡ true = sym none ∙ there in
    absurd (cc never)

-- ---- whether they linger or not

origin_kind : (origin : Origin) → is_published_by (unlingering origin) ≡ is_published_by origin
origin_kind (Published exclusive since) = refl
origin_kind (Remote address initial_term join) = refl

pub kind_alike : (log other : LogRow) → IsSameLog log other → is_published log ≡ is_published other
kind_alike log other same =
    sym (origin_kind log.origin) ∙ ap (λ (p : LogRow). is_published p) same ∙ origin_kind other.origin

other_way : (log other : LogRow) → AreOfOneStream log other → AreOfOneStream other log
other_way log other both = record {
  published = both.other_published;
  other_published = both.published;
  media = sym both.media;
  stream = sym both.stream;
  session = sym both.session;
}

were_of_one : (log other before another : LogRow) → IsSameLog log before → IsSameLog other another →
    AreOfOneStream log other → AreOfOneStream before another
were_of_one log other before another one two both = record {
  published = sym (kind_alike log before one) ∙ both.published;
  other_published = sym (kind_alike other another two) ∙ both.other_published;
  media = sym (ap (λ (p : LogRow). p.channel.media) one) ∙ both.media ∙ ap (λ (p : LogRow). p.channel.media) two;
  stream = sym (ap (λ (p : LogRow). p.stream) one) ∙ both.stream ∙ ap (λ (p : LogRow). p.stream) two;
  session = sym (ap (λ (p : LogRow). p.session) one) ∙ both.session ∙ ap (λ (p : LogRow). p.session) two;
}

-- ---- a publication that comes

image_unpublished : (s : State) (event : Event) (log : LogRow) → IsImageMadeBy s event log → is_published log ≡ false
image_unpublished s event log made = ap is_published made.log_is

pub publications_come : (s : State) (event : Event) (inputs : Inputs) (log : LogRow) →
    Contains (state_after s event inputs).streams.sources log → is_published log ≡ true →
    WasLive s.streams log ⊎ IsLogMadeBy (coming_to s event) event log
unfolding ruled
publications_come s event inputs log has published =
    ⊎_elim (λ live. inl live)
    (λ made.
    ⊎_elim (λ one. inr one)
    (λ (image : IsImageMadeBy (coming_to s event) event log).
    let never : false ≡ true = sym (image_unpublished (coming_to s event) event log image) ∙ published in
    absurd (cc never))
    made)
    ((published_only s event inputs).logs log has)

record HasRoom (s : State) : Type 0 where
  counted : FitsSigned w32 s.streams.next_session
  few : length s.streams.sources < 2 ^ 32

-- none of its medium and stream had its session
is_new : (s : State) (event : Event) (new log : LogRow) → HasRoom s → IsLogMadeBy s event new → Contains s.streams.sources log →
    AreOfOneStream log new → ⊥
is_new s event new log room made has both =
    let wanted : Wanted = wanted_by made.registered.request in
    let adding : adding_of s.streams wanted ≡ Ok (Make made.session) = made.registered.adding_is ∙ ap Ok made.makes in
    own_by s.streams wanted made.session (stated_session_of wanted.channel) refl room.counted room.few
    (new_session s.streams wanted made.session (makes_log s.streams wanted made.session adding)) log has both.published
    (both.media ∙ ap (λ (p : LogRow). p.channel.media) made.made_is)
    (both.stream ∙ ap (λ (p : LogRow). p.stream) made.made_is)
    (both.session ∙ ap (λ (p : LogRow). p.session) made.made_is)

made_number : (s : State) (event : Event) (log : LogRow) → IsLogMadeBy s event log → log.number ≡ s.last_number + 1
made_number s event log made = ap (λ (p : LogRow). p.number) made.made_is

-- ---- behind an event

one_number : (s : State) (event : Event) (inputs : Inputs) (log other : LogRow) → HasRoom s → HasUniquePublications s →
    Contains (state_after s event inputs).streams.sources log →
    Contains (state_after s event inputs).streams.sources other → AreOfOneStream log other → log.number ≡ other.number
unfolding ruled
one_number s event inputs log other room before has stands both =
    let at : State = coming_to s event in
    let room' : HasRoom at = record { counted = room.counted; few = room.few } in
    ⊎_elim
    (λ (was : WasLive s.streams log).
    ⊎_elim
    (λ (was' : WasLive s.streams other).
    ap (λ (p : LogRow). p.number) was.same
    ∙ ap (λ (p : LogRow). p.number)
    (before.one was.before was'.before was.stood was'.stood
    (were_of_one log other was.before was'.before was.same was'.same both))
    ∙ sym (ap (λ (p : LogRow). p.number) was'.same))
    (λ (made : IsLogMadeBy at event other).
    absurd (is_new at event other was.before room' made was.stood
    (were_of_one log other was.before other was.same refl both)))
    (publications_come s event inputs other stands both.other_published))
    (λ (made : IsLogMadeBy at event log).
    ⊎_elim
    (λ (was : WasLive s.streams other).
    absurd (is_new at event log was.before room' made was.stood
    (were_of_one other log was.before log was.same refl (other_way log other both))))
    (λ (made' : IsLogMadeBy at event other).
    made_number at event log made ∙ sym (made_number at event other made'))
    (publications_come s event inputs other stands both.other_published))
    (publications_come s event inputs log has both.published)

-- ---- the one that is looked for is found

udp_is : (media : Media) → is_udp media ≡ true → media ≡ Udp
udp_is Udp is = refl
udp_is Ipc is = absurd (cc is)
udp_is Counter is = absurd (cc is)

record IsSent (session stream : ℤ) (log : LogRow) : Type 0 where
  published : is_published log ≡ true
  media : log.channel.media ≡ Udp
  session_is : log.session ≡ session
  stream_is : log.stream ≡ stream

sent_parts : (session stream : ℤ) (log : LogRow) → is_sent_as session stream log ≡ true → IsSent session stream log
sent_parts session stream log is =
    let first = and_parts _ _ is in
    let second = and_parts _ _ first.0 in
    let third = and_parts _ _ second.0 in
    record {
      published = third.0;
      media = udp_is log.channel.media third.1;
      session_is = (Decides-int_eq log.session session).0 second.1;
      stream_is = (Decides-int_eq log.stream stream).0 first.1;
    }

at_one : (session stream : ℤ) (log other : LogRow) → IsSent session stream log → IsSent session stream other →
    AreOfOneStream log other
at_one session stream log other one two = record {
  published = one.published;
  other_published = two.published;
  media = one.media ∙ sym two.media;
  stream = one.stream_is ∙ sym two.stream_is;
  session = one.session_is ∙ sym two.session_is;
}

only_found : (logs : List LogRow) (session stream : ℤ) (log : LogRow) →
    ((one other : LogRow) → Contains logs one → Contains logs other → AreOfOneStream one other → one ≡ other) →
    Contains logs log → is_sent_as session stream log ≡ true → (found : Option LogRow) →
    find (is_sent_as session stream) logs ≡ found → found ≡ Some log
only_found logs session stream log unique has is None found =
    let none = none_found (is_sent_as session stream) logs (ap is_some found) log has in
    let never : false ≡ true = sym none ∙ is in
    absurd (cc never)
only_found logs session stream log unique has is (Some other) found =
    let there : IsFound (is_sent_as session stream) logs other = found_in (is_sent_as session stream) logs other found in
    ap Some
    (unique other log there.stands has
    (at_one session stream other log (sent_parts session stream other there.passes) (sent_parts session stream log is)))

are_unique : (s : State) →
    ((log other : LogRow) → Contains s.streams.sources log → Contains s.streams.sources other → AreOfOneStream log other →
    log ≡ other) →
    HasUniquePublications s
are_unique s unique = record {
  one = unique;
  found = λ session stream log has is. only_found s.streams.sources session stream log unique has is _ refl;
}

-- ---- every registry

few_logs : (s : State) → IsWithin s → length s.streams.sources < 2 ^ 32
few_logs s within =
    let few : AreFew s.streams.sources = within.streams.logs in
    let both : length (filter is_published s.streams.sources) + length (filter is_remote s.streams.sources)
    ≡ length s.streams.sources =
    length-filter_both is_published is_remote (λ log. refl) s.streams.sources in
    let published = few.published in
    let remote = few.remote in
    omega (arith, both, published, remote)

record Holds (settings : Settings) (s : State) : Type 0 where
  rises : AreRising s
  timely : IsAtItsMoment s
  owned : HaveTheirClients s
  within : IsWithin s
  counted : IsCounted settings s
  unique : HasUniquePublications s

stays_unique : (settings : Settings) (s : State) (event : Event) (inputs : Inputs) → Holds settings s →
    Holds settings (state_after s event inputs)
stays_unique settings s event inputs holds =
    let after' : State = state_after s event inputs in
    let rises : AreRising after' = (event_rises s event inputs holds.rises).rises in
    record {
      rises = rises;
      timely = event_timely s event inputs;
      owned = stay_owned s event inputs holds.owned;
      within = event_within s event inputs holds.timely holds.owned holds.within;
      counted = event_counted settings s event inputs holds.counted;
      unique = are_unique after' (λ log other has stands both.
          rises_unique (λ (p : LogRow). p.number) 0 after'.last_number after'.streams.sources log other rises.sources has stands
          (one_number s event inputs log other
          (record { counted = holds.counted.0; few = few_logs s holds.within }) holds.unique has stands both));
    }

all_hold : (settings : Settings) (s : State) (events : List (Event × Inputs)) → Holds settings s → Holds settings (state_of s events)
all_hold settings s [] holds = holds
all_hold settings s (event ∷ events) holds =
    all_hold settings (state_after s event.0 event.1) events (stays_unique settings s event.0 event.1 holds)

opened_holds : (settings : Settings) (policy : Rules) (peers : List Peer) → FitsSigned w32 settings.first_session →
    Holds settings (opened settings policy peers)
unfolding opened
opened_holds settings policy peers fits = record {
  rises = opened_rises settings policy peers;
  timely = opened_timely settings policy peers;
  owned = opened_owned settings policy peers;
  within = opened_within settings policy peers;
  counted = (fits, refl);
  unique = are_unique (opened settings policy peers) (λ log other has. absurd (contains_none log has));
}

pub publications_unique : PublicationsAreUnique
publications_unique settings policy peers events fits =
    (all_hold settings (opened settings policy peers) events (opened_holds settings policy peers fits)).unique
