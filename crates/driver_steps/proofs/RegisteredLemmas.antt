-- At the end of every run registrations are with publications.
use Rattle.std.proofs.Common.{◌≡◌, ℕ, ◌==◌, ◌&&◌, Bool, true, false, cond, List, [], ◌∷◌, Option, Some, refl, subst}
use Rattle.std.specs.List.{All}
use Rattle.std.proofs.lemmas.Bool.{eqb-true}
use Rattle.std.proofs.lemmas.List.Elements.{All-head, All-nil, All-tail}
use Rattle.driver_core.specs.declared.state.event.Event.{Event}
use Rattle.driver_core.specs.declared.state.event.Event.TheVariants.{Setup as SetUp}
use Rattle.driver_core.specs.declared.state.event.Inputs.{Inputs}
use Rattle.driver_core.specs.declared.state.peer.Peer.{Peer}
use Rattle.driver_core.specs.declared.state.settings.Settings.{Settings}
use Rattle.driver_core.specs.LogRequests.{offering_of, registration_at}
use Rattle.driver_core.specs.PublicationRequests.{publisher_of}
use Rattle.driver_core.specs.Renewal.{source_at}
use Rattle.driver_core.specs.Soundness.{AreSettings, IsSound}
use Rattle.driver_core.specs.State.{State, opened}
use Rattle.driver_core.proofs.SoundnessLemmas.{moves_logs, registries_sound}
use Rattle.log_steps.specs.declared.answer.Answer.TheVariants.{Gone as IsGone}
use Rattle.log_steps.specs.Sending.{send_move}
use Rattle.driver_steps.specs.declared.step.Step.{Step}
use Rattle.driver_steps.specs.declared.step.Step.TheVariants.{Conductor, Packet, Offer, Poll, Image, List as Lists, Send, Value}
use Rattle.driver_steps.specs.Ends.{conducted, inputs_of, moved_by, opening_end, RunEnd}
use Rattle.log_steps.specs.Moves.{poll_move}
use Rattle.driver_steps.specs.Laws.{AtEachEnd}
use Rattle.log_steps.specs.Receiving.{beat_move, receive_move, unheard}
use Rattle.frame_codec.specs.Datagram.{packet_of}
use Rattle.driver_steps.specs.Registered.{AreRegistered, IsPublishedBy, IsWith}
use Rattle.driver_steps.proofs.EndLemmas.{log_keeps_registry, offer_keeps_registry, report_keeps_registry, run_keeps}
use Rattle.driver_steps.proofs.PacketLemmas.{packet_cases}
use Rattle.driver_steps.proofs.RegisteringLemmas.{registered_after}
use Rattle.policy_core.specs.RuleList.{Rules}
use Rattle.stream_registry.specs.declared.row.Registration.{Registration}
use Rattle.stream_registry.specs.declared.row.LogRow.{LogRow}
use Rattle.stream_registry.specs.Origins.{is_published}

-- ---- runs

-- the registry is sound, and its registrations are with publications
record Keeps (s : State) : Type 0 where
  sound : IsSound s
  registered : AreRegistered s

event_keeps : (e : RunEnd) (event : Event) → Keeps e.registry → Keeps (conducted e event).after.registry
unfolding conducted
event_keeps e event keeps =
    let inputs : Inputs = inputs_of e.registry event e.logs in
    record {
      sound = (moves_logs e.registry event inputs keeps.sound).sound;
      registered = registered_after e.registry event inputs keeps.sound keeps.registered;
    }

step_keeps : (s : State) (e : RunEnd) (step : Step) → Keeps e.registry → Keeps (moved_by s e step).after.registry
step_keeps s e (Conductor event) keeps = event_keeps e event keeps
step_keeps s e (Packet now local from bytes) keeps =
    packet_cases (λ what. Keeps what.after.registry) s e now local from (record {
      drops = λ cause. keeps;
      receives = λ source sent. rw (log_keeps_registry e source (receive_move now sent) unheard) keeps;
      hears = λ source place. rw (log_keeps_registry e source (beat_move now place) unheard) keeps;
      asks = λ source move quiet. rw (log_keeps_registry e source move unheard) keeps;
      sets_up = λ fields. event_keeps e (SetUp now local from fields) keeps;
    }) (packet_of bytes)
step_keeps s e (Offer now client registration message) keeps =
    rw (offer_keeps_registry s e now client registration message (offering_of s client registration)) keeps
step_keeps s e (Poll now client subscription source limit) keeps =
    rw (log_keeps_registry e source (poll_move s client subscription limit) IsGone) keeps
step_keeps s e (Send now source) keeps = rw (log_keeps_registry e source (send_move s now) IsGone) keeps
step_keeps s e (Image now source) keeps = rw (report_keeps_registry s e now source (publisher_of s source)) keeps
step_keeps s e (Lists now client) keeps = keeps
step_keeps s e (Value now client number) keeps = keeps

opening_keeps : (settings : Settings) (policy : Rules) (peers : List Peer) → AreSettings settings →
    Keeps (opening_end settings policy peers).registry
unfolding opening_end opened
opening_keeps settings policy peers sound = record {
  sound = registries_sound settings policy peers [] sound;
  registered = All-nil _;
}

abbrev EndKeeps : RunEnd → Type 0
EndKeeps e = Keeps e.registry

ends_keep : AtEachEnd EndKeeps
ends_keep settings policy peers readings answers sound are =
    run_keeps EndKeeps step_keeps (opening_end settings policy peers) readings answers (opening_keeps settings policy peers sound)

-- at the end of every run registrations are with publications
abbrev pub EndRegistered : RunEnd → Type 0
EndRegistered e = AreRegistered e.registry

pub ends_registered : AtEachEnd EndRegistered
ends_registered settings policy peers readings answers sound are =
    (ends_keep settings policy peers readings answers sound are).registered

-- ---- the publication of a registration

found_by : (P : Registration → Type 0) (b : Bool) (first registration : Registration) (found : Option Registration) → P first →
    (found ≡ Some registration → P registration) → cond b (Some first) found ≡ Some registration → P registration
found_by P true first registration found holds rest is =
    let same : first ≡ registration = cc in
    subst P same holds
found_by P false first registration found holds rest is = rest is

-- what holds of all registrations holds of the one that is found
registration_holds : (P : Registration → Type 0) (registrations : List Registration) (client number : ℕ) (registration : Registration) →
    All P registrations → registration_at registrations client number ≡ Some registration → P registration
registration_holds P [] client number registration all is = absurd (cc)
registration_holds P (first ∷ registrations) client number registration all is =
    found_by P (first.number == number && first.client == client) first registration
    (registration_at registrations client number) (All-head P first registrations all)
    (registration_holds P registrations client number registration (All-tail P first registrations all)) is

found_published : (number : ℕ) (logs : List LogRow) (log : LogRow) (b : Bool) (first : LogRow) → (first.number == number) ≡ b →
    IsPublishedBy number first → (source_at logs number ≡ Some log → is_published log ≡ true) →
    cond b (Some first) (source_at logs number) ≡ Some log → is_published log ≡ true
found_published number logs log true first same holds rest is =
    let this : first ≡ log = cc is in
    subst (λ one. is_published one ≡ true) this (holds (eqb-true first.number number same))
found_published number logs log false first same holds rest is = rest is

pub published_at : (number : ℕ) (logs : List LogRow) (log : LogRow) → All (IsPublishedBy number) logs →
    source_at logs number ≡ Some log → is_published log ≡ true
published_at number [] log all is = absurd (cc is)
published_at number (first ∷ logs) log all is =
    found_published number logs log (first.number == number) first refl (All-head (IsPublishedBy number) first logs all)
    (published_at number logs log (All-tail (IsPublishedBy number) first logs all)) is

-- the log that a registration is with is a publication
pub registered_publication : (s : State) (client number : ℕ) (registration : Registration) (log : LogRow) → AreRegistered s →
    registration_at s.streams.registrations client number ≡ Some registration →
    source_at s.streams.sources registration.source ≡ Some log → is_published log ≡ true
registered_publication s client number registration log registered is found =
    let with : IsWith s.last_number s.streams.sources registration =
    registration_holds (IsWith s.last_number s.streams.sources) s.streams.registrations client number registration
    registered is in
    published_at registration.source s.streams.sources log with.published found
