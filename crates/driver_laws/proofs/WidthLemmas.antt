-- In every registry the session and the stream of each live publication are numbers of 32 bits.
use Rattle.std.proofs.Common.{◌≡◌, ℕ, Bool, true, false, cond, List, [], ◌∷◌, Ok, refl, sym, subst, ap, ◌∙◌, ⊎_elim}
use Rattle.std.specs.Int.{w32}
use Rattle.std.specs.List.{Contains}
use Rattle.std.specs.Prelude.{FitsSigned}
use Rattle.command_codec.specs.declared.add_publication.AddPublication.{AddPublication}
use Rattle.command_codec.specs.declared.command.Body.TheVariants as bodies
use Rattle.driver_core.specs.declared.state.event.Event.{Event}
use Rattle.driver_core.specs.declared.state.event.Inputs.{Inputs}
use Rattle.driver_core.specs.declared.state.peer.Peer.{Peer}
use Rattle.driver_core.specs.declared.state.settings.Settings.{Settings}
use Rattle.driver_core.specs.Conduct.{coming_to, state_after, state_of}
use Rattle.driver_core.specs.Requests.{AsksToPublish, PublicationRequest, publication_body, wanted_by}
use Rattle.driver_core.specs.State.{State, opened, ruled}
use Rattle.driver_core.proofs.ListLemmas.{contains_none}
use Rattle.driver_laws.specs.ClosingLaws.{IsSameLog}
use Rattle.driver_laws.specs.PublishingLaws.{IsLogMadeBy, WasLive}
use Rattle.driver_laws.specs.WidthLaws.{HasNumbersOf32Bits, IsOf32Bits, PublicationsAreOf32Bits}
use Rattle.driver_laws.proofs.CountedLemmas.{IsCounted, event_counted}
use Rattle.driver_laws.proofs.ReadWidthLemmas.{HasStreamOf32Bits, command_fits, own_session_fits}
use Rattle.driver_laws.proofs.UniquePublicationLemmas.{kind_alike, makes_log, new_session, publications_come}
use Rattle.policy_core.specs.RuleList.{Rules}
use Rattle.stream_registry.specs.declared.row.LogRow.{LogRow}
use Rattle.stream_registry.specs.declared.wanted.Adding.TheVariants.{Make}
use Rattle.stream_registry.specs.declared.wanted.Wanted.{Wanted}
use Rattle.stream_registry.specs.Adding.{adding_of}
use Rattle.stream_registry.specs.Origins.{is_published}

-- ---- a publication that was there

still_fits : (log before : LogRow) → IsSameLog log before → IsOf32Bits before → IsOf32Bits log
still_fits log before same fits = record {
  session = subst (FitsSigned w32) (sym (ap (λ (p : LogRow). p.session) same)) fits.session;
  stream = subst (FitsSigned w32) (sym (ap (λ (p : LogRow). p.stream) same)) fits.stream;
}

-- ---- one that is made

body_fits : (exclusive : Bool) (fields : AddPublication) →
    HasStreamOf32Bits (cond exclusive (bodies.AddExclusivePublication fields) (bodies.AddPublication fields)) →
    FitsSigned w32 fields.stream
body_fits true fields fits = fits
body_fits false fields fits = fits

asked_fits : (s : State) (handle : ℕ) (bytes : List ℕ) (request : PublicationRequest) → AsksToPublish s handle bytes request →
    FitsSigned w32 request.fields.stream
asked_fits s handle bytes request asks =
    body_fits request.exclusive request.fields
    (command_fits bytes (record { client = handle; correlation = request.correlation; body = publication_body request })
    asks.asks.command)

made_fits : (s : State) (event : Event) (log : LogRow) → FitsSigned w32 s.streams.next_session → IsLogMadeBy s event log →
    IsOf32Bits log
made_fits s event log counted made =
    let request : PublicationRequest = made.registered.request in
    let wanted : Wanted = wanted_by request in
    let adding : adding_of s.streams wanted ≡ Ok (Make made.session) = made.registered.adding_is ∙ ap Ok made.makes in
    let own = (new_session s.streams wanted made.session (makes_log s.streams wanted made.session adding)).session_is in
    record {
      session = subst (FitsSigned w32) (own ∙ sym (ap (λ (p : LogRow). p.session) made.made_is))
          (own_session_fits s.streams wanted.channel counted);
      stream = subst (FitsSigned w32) (sym (ap (λ (p : LogRow). p.stream) made.made_is))
          (asked_fits s made.registration.client made.registered.bytes request made.registered.asks);
    }

-- ---- every registry

record Holds (settings : Settings) (s : State) : Type 0 where
  counted : IsCounted settings s
  publications : (log : LogRow) → Contains s.streams.sources log → is_published log ≡ true → IsOf32Bits log

stay_fit : (settings : Settings) (s : State) (event : Event) (inputs : Inputs) → Holds settings s →
    Holds settings (state_after s event inputs)
unfolding ruled
stay_fit settings s event inputs holds = record {
  counted = event_counted settings s event inputs holds.counted;
  publications = λ log has published.
      ⊎_elim
      (λ (was : WasLive s.streams log).
      still_fits log was.before was.same
      (holds.publications was.before was.stood (sym (kind_alike log was.before was.same) ∙ published)))
      (λ (made : IsLogMadeBy (coming_to s event) event log).
      made_fits (coming_to s event) event log holds.counted.0 made)
      (publications_come s event inputs log has published);
}

all_hold : (settings : Settings) (s : State) (events : List (Event × Inputs)) → Holds settings s → Holds settings (state_of s events)
all_hold settings s [] holds = holds
all_hold settings s (event ∷ events) holds =
    all_hold settings (state_after s event.0 event.1) events (stay_fit settings s event.0 event.1 holds)

opened_holds : (settings : Settings) (policy : Rules) (peers : List Peer) → FitsSigned w32 settings.first_session →
    Holds settings (opened settings policy peers)
unfolding opened
opened_holds settings policy peers fits = record {
  counted = (fits, refl);
  publications = λ log has. absurd (contains_none log has);
}

has_numbers : (settings : Settings) (s : State) → FitsSigned w32 settings.initial_term → Holds settings s → HasNumbersOf32Bits s
has_numbers settings s initial_term holds = record {
  publications = holds.publications;
  initial_term = subst (λ (x : Settings). FitsSigned w32 x.initial_term) (sym holds.counted.1) initial_term;
}

pub publications_fit : PublicationsAreOf32Bits
publications_fit settings policy peers events fit =
    has_numbers settings (state_of (opened settings policy peers) events) fit.initial_term
    (all_hold settings (opened settings policy peers) events (opened_holds settings policy peers fit.first_session))
