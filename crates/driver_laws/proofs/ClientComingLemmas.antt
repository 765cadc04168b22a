-- A client that is there behind an event was there before, or is made by it, and has the next id then.
use Rattle.std.proofs.Common.{◌≡◌, ℕ, ◌<◌, ◌==◌, Bool, true, false, cond, List, [], ◌∷◌, max, inl, inr, refl, sym, ap, ◌∙◌, ◌⊎◌, ⊎_elim, arith}
use Rattle.std.specs.List.{Contains}
use Rattle.std.proofs.lemmas.Bool.{cond_both}
use Rattle.std.proofs.lemmas.List.Elements.{Contains-push_cases}
use Rattle.driver_core.specs.Directing.{directed, recalled, with_destination, without_destination}
use Rattle.driver_core.specs.declared.state.event.Event.{Event}
use Rattle.driver_core.specs.declared.state.event.Event.TheVariants.{Attach, Command, Reload, Setup, Tick}
use Rattle.driver_core.specs.declared.state.event.Inputs.{Inputs}
use Rattle.driver_core.specs.declared.state.outcome.Response.TheVariants as response
use Rattle.driver_core.specs.Attaching.{attach, attached}
use Rattle.driver_core.specs.Closing.{close, keep_alive}
use Rattle.driver_core.specs.Commands.{heard, at_request}
use Rattle.driver_core.specs.Conduct.{coming_to, conduct, drafted, state_after}
use Rattle.driver_core.specs.Counting.{counted, uncounted, valued, with_counter}
use Rattle.driver_core.specs.Draft.{Draft, answered, refused, replied, replied_opening, told}
use Rattle.driver_core.specs.Leaving.{all_left, left}
use Rattle.driver_core.specs.Publishing.{published, with_directed_publication, with_publication}
use Rattle.driver_core.specs.Reloading.{in_force, reloaded}
use Rattle.driver_core.specs.Renewal.{renewed}
use Rattle.driver_core.specs.SettingUp.{image_made, with_image}
use Rattle.driver_core.specs.State.{State, at_moment, ruled}
use Rattle.driver_core.specs.Subscribing.{subscribed, with_subscription}
use Rattle.driver_core.specs.Terminating.{stopped_for_good, terminated}
use Rattle.driver_core.specs.Ticking.{closed_past, late, tick, ticked}
use Rattle.driver_core.specs.Unpublishing.{unpublished}
use Rattle.driver_core.specs.Unread.{dropping, without_unread}
use Rattle.driver_core.specs.Unsubscribing.{unsubscribed}
use Rattle.driver_laws.specs.AttachingLaws.{IsAttachedBy}
use Rattle.driver_laws.specs.NumberLaws.{WasAttached}
use Rattle.client_registry.specs.declared.client.Client.{Client}
use Rattle.client_registry.specs.Clients.{admitted, has_room, heard_one, is_other, touched, without}
use Rattle.driver_core.proofs.EventCases.{Cases, command_cases, reload_cases, set_up_cases}
use Rattle.driver_core.proofs.ListLemmas.{contains_none, left_was_there}
use Rattle.driver_laws.proofs.LeftLemmas.{IsImage, from_map}

-- where the clients of a registry come from
abbrev AllCome : State → Event → List Client → Type 0
AllCome s event rows = (client : Client) → Contains rows client → WasAttached s client ⊎ IsAttachedBy s event client

abbrev Comes : State → Event → Draft → Type 0
Comes s event draft = AllCome s event draft.after.clients.rows

all_stay : (s : State) (event : Event) → AllCome s event s.clients.rows
all_stay s event client has = inl (record { before = client; stood = has; same = refl })

one_heard : (b : Bool) (row : Client) (moment : ℕ) →
    cond b (record row { heard = moment }) row
    ≡ record row { heard = (cond b (record row { heard = moment }) row).heard }
one_heard true row moment = refl
one_heard false row moment = refl

all_heard : (s : State) (event : Event) (handle now : ℕ) → AllCome s event (touched s.clients handle now).rows
unfolding touched
all_heard s event handle now client has =
    let image : IsImage (heard_one handle now) s.clients.rows client =
    from_map (heard_one handle now) s.clients.rows client has in
    inl (record {
      before = image.of;
      stood = image.stood;
      same = image.is ∙ one_heard (image.of.number == handle) image.of (max image.of.heard now)
          ∙ ap (λ (row : Client). record image.of { heard = row.heard }) (sym image.is);
    })

one_comes : (s : State) (now principal : ℕ) → s.stopped ≡ false → has_room s.clients ≡ true →
    AllCome s (Attach now principal) (admitted s.clients principal (max s.moment now)).rows
unfolding admitted
one_comes s now principal runs room client has =
    ⊎_elim (λ stood. all_stay s (Attach now principal) client stood)
    (λ is.
    inr (record {
      moment = now;
      principal = principal;
      event_is = refl;
      runs = runs;
      room = room;
      made_is = sym is;
    }))
    (Contains-push_cases s.clients.rows _ client has)

fewer_left : (s between : State) (event : Event) (client : ℕ) → AllCome s event between.clients.rows →
    AllCome s event (left between client).clients.rows
unfolding left without
fewer_left s between event client come row has =
    come row (left_was_there (is_other client) between.clients.rows row has)

all_left_come : (s between : State) (event : Event) (clients : List ℕ) → AllCome s event between.clients.rows →
    AllCome s event (all_left between clients).clients.rows
all_left_come s between event [] come = come
all_left_come s between event (client ∷ clients) come =
    all_left_come s (left between client) event clients (fewer_left s between event client come)

command_comes : (s : State) (now handle : ℕ) (bytes : List ℕ) →
    Cases (Comes s (Command now handle bytes)) (at_moment s now) handle bytes
unfolding at_moment heard refused replied told subscribed with_subscription published with_directed_publication with_publication replied_opening unpublished unsubscribed keep_alive counted with_counter valued uncounted directed with_destination recalled without_destination close terminated stopped_for_good
command_comes s now handle bytes =
    let event : Event = Command now handle bytes in
    let heard' : AllCome s event (touched s.clients handle (max s.moment now)).rows =
    all_heard s event handle (max s.moment now) in
    record {
      unheard = λ correlation refusal plain not_heard. all_stay s event;
      refusal = λ decisions client correlation refusal plain was_heard. heard';
      denial = λ client correlation act channel stream was_heard found asked denies. heard';
      subscription = λ request was_heard asks allows room. heard';
      publication = λ request adding was_heard asks allows is room placed. heard';
      publication_removal = λ client correlation fields was_heard asks. heard';
      removal = λ request was_heard asks. heard';
      keepalive = λ was_heard. heard';
      destination = λ request number was_heard asks allows manual is.
          heard';
      destination_removal = λ client correlation fields target was_heard asks is.
          heard';
      counter = λ client correlation fields was_heard asks allows room. heard';
      value = λ client correlation fields was_heard asks. heard';
      counter_removal = λ client correlation fields was_heard asks. heard';
      closing = λ client correlation was_heard asks. fewer_left s (at_request s now handle) event client.number heard';
      termination = λ client correlation fields was_heard asks allows row has. absurd (contains_none row has);
    }

ticked_comes : (s between : State) (event : Event) (clients silent : List ℕ) → AllCome s event between.clients.rows →
    Comes s event (ticked between clients silent)
unfolding ticked closed_past
ticked_comes s between event clients silent come = come

attach_comes : (s : State) (now principal : ℕ) → Comes s (Attach now principal) (attach (at_moment s now) principal)
unfolding attach attached answered at_moment
attach_comes s now principal =
    let event : Event = Attach now principal in
    let t : State = at_moment s now in
    cond_both s.stopped (answered t response.Stopped)
    (cond (has_room s.clients) (attached t principal) (answered t response.Full)) (Comes s event)
    (λ stopped. all_stay s event)
    (λ runs.
    cond_both (has_room s.clients) (attached t principal) (answered t response.Full) (Comes s event)
    (λ room. one_comes s now principal runs room)
    (λ full. all_stay s event))

draft_comes : (s : State) (event : Event) (inputs : Inputs) → Comes s event (drafted s event inputs)
unfolding drafted at_moment answered reloaded in_force tick image_made with_image
draft_comes s (Attach now principal) inputs = attach_comes s now principal
draft_comes s (Command now handle bytes) inputs =
    command_cases (Comes s (Command now handle bytes)) s now handle bytes inputs (command_comes s now handle bytes)
draft_comes s (Reload now policy) inputs =
    reload_cases (Comes s (Reload now policy)) (at_moment s now) policy (λ room. all_stay s (Reload now policy))
    (λ full. all_stay s (Reload now policy))
draft_comes s (Tick now) inputs =
    ticked_comes s (all_left (at_moment s now) (late (at_moment s now))) (Tick now) (late (at_moment s now)) inputs.silent
    (all_left_come s (at_moment s now) (Tick now) (late (at_moment s now)) (all_stay s (Tick now)))
draft_comes s (Setup now local from setup) inputs =
    set_up_cases (Comes s (Setup now local from setup)) (at_moment s now) local from setup
    (λ fault. all_stay s (Setup now local from setup)) (λ join place is set. all_stay s (Setup now local from setup))

pub clients_attached : (s : State) (event : Event) (inputs : Inputs) (client : Client) →
    Contains (state_after s event inputs).clients.rows client →
    WasAttached s client ⊎ IsAttachedBy (coming_to s event) event client
unfolding conduct renewed dropping without_unread ruled
clients_attached s event inputs client has =
    ⊎_elim
    (λ (was : WasAttached (coming_to s event) client).
    inl (record { before = was.before; stood = was.stood; same = was.same }))
    (λ made. inr made)
    (draft_comes (coming_to s event) event inputs client has)

pub clients_come : (s : State) (event : Event) (inputs : Inputs) (client : Client) →
    Contains (state_after s event inputs).clients.rows client →
    WasAttached s client ⊎ (s.clients.last < client.number)
unfolding ruled
clients_come s event inputs client has =
    ⊎_elim (λ was. inl was)
    (λ (made : IsAttachedBy (coming_to s event) event client).
    let next = ap (λ (row : Client). row.number) made.made_is in
    inr (omega (arith, next)))
    (clients_attached s event inputs client has)
