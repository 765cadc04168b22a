-- Each destination is of a live publication, and no number of one is drawn twice.
use Rattle.std.proofs.Common.{◌≡◌, ℕ, ◌+◌, ◌<◌, ◌≤◌, ◌==◌, not, Bool, true, false, max, cond, List, [], ◌∷◌, ◌++◌, map, filter, length, Option, Some, None, Result, Ok, Err, inl, inr, refl, sym, subst, ap, ◌∙◌, ⊎_elim, arith}
use Rattle.std.specs.List.{Contains, list_any}
use Rattle.std.proofs.lemmas.Bool.{cases_Bool, eq-eqb}
use Rattle.std.proofs.lemmas.List.{length-append}
use Rattle.std.proofs.lemmas.List.Elements.{Contains-append_left, Contains-push, Contains-push_cases}
use Rattle.std.proofs.lemmas.List.Filters.{length-filter_both}
use Rattle.driver_core.specs.declared.state.event.Event.{Event}
use Rattle.driver_core.specs.declared.state.event.Event.TheVariants.{Attach, Command, Reload, Setup, Tick}
use Rattle.driver_core.specs.declared.state.event.Inputs.{Inputs}
use Rattle.driver_core.specs.declared.state.peer.Peer.{Peer}
use Rattle.driver_core.specs.declared.state.settings.Settings.{Settings}
use Rattle.driver_core.specs.Attaching.{attached}
use Rattle.driver_core.specs.Closing.{close, keep_alive}
use Rattle.driver_core.specs.Commands.{at_request, heard}
use Rattle.driver_core.specs.Conduct.{coming_to, conduct, drafted, state_after, state_of}
use Rattle.driver_core.specs.Counting.{counted, uncounted, valued, with_counter}
use Rattle.driver_core.specs.Directing.{directed, directed_by, directed_to, recalled, sole_address, target_of, with_destination, with_sole, without_destination}
use Rattle.driver_core.specs.Draft.{Draft, answered, refused, replied, replied_opening, told}
use Rattle.driver_core.specs.Leaving.{all_left, left}
use Rattle.driver_core.specs.Publishing.{published, with_directed_publication, with_publication}
use Rattle.driver_core.specs.Reloading.{in_force, reloaded}
use Rattle.driver_core.specs.Renewal.{renewed}
use Rattle.driver_core.specs.Requests.{DestinationRequest, wanted_by}
use Rattle.driver_core.specs.SettingUp.{image_made, with_image}
use Rattle.driver_core.specs.State.{State, at_moment, opened, ruled}
use Rattle.driver_core.specs.Subscribing.{subscribed, with_subscription}
use Rattle.driver_core.specs.Terminating.{stopped_for_good, terminated}
use Rattle.driver_core.specs.Ticking.{closed_past, late, numbers_of_closing, tick, ticked}
use Rattle.driver_core.specs.Unpublishing.{unpublished}
use Rattle.driver_core.specs.Unread.{dropping, without_unread}
use Rattle.driver_core.specs.Unsubscribing.{unsubscribed}
use Rattle.driver_laws.specs.DestinationLaws.{AreOfLive, ComeAbove, DestinationsAreOfLivePublications, HasPublication}
use Rattle.driver_laws.specs.Events.{AfterAnyEvents}
use Rattle.driver_laws.specs.OwnerLaws.{HasLog, HaveTheirLogs}
use Rattle.channel_uri.specs.declared.address.Address.{Address}
use Rattle.channel_uri.specs.Channel.{Shape}
use Rattle.client_registry.specs.declared.client.Client.{Client}
use Rattle.destinations.specs.declared.destination.Destination.{Destination}
use Rattle.destinations.specs.declared.fault.DestinationFault.{DestinationFault}
use Rattle.destinations.specs.Destinations.{DestinationList, added as named, adding as naming, cleared as all_recalled, is_of_others, is_other, without as without_named, without_sources}
use Rattle.log_readers.specs.Unread.{is_kept, without_unread as without_unread_in}
use Rattle.policy_core.specs.RuleList.{Rules}
use Rattle.stream_registry.specs.declared.pairs.Pair.{Pair}
use Rattle.stream_registry.specs.declared.row.Registration.{Registration}
use Rattle.stream_registry.specs.declared.row.LogRow.{LogRow}
use Rattle.stream_registry.specs.declared.wanted.Adding.{Adding}
use Rattle.stream_registry.specs.declared.wanted.Adding.TheVariants.{Join, Make}
use Rattle.stream_registry.specs.declared.wanted.ImageWanted.{ImageWanted}
use Rattle.stream_registry.specs.declared.wanted.Wanted.{Wanted}
use Rattle.stream_registry.specs.Adding.{added, log_of, subscribed as subscribed_in}
use Rattle.stream_registry.specs.Leaving.{left as left_in, unregistered, unsubscribed as unsubscribed_in}
use Rattle.stream_registry.specs.Lingering.{closed, is_closing, is_used, left_alone, settled, settled_one, stays_live}
use Rattle.stream_registry.specs.Origins.{is_published, is_published_by, left_by}
use Rattle.stream_registry.specs.declared.row.Origin.{Origin}
use Rattle.stream_registry.specs.declared.row.Origin.TheVariants.{Published, Remote}
use Rattle.stream_registry.specs.Streams.{Streams}
use Rattle.destinations.proofs.OrderLemmas.{adds, kept_orderly, none_orderly, stays_orderly}
use Rattle.driver_core.proofs.EventCases.{Cases, attach_cases, command_cases, reload_cases, set_up_cases}
use Rattle.driver_core.proofs.ListLemmas.{contains_none, left_was_there, passes_are_left}
use Rattle.driver_core.proofs.TargetLemmas.{target_registered}
use Rattle.driver_laws.proofs.ClosingLemmas.{any_of}
use Rattle.driver_laws.proofs.DroppingLemmas.{passes_test}
use Rattle.driver_laws.proofs.EveryLemmas.{after_any}
use Rattle.driver_laws.proofs.LeftLemmas.{mapped}
use Rattle.driver_laws.proofs.LoggedLemmas.{event_logged, opened_logged}
use Rattle.driver_laws.proofs.NumberLemmas.{settled_number}

-- ---- publications that stay

abbrev PublicationsStay : List LogRow → List LogRow → Type 0
PublicationsStay logs after = (source : ℕ) → HasPublication logs source → HasPublication after source

more_stay : (logs : List LogRow) (log : LogRow) → PublicationsStay logs (logs ++ log ∷ [])
more_stay logs log source was = record {
  log = was.log;
  stands = Contains-append_left logs (log ∷ []) was.log was.stands;
  source_is = was.source_is;
  published = was.published;
}

origin_stays : (now : ℕ) (origin : Origin) → is_published_by (left_by now origin) ≡ is_published_by origin
origin_stays now (Published exclusive since) = refl
origin_stays now (Remote address initial_term join) = refl

still_published : (used : Bool) (now : ℕ) (log : LogRow) → is_published (cond used log (left_alone now log)) ≡ is_published log
still_published true now log = refl
still_published false now log = origin_stays now log.origin

settled_stay : (registrations : List Registration) (now : ℕ) (logs : List LogRow) →
    PublicationsStay logs (map (settled_one registrations now) logs)
settled_stay registrations now logs source was =
    let used : Bool = is_used registrations was.log.number in
    record {
      log = settled_one registrations now was.log;
      stands = mapped (settled_one registrations now) logs was.log was.stands;
      source_is = settled_number used now was.log ∙ was.source_is;
      published = still_published used now was.log ∙ was.published;
    }

is_kept_published : (pairs : List Pair) (log : LogRow) → is_published log ≡ true → is_kept pairs log ≡ true
is_kept_published pairs log published = rw published refl

read_stay : (pairs : List Pair) (logs : List LogRow) → PublicationsStay logs (filter (is_kept pairs) logs)
read_stay pairs logs source was = record {
  log = was.log;
  stands = passes_are_left (is_kept pairs) logs was.log (is_kept_published pairs was.log was.published) was.stands;
  source_is = was.source_is;
  published = was.published;
}

-- ---- a table of destinations beside the logs

record Follows (before after : DestinationList) (logs : List LogRow) : Type 0 where
  named_of : AreOfLive after logs
  above : ComeAbove before after

-- where the table stays, and so do the publications
stays_named : (destinations : DestinationList) (logs after : List LogRow) → PublicationsStay logs after →
    AreOfLive destinations logs → AreOfLive destinations after
stays_named destinations logs after stay were = record {
  live = λ destination has. stay destination.source (were.live destination has);
  orderly = were.orderly;
  all = were.all;
}

stays : (destinations : DestinationList) (logs after : List LogRow) → PublicationsStay logs after →
    AreOfLive destinations logs → Follows destinations destinations after
stays destinations logs after stay were = record {
  named_of = stays_named destinations logs after stay were;
  above = record { last = omega arith; comes = λ destination has. inl has };
}

same : (destinations : DestinationList) (logs : List LogRow) → AreOfLive destinations logs →
    Follows destinations destinations logs
same destinations logs were = stays destinations logs logs (λ source has. has) were

-- ---- what goes

fewer : {X : Type 0} (test : X → Bool) (rows : List X) → length (filter test rows) ≤ length rows
fewer test rows =
    let both : length (filter test rows) + length (filter (λ row. not (test row)) rows) ≡ length rows =
    length-filter_both test (λ row. not (test row)) (λ row. refl) rows in
    omega (arith, both)

-- those that pass the test stay, and have their publications
passed : (destinations : DestinationList) (logs after : List LogRow) (test : Destination → Bool) →
    ((destination : Destination) → Contains (filter test destinations.rows) destination →
    HasPublication after destination.source) → AreOfLive destinations logs →
    Follows destinations (record destinations { rows = filter test destinations.rows }) after
passed destinations logs after test live were =
    let rows : List Destination = destinations.rows in
    record {
      named_of = record {
        live = live;
        orderly = kept_orderly test destinations.last rows were.orderly;
        all = let less = fewer test rows in
            let few = were.all in
            omega (arith, less, few);
      };
      above = record {
        last = omega arith;
        comes = λ destination has. inl (left_was_there test rows destination has);
      };
    }

recalled_follows : (destinations : DestinationList) (logs : List LogRow) (source : ℕ) (address : Address) →
    AreOfLive destinations logs → Follows destinations (without_named destinations source address) logs
unfolding without_named
recalled_follows destinations logs source address were =
    passed destinations logs logs (is_other source address)
    (λ destination has.
    were.live destination (left_was_there (is_other source address) destinations.rows destination has)) were

-- a destination whose publication closes goes with it
closing_live : (destinations : DestinationList) (now : ℕ) (silent : List ℕ) (logs : List LogRow) (destination : Destination) →
    is_of_others (numbers_of_closing now silent logs) destination ≡ true → HasPublication logs destination.source →
    HasPublication (filter (stays_live now silent) logs) destination.source
closing_live destinations now silent logs destination others was =
    let log : LogRow = was.log in
    ⊎_elim
    (λ closes.
    let there = passes_are_left (is_closing now silent) logs log closes was.stands in
    let told : list_any (λ (source : ℕ). source == destination.source) (numbers_of_closing now silent logs) ≡ true =
    any_of (λ (source : ℕ). source == destination.source) (numbers_of_closing now silent logs) log.number
    (mapped (λ (l : LogRow). l.number) (filter (is_closing now silent) logs) log there)
    (eq-eqb log.number destination.source was.source_is) in
    let never : false ≡ true = sym (ap not told) ∙ others in
    absurd (cc never))
    (λ lives.
    record {
      log = log;
      stands = passes_are_left (stays_live now silent) logs log (ap not lives) was.stands;
      source_is = was.source_is;
      published = was.published;
    })
    (cases_Bool (is_closing now silent log))

closed_follows : (destinations : DestinationList) (now : ℕ) (silent : List ℕ) (logs : List LogRow) → AreOfLive destinations logs →
    Follows destinations (without_sources destinations (numbers_of_closing now silent logs))
    (filter (stays_live now silent) logs)
unfolding without_sources
closed_follows destinations now silent logs were =
    let test : Destination → Bool = is_of_others (numbers_of_closing now silent logs) in
    passed destinations logs (filter (stays_live now silent) logs) test
    (λ destination has.
    closing_live destinations now silent logs destination (passes_test test destinations.rows destination has)
    (were.live destination (left_was_there test destinations.rows destination has))) were

all_gone : (destinations : DestinationList) (logs : List LogRow) → AreOfLive destinations logs →
    Follows destinations (all_recalled destinations) []
all_gone destinations logs were = record {
  named_of = record {
    live = λ destination has. absurd (contains_none destination has);
    orderly = none_orderly destinations.last;
    all = omega arith;
  };
  above = record { last = omega arith; comes = λ destination has. absurd (contains_none destination has) };
}

-- ---- what comes

named_follows : (destinations : DestinationList) (logs : List LogRow) (source : ℕ) (address : Address) (principal : ℕ)
    (channel : Shape) (number : ℕ) → naming destinations source address ≡ Ok number → HasPublication logs source →
    AreOfLive destinations logs → Follows destinations (named destinations source address principal channel) logs
unfolding named
named_follows destinations logs source address principal channel number is has were =
    let rows : List Destination = destinations.rows in
    let last : ℕ = destinations.last in
    let row : Destination = record {
      number = last + 1;
      source = source;
      address = address;
      principal = principal;
      channel = channel;
    } in
    let room = (adds destinations source address number is).places in
    record {
      named_of = record {
        live = λ destination stands.
            ⊎_elim (λ before. were.live destination before)
            (λ this. subst (λ (d : Destination). HasPublication logs d.source) this has)
            (Contains-push_cases rows row destination stands);
        orderly = stays_orderly.added destinations source number address principal channel were.orderly is;
        all = let more = length-append rows (row ∷ []) in omega (arith, more, room);
      };
      above = record {
        last = omega arith;
        comes = λ destination stands.
            ⊎_elim (λ before. inl before)
            (λ this. inr (subst (λ (d : Destination). last < d.number) this (omega arith)))
            (Contains-push_cases rows row destination stands);
      };
    }

tried_follows : (destinations : DestinationList) (logs : List LogRow) (source : ℕ) (address : Address) (principal : ℕ)
    (channel : Shape) (found : Result ℕ DestinationFault) → naming destinations source address ≡ found →
    HasPublication logs source → AreOfLive destinations logs →
    Follows destinations (directed_by destinations source address principal channel found) logs
tried_follows destinations logs source address principal channel (Ok number) is has' were =
    named_follows destinations logs source address principal channel number is has' were
tried_follows destinations logs source address principal channel (Err why) is has' were = same destinations logs were

sole_follows : (destinations : DestinationList) (logs : List LogRow) (source principal : ℕ) (channel : Shape)
    (address : Option Address) → HasPublication logs source → AreOfLive destinations logs →
    Follows destinations (directed_to destinations source principal channel address) logs
sole_follows destinations logs source principal channel None has' were = same destinations logs were
sole_follows destinations logs source principal channel (Some address) has' were =
    tried_follows destinations logs source address principal channel (naming destinations source address) refl has' were

-- ---- each event

abbrev Follow : State → Draft → Type 0
Follow s draft = Follows s.destinations draft.after.destinations draft.after.streams.sources

publication_follows : (t : State) (client : Client) (wanted : Wanted) (place : ℕ) (adding : Adding) →
    AreOfLive t.destinations t.streams.sources →
    Follows t.destinations (with_sole t client.principal wanted adding)
    (added t.streams (t.last_number + 1) client.number wanted place adding).sources
unfolding with_sole
publication_follows t client wanted place (Join source session) were = same t.destinations t.streams.sources were
publication_follows t client wanted place (Make session) were =
    let log : LogRow = log_of t.streams (t.last_number + 1) wanted place session in
    let logs : List LogRow = t.streams.sources ++ log ∷ [] in
    sole_follows t.destinations logs (t.last_number + 1) client.principal wanted.channel (sole_address wanted.channel)
    (record { log = log; stands = Contains-push t.streams.sources log; source_is = refl; published = refl })
    (stays_named t.destinations t.streams.sources logs (more_stay t.streams.sources log) were)

target_published : (t : State) (request : DestinationRequest) → HaveTheirLogs t.streams →
    target_of t request.client.number request.fields.registration request.channel ≡ Ok request.target →
    HasPublication t.streams.sources request.target.source
target_published t request logged is =
    let of_own = target_registered t request.client.number request.fields.registration request.channel request.target is in
    let was : HasLog t.streams.sources of_own.registration.source = logged of_own.registration of_own.stands in
    record {
      log = was.log;
      stands = was.stands;
      source_is = was.source_is ∙ of_own.source_is;
      published = was.published;
    }

unregistered_follows : (destinations : DestinationList) (streams : Streams) (client number now : ℕ) →
    AreOfLive destinations streams.sources →
    Follows destinations destinations (unregistered streams client number now).sources
unfolding unregistered settled
unregistered_follows destinations streams client number now were =
    stays destinations streams.sources _ (settled_stay _ now streams.sources) were

left_follows : (destinations : DestinationList) (streams : Streams) (client now : ℕ) →
    AreOfLive destinations streams.sources → Follows destinations destinations (left_in streams client now).sources
unfolding left_in settled
left_follows destinations streams client now were =
    stays destinations streams.sources _ (settled_stay _ now streams.sources) were

command_follows : (s : State) (now handle : ℕ) (bytes : List ℕ) → HaveTheirLogs s.streams →
    AreOfLive s.destinations s.streams.sources → Cases (Follow s) (at_moment s now) handle bytes
unfolding at_moment heard refused replied told subscribed with_subscription subscribed_in published with_directed_publication with_publication replied_opening unpublished unsubscribed unsubscribed_in keep_alive counted with_counter valued uncounted directed with_destination recalled without_destination close left terminated stopped_for_good
command_follows s now handle bytes logged were =
    let stay : Follows s.destinations s.destinations s.streams.sources = same s.destinations s.streams.sources were in
    record {
      unheard = λ correlation refusal plain not_heard. stay;
      refusal = λ decisions client correlation refusal plain was_heard. stay;
      denial = λ client correlation act channel stream was_heard found asked denies. stay;
      subscription = λ request was_heard asks allows room. stay;
      publication = λ request adding was_heard asks allows is room placed.
          publication_follows (at_request s now handle) request.client (wanted_by request) _ adding were;
      publication_removal = λ client correlation fields was_heard asks.
          unregistered_follows s.destinations s.streams client.number fields.registration (max s.moment now) were;
      removal = λ request was_heard asks. stay;
      keepalive = λ was_heard. stay;
      destination = λ request number was_heard asks allows manual is.
          named_follows s.destinations s.streams.sources request.target.source request.target.address
          request.client.principal request.channel number is
          (target_published (at_moment s now) request logged asks.names_target) were;
      destination_removal = λ client correlation fields target was_heard asks is.
          recalled_follows s.destinations s.streams.sources target.source target.address were;
      counter = λ client correlation fields was_heard asks allows room. stay;
      value = λ client correlation fields was_heard asks. stay;
      counter_removal = λ client correlation fields was_heard asks. stay;
      closing = λ client correlation was_heard asks.
          left_follows s.destinations s.streams client.number (max s.moment now) were;
      termination = λ client correlation fields was_heard asks allows.
          all_gone s.destinations s.streams.sources were;
    }

-- as clients go one by one
record LeavesNamed (s after : State) : Type 0 where
  destinations : after.destinations ≡ s.destinations
  named_of : AreOfLive after.destinations after.streams.sources

all_left_named : (s : State) (clients : List ℕ) → AreOfLive s.destinations s.streams.sources →
    LeavesNamed s (all_left s clients)
unfolding left
all_left_named s [] were = record { destinations = refl; named_of = were }
all_left_named s (client ∷ clients) were =
    let one = left_follows s.destinations s.streams client s.moment were in
    let rest = all_left_named (left s client) clients one.named_of in
    record { destinations = rest.destinations; named_of = rest.named_of }

ticked_follows : (s between : State) (clients silent : List ℕ) → LeavesNamed s between →
    Follow s (ticked between clients silent)
unfolding ticked closed_past closed
ticked_follows s between clients silent leaves =
    rw (← leaves.destinations)
    (closed_follows between.destinations between.moment silent between.streams.sources leaves.named_of)

image_follows : (s : State) (wanted : ImageWanted) (place : ℕ) → AreOfLive s.destinations s.streams.sources →
    Follow s (image_made s wanted place)
unfolding image_made with_image answered
image_follows s wanted place were =
    stays s.destinations s.streams.sources _ (more_stay s.streams.sources _) were

draft_follows : (s : State) (event : Event) (inputs : Inputs) → HaveTheirLogs s.streams →
    AreOfLive s.destinations s.streams.sources → Follow s (drafted s event inputs)
unfolding drafted at_moment answered attached reloaded in_force tick
draft_follows s (Attach now principal) inputs logged were =
    let stay : Follows s.destinations s.destinations s.streams.sources = same s.destinations s.streams.sources were in
    attach_cases (Follow s) (at_moment s now) principal stay stay stay
draft_follows s (Command now handle bytes) inputs logged were =
    command_cases (Follow s) s now handle bytes inputs (command_follows s now handle bytes logged were)
draft_follows s (Reload now policy) inputs logged were =
    let stay : Follows s.destinations s.destinations s.streams.sources = same s.destinations s.streams.sources were in
    reload_cases (Follow s) (at_moment s now) policy (λ room. stay) (λ full. stay)
draft_follows s (Tick now) inputs logged were =
    let at : State = at_moment s now in
    let leaves : LeavesNamed at (all_left at (late at)) = all_left_named at (late at) were in
    ticked_follows s (all_left at (late at)) (late at) inputs.silent
    (record { destinations = leaves.destinations; named_of = leaves.named_of })
draft_follows s (Setup now local from setup) inputs logged were =
    let stay : Follows s.destinations s.destinations s.streams.sources = same s.destinations s.streams.sources were in
    set_up_cases (Follow s) (at_moment s now) local from setup (λ fault. stay)
    (λ join place is set. image_follows (at_moment s now) _ place were)

-- a publication stays, read or not
unread_follows : (before : DestinationList) (t : State) → Follows before t.destinations t.streams.sources →
    Follows before (without_unread t).destinations (without_unread t).streams.sources
unfolding without_unread without_unread_in
unread_follows before t follows = record {
  named_of = stays_named t.destinations t.streams.sources _ (read_stay _ t.streams.sources) follows.named_of;
  above = follows.above;
}

event_follows : (s : State) (event : Event) (inputs : Inputs) → HaveTheirLogs s.streams →
    AreOfLive s.destinations s.streams.sources →
    Follows s.destinations (state_after s event inputs).destinations (state_after s event inputs).streams.sources
unfolding conduct renewed dropping ruled
event_follows s event inputs logged were =
    unread_follows s.destinations (drafted (coming_to s event) event inputs).after
    (draft_follows (coming_to s event) event inputs logged were)

-- ---- many

above_all : (before between after : DestinationList) → ComeAbove before between → ComeAbove between after →
    ComeAbove before after
above_all before between after first last = record {
  last = let one = first.last in
      let other = last.last in
      omega (arith, one, other);
  comes = λ destination has.
      ⊎_elim (λ was. first.comes destination was)
      (λ new.
      let one = first.last in
      inr (omega (arith, one, new)))
      (last.comes destination has);
}

all_above : (s : State) (later : List (Event × Inputs)) → HaveTheirLogs s.streams →
    AreOfLive s.destinations s.streams.sources → ComeAbove s.destinations (state_of s later).destinations
all_above s [] logged were = record { last = omega arith; comes = λ destination has. inl has }
all_above s (event ∷ later) logged were =
    let next = event_follows s event.0 event.1 logged were in
    above_all s.destinations (state_after s event.0 event.1).destinations
    (state_of (state_after s event.0 event.1) later).destinations next.above
    (all_above (state_after s event.0 event.1) later (event_logged s event.0 event.1 logged) next.named_of)

-- ---- every registry

opened_named : (settings : Settings) (policy : Rules) (peers : List Peer) →
    AreOfLive (opened settings policy peers).destinations (opened settings policy peers).streams.sources
unfolding opened
opened_named settings policy peers = record {
  live = λ destination has. absurd (contains_none destination has);
  orderly = none_orderly 0;
  all = omega arith;
}

both_named : AfterAnyEvents (λ s. HaveTheirLogs s.streams × AreOfLive s.destinations s.streams.sources)
both_named =
    after_any (λ s. HaveTheirLogs s.streams × AreOfLive s.destinations s.streams.sources)
    (λ settings policy peers. (opened_logged settings policy peers, opened_named settings policy peers))
    (λ s event inputs both.
    (event_logged s event inputs both.0, (event_follows s event inputs both.0 both.1).named_of))

pub destinations_lawful : DestinationsAreOfLivePublications
destinations_lawful settings policy peers events =
    let both = both_named settings policy peers events in
    record {
      of_live = both.1;
      never_again = λ later. all_above _ later both.0 both.1;
    }
