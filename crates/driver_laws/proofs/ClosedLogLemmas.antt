-- What an event closes are the logs that were there and are no more.
use Rattle.std.proofs.Common.{◌≡◌, ℕ, ◌+◌, ◌≤◌, ◌==◌, ◌||◌, not, max, Bool, true, false, cond, List, [], ◌∷◌, map, filter, inl, inr, refl, sym, subst, ap, ◌∙◌, ◌⊎◌, ⊎_elim, arith}
use Rattle.std.specs.List.{Contains, list_any}
use Rattle.std.proofs.lemmas.Bool.{cases_Bool, eqb-true, eq-eqb}
use Rattle.std.proofs.lemmas.List.Elements.{All-contains, Contains-append_left, Contains-append_right, Contains-push, filter_passes}
use Rattle.driver_core.specs.Directing.{directed, recalled, with_destination, without_destination}
use Rattle.driver_core.specs.declared.state.event.Event.{Event}
use Rattle.driver_core.specs.declared.state.event.Inputs.{Inputs}
use Rattle.driver_core.specs.declared.state.event.Event.TheVariants.{Attach, Command, Reload, Setup, Tick}
use Rattle.driver_core.specs.Attaching.{attached}
use Rattle.driver_core.specs.Closing.{close, keep_alive}
use Rattle.driver_core.specs.Commands.{heard}
use Rattle.driver_core.specs.Conduct.{coming_to, conduct, drafted, moment_told}
use Rattle.driver_core.specs.Counting.{counted, uncounted, valued, with_counter}
use Rattle.driver_core.specs.Draft.{Draft, answered, refused, replied, replied_opening, told}
use Rattle.driver_core.specs.Leaving.{all_left, left}
use Rattle.driver_core.specs.Publishing.{published, with_directed_publication, with_publication}
use Rattle.driver_core.specs.Reloading.{in_force, reloaded}
use Rattle.driver_core.specs.Renewal.{renewed}
use Rattle.driver_core.specs.Requests.{wanted_by}
use Rattle.driver_core.specs.State.{State, at_moment, ruled}
use Rattle.driver_core.specs.Subscribing.{subscribed, with_subscription}
use Rattle.driver_core.specs.Terminating.{stopped_for_good, terminated}
use Rattle.driver_core.specs.Ticking.{closed_past, late, tick, ticked}
use Rattle.driver_core.specs.Unpublishing.{unpublished}
use Rattle.driver_core.specs.Unsubscribing.{unsubscribed}
use Rattle.driver_core.specs.SettingUp.{image_made, with_image}
use Rattle.driver_core.specs.Unread.{dropping, is_closed, without_unread}
use Rattle.driver_core.specs.Pairs.{pairs_of}
use Rattle.driver_core.specs.Soundness.{log_of}
use Rattle.driver_laws.specs.ClosingLaws.{ClosedLogsWereThere, IsSameLog, is_no_more}
use Rattle.driver_laws.specs.NumberLaws.{AreRising, Rises}
use Rattle.driver_laws.specs.PublishingLaws.{IsImageMadeBy, IsLogMadeBy, WasLive}
use Rattle.stream_registry.specs.declared.row.LogRow.{LogRow}
use Rattle.stream_registry.specs.declared.row.Registration.{Registration}
use Rattle.stream_registry.specs.declared.wanted.Adding.{Adding}
use Rattle.stream_registry.specs.declared.wanted.Adding.TheVariants.{Join, Make}
use Rattle.stream_registry.specs.declared.wanted.Wanted.{Wanted}
use Rattle.stream_registry.specs.Adding.{added, subscribed as subscribed_in}
use Rattle.stream_registry.specs.Leaving.{left as left_in, unregistered, unsubscribed as unsubscribed_in}
use Rattle.stream_registry.specs.Lingering.{closed, closing_of, is_closing, stays_live, is_used, left_alone, place_of, settled, settled_one}
use Rattle.stream_registry.specs.Streams.{Streams}
use Rattle.stream_registry.specs.declared.lingering.LogPlace.{LogPlace}
use Rattle.stream_registry.specs.declared.pairs.Pair.{Pair}
use Rattle.stream_registry.specs.declared.wanted.ImageWanted.{ImageWanted}
use Rattle.log_readers.specs.Unread.{is_kept, is_unread, without_unread as without_unread_in}
use Rattle.driver_core.proofs.EventCases.{Cases, attach_cases, command_cases, reload_cases, set_up_cases}
use Rattle.driver_core.proofs.ListLemmas.{left_was_there, passes_are_left}
use Rattle.driver_laws.proofs.ClosingLemmas.{any_of}
use Rattle.driver_laws.proofs.DroppingLemmas.{Found, found_of, passes_test}
use Rattle.driver_laws.proofs.GoingLemmas.{unread_alike}
use Rattle.driver_laws.proofs.NewNumberLemmas.{image_number}
use Rattle.driver_laws.proofs.PublishingOnlyLemmas.{drafts_only}
use Rattle.driver_laws.proofs.LeftLemmas.{IsImage, from_map, mapped}
use Rattle.driver_laws.proofs.LoggedLemmas.{IsFound}
use Rattle.driver_laws.proofs.NumberLemmas.{all_left_rises, are_drawn, moment_rises, numbers_rise, settled_number, source_number}
use Rattle.driver_laws.proofs.RisingLemmas.{rises_unique}
use Rattle.driver_laws.proofs.TurningLemmas.{drawn, rising_at}

-- ---- logs by their numbers

-- a log of that number is among these
abbrev has_source : List LogRow → ℕ → Bool
has_source logs source = list_any (λ (other : LogRow). other.number == source) logs

abbrev lacks_source : List LogRow → ℕ → Bool
lacks_source logs source = not (has_source logs source)

any_is : {X : Type 0} (b : Bool) (test : X → Bool) (x : X) (xs : List X) → test x ≡ b →
    (list_any test xs ≡ true → (y : X) × IsFound test xs y) → (b || list_any test xs) ≡ true →
    (y : X) × IsFound test (x ∷ xs) y
any_is true test x xs passes later any =
    (x, record { stands = Contains-append_left (x ∷ []) xs x (Contains-push [] x); passes = passes })
any_is false test x xs passes later any =
    let rest = later any in
    (rest.0, record { stands = Contains-append_right (x ∷ []) xs rest.0 rest.1.stands; passes = rest.1.passes })

-- where some row passes there is one that does
some_passes : {X : Type 0} (test : X → Bool) (xs : List X) → list_any test xs ≡ true → (y : X) × IsFound test xs y
some_passes test [] any = absurd (cc any)
some_passes test (x ∷ xs) any = any_is (test x) test x xs refl (some_passes test xs) any

-- where a log stands that has the number of another, the other's is there
has_number : (logs : List LogRow) (log : LogRow) (source : ℕ) → Contains logs log → log.number ≡ source →
    has_source logs source ≡ true
has_number logs log source has same =
    any_of (λ (other : LogRow). other.number == source) logs log has (eq-eqb log.number source same)

-- ---- where no log goes

none_fails : {X : Type 0} (test : X → Bool) (xs : List X) → ((x : X) → Contains xs x → test x ≡ false) →
    filter test xs ≡ []
none_fails test [] each = refl
none_fails test (x ∷ xs) each =
    rw (each x (Contains-append_left (x ∷ []) xs x (Contains-push [] x)))
    (none_fails test xs (λ y has. each y (Contains-append_right (x ∷ []) xs y has)))

-- each log's number is among these
abbrev AllStay : List LogRow → List LogRow → Type 0
AllStay logs after = (log : LogRow) → Contains logs log → has_source after log.number ≡ true

nothing_goes : (logs after : List LogRow) → AllStay logs after →
    [] ≡ map place_of (filter (λ (log : LogRow). lacks_source after log.number) logs)
nothing_goes logs after stay =
    ap (map place_of)
    (sym (none_fails (λ (log : LogRow). lacks_source after log.number) logs (λ log has. ap not (stay log has))))

as_they_are : (logs : List LogRow) → AllStay logs logs
as_they_are logs log has = has_number logs log log.number has refl

stay_settled : (registrations : List Registration) (now : ℕ) (logs : List LogRow) →
    AllStay logs (map (settled_one registrations now) logs)
stay_settled registrations now logs log has =
    has_number (map (settled_one registrations now) logs) (settled_one registrations now log) log.number
    (mapped (settled_one registrations now) logs log has)
    (settled_number (is_used registrations log.number) now log)

stay_added : (streams : Streams) (number client : ℕ) (wanted : Wanted) (place : ℕ) (adding : Adding) →
    AllStay streams.sources (added streams number client wanted place adding).sources
stay_added streams number client wanted place (Join source session) log has = as_they_are streams.sources log has
stay_added streams number client wanted place (Make session) log has =
    has_number _ log log.number (Contains-append_left streams.sources _ log has) refl

-- ---- where all go

all_pass : {X : Type 0} (test : X → Bool) (xs : List X) → ((x : X) → test x ≡ true) → xs ≡ filter test xs
all_pass test [] each = refl
all_pass {X = X} test (x ∷ xs) each = rw (each x) (ap (λ (ys : List X). x ∷ ys) (all_pass test xs each))

all_go : (logs : List LogRow) →
    map place_of logs ≡ map place_of (filter (λ (log : LogRow). lacks_source [] log.number) logs)
all_go logs = ap (map place_of) (all_pass (λ (log : LogRow). lacks_source [] log.number) logs (λ log. refl))

-- ---- at a tick

-- the two have the logs of the same numbers at the same places
abbrev SamePlaces : List LogRow → List LogRow → Type 0
SamePlaces logs others =
    (test : ℕ → Bool) →
    map place_of (filter (λ (log : LogRow). test log.number) logs)
    ≡ map place_of (filter (λ (log : LogRow). test log.number) others)

one_passes : (b : Bool) (one other : LogRow) (some more : List LogRow) → place_of one ≡ place_of other →
    map place_of some ≡ map place_of more →
    map place_of (cond b (one ∷ some) some) ≡ map place_of (cond b (other ∷ more) more)
one_passes true one other some more same rest = (λ i. same i ∷ rest i)
one_passes false one other some more same rest = rest

one_by_number : (test : ℕ → Bool) (one other : LogRow) (some more : List LogRow) → one.number ≡ other.number →
    place_of one ≡ place_of other → map place_of some ≡ map place_of more →
    map place_of (cond (test one.number) (one ∷ some) some) ≡ map place_of (cond (test other.number) (other ∷ more) more)
one_by_number test one other some more number same rest =
    subst (λ (n : ℕ). map place_of (cond (test n) (one ∷ some) some) ≡ map place_of (cond (test other.number) (other ∷ more) more))
    (sym number) (one_passes (test other.number) one other some more same rest)

settled_place : (b : Bool) (now : ℕ) (log : LogRow) → place_of (cond b log (left_alone now log)) ≡ place_of log
settled_place true now log = refl
settled_place false now log = refl

settled_places : (registrations : List Registration) (now : ℕ) (logs : List LogRow) →
    SamePlaces (map (settled_one registrations now) logs) logs
settled_places registrations now [] test = refl
settled_places registrations now (log ∷ logs) test =
    one_by_number test (settled_one registrations now log) log
    (filter (λ (l : LogRow). test l.number) (map (settled_one registrations now) logs))
    (filter (λ (l : LogRow). test l.number) logs)
    (settled_number (is_used registrations log.number) now log)
    (settled_place (is_used registrations log.number) now log)
    (settled_places registrations now logs test)

left_places : (s : State) (client : ℕ) → SamePlaces (left s client).streams.sources s.streams.sources
unfolding left left_in settled
left_places s client = settled_places _ s.moment s.streams.sources

all_left_places : (s : State) (clients : List ℕ) →
    SamePlaces (all_left s clients).streams.sources s.streams.sources
all_left_places s [] test = refl
all_left_places s (client ∷ clients) test = all_left_places (left s client) clients test ∙ left_places s client test

same_pass : {X : Type 0} (test other : X → Bool) (xs : List X) → ((x : X) → Contains xs x → test x ≡ other x) →
    filter test xs ≡ filter other xs
same_pass test other [] each = refl
same_pass test other (x ∷ xs) each =
    rw (
      each x (Contains-append_left (x ∷ []) xs x (Contains-push [] x)),
      same_pass test other xs (λ y has. each y (Contains-append_right (x ∷ []) xs y has)),
    ) refl

-- that a log that goes has no other of its number left
goes : (last now : ℕ) (silent : List ℕ) (logs : List LogRow) (log : LogRow) → Rises source_number 0 last logs →
    Contains logs log → is_closing now silent log ≡ true → lacks_source (filter (stays_live now silent) logs) log.number ≡ true
goes last now silent logs log up has closes =
    ⊎_elim
    (λ there.
    let found = some_passes (λ (other : LogRow). other.number == log.number) (filter (stays_live now silent) logs) there in
    let other : LogRow = found.0 in
    let same : other ≡ log =
    rises_unique source_number 0 last logs other log up
    (left_was_there (stays_live now silent) logs other found.1.stands) has
    (eqb-true other.number log.number found.1.passes) in
    let stays : stays_live now silent other ≡ true =
    All-contains (λ l. stays_live now silent l ≡ true) (filter (stays_live now silent) logs) other
    (filter_passes (stays_live now silent) logs) found.1.stands in
    let stays' : not (is_closing now silent log) ≡ true = ap (stays_live now silent) (sym same) ∙ stays in
    let not_closing : false ≡ true = ap not (sym closes) ∙ stays' in
    absurd (cc not_closing))
    (λ lacks. ap not lacks)
    (cases_Bool (has_source (filter (stays_live now silent) logs) log.number))

stays : (now : ℕ) (silent : List ℕ) (logs : List LogRow) (log : LogRow) → Contains logs log →
    is_closing now silent log ≡ false → lacks_source (filter (stays_live now silent) logs) log.number ≡ false
stays now silent logs log has lasts =
    ap not
    (has_number (filter (stays_live now silent) logs) log log.number
    (passes_are_left (stays_live now silent) logs log (ap not lasts) has) refl)

closing_are_lacked : (last now : ℕ) (silent : List ℕ) (logs : List LogRow) (log : LogRow) → Rises source_number 0 last logs →
    Contains logs log → is_closing now silent log ≡ lacks_source (filter (stays_live now silent) logs) log.number
closing_are_lacked last now silent logs log up has =
    ⊎_elim (λ closes. closes ∙ sym (goes last now silent logs log up has closes))
    (λ lasts. lasts ∙ sym (stays now silent logs log has lasts))
    (cases_Bool (is_closing now silent log))

-- ---- each event

abbrev ClosesGone : State → Draft → Type 0
ClosesGone s draft =
    draft.closes
    ≡ map place_of (filter (λ (log : LogRow). lacks_source draft.after.streams.sources log.number) s.streams.sources)

command_closes : (s : State) (now handle : ℕ) (bytes : List ℕ) → Cases (ClosesGone s) (at_moment s now) handle bytes
unfolding at_moment heard refused replied told subscribed with_subscription subscribed_in published with_directed_publication with_publication replied_opening unpublished unregistered unsubscribed unsubscribed_in keep_alive counted with_counter valued uncounted directed with_destination recalled without_destination close left left_in settled terminated stopped_for_good
command_closes s now handle bytes =
    let logs : List LogRow = s.streams.sources in
    let same = nothing_goes logs logs (as_they_are logs) in
    record {
      unheard = λ correlation refusal plain not_heard. same;
      refusal = λ decisions client correlation refusal plain was_heard. same;
      denial = λ client correlation act channel stream was_heard found asked denies. same;
      subscription = λ request was_heard asks allows room. same;
      publication = λ request adding was_heard asks allows is room placed.
          nothing_goes logs _
          (stay_added s.streams (s.last_number + 1) request.client.number (wanted_by request) _ adding);
      publication_removal = λ client correlation fields was_heard asks.
          nothing_goes logs _ (stay_settled _ (max s.moment now) logs);
      removal = λ request was_heard asks. same;
      keepalive = λ was_heard. same;
      destination = λ request number was_heard asks allows manual is.
          same;
      destination_removal = λ client correlation fields target was_heard asks is.
          same;
      counter = λ client correlation fields was_heard asks allows room. same;
      value = λ client correlation fields was_heard asks. same;
      counter_removal = λ client correlation fields was_heard asks. same;
      closing = λ client correlation was_heard asks. nothing_goes logs _ (stay_settled _ (max s.moment now) logs);
      termination = λ client correlation fields was_heard asks allows. all_go logs;
    }

ticked_closes : (s between : State) (clients silent : List ℕ) → AreRising between →
    SamePlaces between.streams.sources s.streams.sources → ClosesGone s (ticked between clients silent)
unfolding ticked closed_past closed closing_of
ticked_closes s between clients silent rises same =
    let logs : List LogRow = between.streams.sources in
    let left' : List LogRow = filter (stays_live between.moment silent) logs in
    ap (map place_of)
    (same_pass (is_closing between.moment silent) (λ (log : LogRow). lacks_source left' log.number) logs
    (λ log has. closing_are_lacked between.last_number between.moment silent logs log rises.sources has))
    ∙ same (lacks_source left')

tick_closes : (s : State) (now : ℕ) (silent : List ℕ) → AreRising s → ClosesGone (at_moment s now) (tick (at_moment s now) silent)
unfolding tick
tick_closes s now silent rises =
    let start = at_moment s now in
    ticked_closes start (all_left start (late start)) (late start) silent
    (all_left_rises start (late start) (moment_rises s now rises))
    (all_left_places start (late start))

image_closes : (s : State) (wanted : ImageWanted) (place : ℕ) → ClosesGone s (image_made s wanted place)
unfolding image_made with_image answered
image_closes s wanted place =
    nothing_goes s.streams.sources _
    (λ log has. has_number _ log log.number (Contains-append_left s.streams.sources _ log has) refl)

draft_closes : (s : State) (event : Event) (inputs : Inputs) → AreRising s → ClosesGone s (drafted s event inputs)
unfolding drafted at_moment answered attached reloaded in_force
draft_closes s (Attach now principal) inputs rises =
    let same = nothing_goes s.streams.sources s.streams.sources (as_they_are s.streams.sources) in
    attach_cases (ClosesGone s) (at_moment s now) principal same same same
draft_closes s (Command now handle bytes) inputs rises =
    command_cases (ClosesGone s) s now handle bytes inputs (command_closes s now handle bytes)
draft_closes s (Reload now policy) inputs rises =
    let same = nothing_goes s.streams.sources s.streams.sources (as_they_are s.streams.sources) in
    reload_cases (ClosesGone s) (at_moment s now) policy (λ room. same) (λ full. same)
draft_closes s (Tick now) inputs rises = tick_closes s now inputs.silent rises
draft_closes s (Setup now local from setup) inputs rises =
    let same = nothing_goes s.streams.sources s.streams.sources (as_they_are s.streams.sources) in
    set_up_cases (ClosesGone s) (at_moment s now) local from setup (λ fault. same)
    (λ join place is set. image_closes (at_moment s now) _ place)

-- ---- the law

-- those that are told are known by their numbers
told_are : (test : ℕ → Bool) (logs : List LogRow) (log : LogRow) → Contains logs log →
    list_any (λ (closed : LogPlace). closed.source == log.number)
    (map place_of (filter (λ (one : LogRow). test one.number) logs))
    ≡ test log.number
told_are test logs log has =
    let told : List LogPlace = map place_of (filter (λ (one : LogRow). test one.number) logs) in
    ⊎_elim
    (λ passes.
    any_of (λ (closed : LogPlace). closed.source == log.number) told (place_of log)
    (mapped place_of (filter (λ (one : LogRow). test one.number) logs) log
    (passes_are_left (λ (one : LogRow). test one.number) logs log passes has)) (eq-eqb log.number log.number refl)
    ∙ sym passes)
    (λ fails.
    ⊎_elim
    (λ any.
    let found : Found (λ (closed : LogPlace). closed.source == log.number) told =
    found_of (λ (closed : LogPlace). closed.source == log.number) told any in
    let image : IsImage place_of (filter (λ (one : LogRow). test one.number) logs) found.one =
    from_map place_of (filter (λ (one : LogRow). test one.number) logs) found.one found.there in
    let passes : test image.of.number ≡ true =
    passes_test (λ (one : LogRow). test one.number) logs image.of image.stood in
    let same : image.of.number ≡ log.number =
    sym (ap (λ (place : LogPlace). place.source) image.is) ∙ eqb-true found.one.source log.number found.passes in
    let never : false ≡ true = sym fails ∙ sym (ap test same) ∙ passes in
    absurd (cc never))
    (λ none. none ∙ sym fails)
    (cases_Bool (list_any (λ (closed : LogPlace). closed.source == log.number) told)))
    (cases_Bool (test log.number))

-- what the event's own rule leaves of that number is the same log
same_number : (s : State) (event : Event) (inputs : Inputs) (log other : LogRow) → AreRising s →
    Contains s.streams.sources log → Contains (drafted s event inputs).after.streams.sources other →
    other.number ≡ log.number → IsSameLog other log
same_number s event inputs log other rises has there same =
    let low : log.number ≤ s.last_number = ((are_drawn s rises).sources log has).below in
    ⊎_elim
    (λ (was : WasLive s.streams other).
    let number : was.before.number ≡ log.number = sym (ap (λ (one : LogRow). one.number) was.same) ∙ same in
    let is : was.before ≡ log =
    rises_unique source_number 0 s.last_number s.streams.sources was.before log rises.sources was.stood has number in
    was.same ∙ ap log_of is)
    (λ others.
    ⊎_elim
    (λ (made : IsLogMadeBy s event other).
    let high : other.number ≡ s.last_number + 1 = ap (λ (one : LogRow). one.number) made.made_is in
    absurd (omega (arith, low, high, same)))
    (λ (made : IsImageMadeBy s event other).
    let high : other.number ≡ s.last_number + 1 = image_number s event other made in
    absurd (omega (arith, low, high, same)))
    others)
    ((drafts_only s event inputs).logs other there)

either_way : (there unread kept : Bool) → ((not there ≡ true) ⊎ (unread ≡ true) → kept ≡ false) →
    (there ≡ true → unread ≡ false → kept ≡ true) → (not there || unread) ≡ not kept
either_way true true kept none one = ap not (sym (none (inr refl)))
either_way true false kept none one = ap not (sym (one refl refl))
either_way false unread kept none one = ap not (sym (none (inl refl)))

module _ (s : State) (event : Event) (inputs : Inputs) (log : LogRow) (rises : AreRising s)
    (has : Contains s.streams.sources log) where
  abbrev after : State
  after = (drafted s event inputs).after

  abbrev pairs : List Pair
  pairs = pairs_of (drafted s event inputs).after

  -- where no log of that number is left, or this one is unread, none is kept
  none_kept : (lacks_source (drafted s event inputs).after.streams.sources log.number ≡ true)
      ⊎ (is_unread (pairs_of (drafted s event inputs).after) log ≡ true) →
      has_source (filter (is_kept (pairs_of (drafted s event inputs).after)) (drafted s event inputs).after.streams.sources) log.number
      ≡ false
  none_kept why =
      ⊎_elim
      (λ any.
      let found : Found (λ (other : LogRow). other.number == log.number) (filter (is_kept pairs) after.streams.sources) =
      found_of (λ (other : LogRow). other.number == log.number) (filter (is_kept pairs) after.streams.sources) any in
      let there : Contains after.streams.sources found.one =
      left_was_there (is_kept pairs) after.streams.sources found.one found.there in
      let number : found.one.number ≡ log.number = eqb-true found.one.number log.number found.passes in
      ⊎_elim
      (λ lacks.
      let stands : has_source after.streams.sources log.number ≡ true =
      has_number after.streams.sources found.one log.number there number in
      let never : false ≡ true = ap not (sym stands) ∙ lacks in
      absurd (cc never))
      (λ unread.
      let kept : not (is_unread pairs found.one) ≡ true =
      passes_test (is_kept pairs) after.streams.sources found.one found.there in
      let same : is_unread pairs found.one ≡ is_unread pairs log =
      unread_alike pairs found.one log (same_number s event inputs log found.one rises has there number) in
      let never : false ≡ true = sym (ap not (same ∙ unread)) ∙ kept in
      absurd (cc never))
      why)
      (λ none. none)
      (cases_Bool (has_source (filter (is_kept pairs) after.streams.sources) log.number))

  -- else it is
  one_kept : has_source (drafted s event inputs).after.streams.sources log.number ≡ true →
      is_unread (pairs_of (drafted s event inputs).after) log ≡ false →
      has_source (filter (is_kept (pairs_of (drafted s event inputs).after)) (drafted s event inputs).after.streams.sources) log.number
      ≡ true
  one_kept any read =
      let found : Found (λ (other : LogRow). other.number == log.number) after.streams.sources =
      found_of (λ (other : LogRow). other.number == log.number) after.streams.sources any in
      let number : found.one.number ≡ log.number = eqb-true found.one.number log.number found.passes in
      let same : is_unread pairs found.one ≡ is_unread pairs log =
      unread_alike pairs found.one log (same_number s event inputs log found.one rises has found.there number) in
      has_number (filter (is_kept pairs) after.streams.sources) found.one log.number
      (passes_are_left (is_kept pairs) after.streams.sources found.one (ap not (same ∙ read)) found.there) number

  closed_or_kept :
      (lacks_source (drafted s event inputs).after.streams.sources log.number
      || is_unread (pairs_of (drafted s event inputs).after) log)
      ≡ lacks_source (filter (is_kept (pairs_of (drafted s event inputs).after))
      (drafted s event inputs).after.streams.sources) log.number
  closed_or_kept =
      either_way (has_source after.streams.sources log.number) (is_unread pairs log)
      (has_source (filter (is_kept pairs) after.streams.sources) log.number) none_kept one_kept

  -- a log closes where no log of its number is live behind the event
  closes_as_lacked :
      is_closed (renewed s inputs (drafted s event inputs)) log
      ≡ lacks_source (filter (is_kept (pairs_of (drafted s event inputs).after))
      (drafted s event inputs).after.streams.sources) log.number
  unfolding renewed
  closes_as_lacked =
      let told : list_any (λ (closed : LogPlace). closed.source == log.number) (drafted s event inputs).closes
      ≡ lacks_source after.streams.sources log.number =
      ap (list_any (λ (closed : LogPlace). closed.source == log.number)) (draft_closes s event inputs rises)
      ∙ told_are (lacks_source after.streams.sources) s.streams.sources log has in
      ap (λ (b : Bool). not (not b) || is_unread pairs log) told
      ∙ twice (lacks_source after.streams.sources log.number) (is_unread pairs log)
      ∙ closed_or_kept
    where
      twice : (b c : Bool) → (not (not b) || c) ≡ (b || c)
      twice true c = refl
      twice false c = refl

closed_there : (s : State) (event : Event) (inputs : Inputs) → AreRising s →
    (drawn s event inputs).outcome.closes
    ≡ map place_of (filter (is_no_more (drawn s event inputs).after) s.streams.sources)
unfolding renewed dropping without_unread without_unread_in pairs_of
closed_there s event inputs rises =
    ap (map place_of)
    (same_pass (is_closed (renewed s inputs (drafted s event inputs)))
    (is_no_more (without_unread (drafted s event inputs).after)) s.streams.sources
    (λ log has. closes_as_lacked s event inputs log rises has))

-- the registry to which the event comes has the same logs
closed_at : (s : State) (event : Event) (inputs : Inputs) → AreRising s →
    (conduct s event inputs).outcome.closes
    ≡ map place_of (filter (is_no_more (conduct s event inputs).after) s.streams.sources)
unfolding conduct renewed dropping ruled
closed_at s event inputs rises = closed_there (coming_to s event) event inputs (rising_at s (moment_told event) rises)

pub closed_were_there : ClosedLogsWereThere
closed_were_there settings policy peers events event inputs =
    closed_at _ event inputs (numbers_rise settings policy peers events)
