-- Among the replies those of images are one for each pair that came or went.
use Rattle.std.proofs.Common.{◌≡◌, ℕ, ℤ, ◌==◌, Bool, true, false, cond, List, [], ◌∷◌, ◌++◌, map, filter, Option, Some, None, inl, inr, refl, sym, ap, ◌∙◌, ⊎_elim}
use Rattle.std.specs.List.{Contains, flat_map}
use Rattle.std.specs.Prelude.{find, is_some}
use Rattle.std.proofs.lemmas.Bool.{eqb-true, eq-eqb}
use Rattle.std.proofs.lemmas.List.{append-nil}
use Rattle.std.proofs.lemmas.List.Elements.{Contains-append_cases, Contains-append_left, Contains-append_right, Contains-push, filter-append}
use Rattle.driver_core.specs.Directing.{directed, recalled}
use Rattle.driver_core.specs.declared.state.event.End.{End}
use Rattle.driver_core.specs.declared.state.event.Event.{Event}
use Rattle.driver_core.specs.declared.state.event.Event.TheVariants.{Attach, Command, Reload, Setup, Tick}
use Rattle.driver_core.specs.declared.state.event.Inputs.{Inputs}
use Rattle.driver_core.specs.declared.state.outcome.Response.{Response}
use Rattle.driver_core.specs.declared.state.refusal.Refusal.{Refusal}
use Rattle.driver_core.specs.declared.state.replies.Message.{Message}
use Rattle.driver_core.specs.declared.state.replies.Reply.{Reply}
use Rattle.driver_core.specs.Attaching.{attached}
use Rattle.driver_core.specs.Closing.{close, keep_alive}
use Rattle.driver_core.specs.Conduct.{coming_to, conduct, drafted}
use Rattle.driver_core.specs.Counting.{counted, uncounted, valued}
use Rattle.driver_core.specs.Draft.{Draft, answered, refused, replied, replied_opening, told}
use Rattle.driver_core.specs.Leaving.{all_left}
use Rattle.driver_core.specs.Pairs.{is_lacked_by, pairs_of}
use Rattle.driver_core.specs.Publishing.{published, ready_for, with_directed_publication}
use Rattle.driver_core.specs.Reloading.{reloaded}
use Rattle.driver_core.specs.Renewal.{available_for, available_to, come_to, gone_from, images_told, position_at, position_by, source_at, renewed, subscription_at, unavailable_for, unavailable_to}
use Rattle.driver_core.specs.Requests.{wanted_by}
use Rattle.driver_core.specs.State.{State, at_moment}
use Rattle.driver_core.specs.Subscribing.{subscribed}
use Rattle.driver_core.specs.Terminating.{terminated}
use Rattle.driver_core.specs.Ticking.{closed_past, late, tick, ticked, timeout_of}
use Rattle.driver_core.specs.Unpublishing.{unpublished}
use Rattle.driver_core.specs.Unsubscribing.{unsubscribed}
use Rattle.driver_core.specs.Commands.{at_request}
use Rattle.driver_core.specs.Change.{Change}
use Rattle.driver_core.specs.SettingUp.{image_made}
use Rattle.driver_core.specs.Unread.{dropping, without_unread}
use Rattle.driver_laws.specs.ImageLaws.{IsOfReader}
use Rattle.driver_laws.specs.ImageTellingLaws.{IsToldAvailable, IsToldUnavailable, OneForEach, Reaches, TellsImagesExactly, is_available, is_subscribed, is_unavailable, tells_available, tells_unavailable}
use Rattle.client_registry.specs.declared.client.Client.{Client}
use Rattle.policy_core.specs.declared.decision.Decision.{Decision}
use Rattle.stream_registry.specs.declared.pairs.Pair.{Pair}
use Rattle.stream_registry.specs.declared.row.LogRow.{LogRow}
use Rattle.stream_registry.specs.declared.row.Subscription.{Subscription}
use Rattle.stream_registry.specs.declared.wanted.Adding.{Adding}
use Rattle.stream_registry.specs.declared.wanted.Wanted.{Wanted}
use Rattle.stream_registry.specs.Origins.{begins_at}
use Rattle.stream_registry.specs.declared.wanted.ImageWanted.{ImageWanted}
use Rattle.log_readers.specs.Unread.{is_kept, without_unread as without_unread_in}
use Rattle.driver_core.proofs.EventCases.{Cases, attach_cases, command_cases, reload_cases, set_up_cases}
use Rattle.driver_core.proofs.ListLemmas.{contains_none, left_was_there, only_one, passes_are_left}
use Rattle.driver_laws.proofs.DroppingLemmas.{first_there, kept_of_pair, later_there}
use Rattle.driver_laws.proofs.ImageLemmas.{has_reader}
use Rattle.driver_laws.proofs.LoggedLemmas.{found_in}

-- ---- an event's own replies tell of no image

abbrev NoneOf : (Message → Bool) → List Message → Type 0
NoneOf test messages = filter test messages ≡ []

record TellsNone (draft : Draft) : Type 0 where
  available : NoneOf tells_available draft.replies
  unavailable : NoneOf tells_unavailable draft.replies
  available_later : NoneOf tells_available draft.later
  unavailable_later : NoneOf tells_unavailable draft.later

answer_tells_none : (s : State) (response : Response) → TellsNone (answered s response)
unfolding answered
answer_tells_none s response =
    record { available = refl; unavailable = refl; available_later = refl; unavailable_later = refl }

image_tells_none : (s : State) (wanted : ImageWanted) (place : ℕ) → TellsNone (image_made s wanted place)
unfolding image_made answered
image_tells_none s wanted place =
    record { available = refl; unavailable = refl; available_later = refl; unavailable_later = refl }

reply_tells_none : (s : State) (decisions : List Decision) (client : ℕ) (reply : Reply) → is_available reply ≡ false →
    is_unavailable reply ≡ false → TellsNone (replied s decisions client reply)
unfolding replied told
reply_tells_none s decisions client reply available unavailable = record {
  available = rw available refl;
  unavailable = rw unavailable refl;
  available_later = refl;
  unavailable_later = refl;
}

refusal_tells_none : (s : State) (decisions : List Decision) (client correlation : ℕ) (refusal : Refusal) →
    TellsNone (refused s decisions client correlation refusal)
unfolding refused
refusal_tells_none s decisions client correlation refusal = reply_tells_none s decisions client _ refl refl

ready_available : (wanted : Wanted) (correlation number : ℕ) (session : ℤ) →
    is_available (ready_for wanted correlation number session) ≡ false
ready_available wanted correlation number session = by wanted.exclusive
  where
    by : (exclusive : Bool) →
        is_available (ready_for (record wanted { exclusive = exclusive }) correlation number session) ≡ false
    by true = refl
    by false = refl

ready_unavailable : (wanted : Wanted) (correlation number : ℕ) (session : ℤ) →
    is_unavailable (ready_for wanted correlation number session) ≡ false
ready_unavailable wanted correlation number session = by wanted.exclusive
  where
    by : (exclusive : Bool) →
        is_unavailable (ready_for (record wanted { exclusive = exclusive }) correlation number session) ≡ false
    by true = refl
    by false = refl

publication_tells_none : (s : State) (client : Client) (correlation : ℕ) (wanted : Wanted) (adding : Adding) →
    TellsNone (published s client correlation wanted adding)
unfolding published with_directed_publication replied_opening replied told
publication_tells_none s client correlation wanted adding = record {
  available = rw (ready_available wanted correlation _ _) refl;
  unavailable = rw (ready_unavailable wanted correlation _ _) refl;
  available_later = refl;
  unavailable_later = refl;
}

keepalive_tells_none : (s : State) → TellsNone (keep_alive s)
unfolding keep_alive told
keepalive_tells_none s =
    record { available = refl; unavailable = refl; available_later = refl; unavailable_later = refl }

uncounted_tells_none : (s : State) (client : Client) (correlation number : ℕ) →
    TellsNone (uncounted s client correlation number)
unfolding uncounted told
uncounted_tells_none s client correlation number =
    record { available = refl; unavailable = refl; available_later = refl; unavailable_later = refl }

termination_tells_none : (s : State) (client : Client) (correlation : ℕ) → TellsNone (terminated s client correlation)
unfolding terminated
termination_tells_none s client correlation =
    record { available = refl; unavailable = refl; available_later = refl; unavailable_later = refl }

timeouts_available : (clients : List ℕ) → NoneOf tells_available (map timeout_of clients)
timeouts_available [] = refl
timeouts_available (client ∷ clients) = timeouts_available clients

timeouts_unavailable : (clients : List ℕ) → NoneOf tells_unavailable (map timeout_of clients)
timeouts_unavailable [] = refl
timeouts_unavailable (client ∷ clients) = timeouts_unavailable clients

ticked_tells_none : (s : State) (clients silent : List ℕ) → TellsNone (ticked s clients silent)
unfolding ticked closed_past
ticked_tells_none s clients silent = record {
  available = refl;
  unavailable = refl;
  available_later = timeouts_available clients;
  unavailable_later = timeouts_unavailable clients;
}

command_tells_none : (s : State) (now handle : ℕ) (bytes : List ℕ) → Cases TellsNone (at_moment s now) handle bytes
unfolding subscribed unpublished unsubscribed directed recalled counted valued close
command_tells_none s now handle bytes = record {
  unheard = λ correlation refusal plain not_heard. refusal_tells_none _ [] handle correlation refusal;
  refusal = λ decisions client correlation refusal plain was_heard.
      refusal_tells_none _ decisions client.number correlation refusal;
  denial = λ client correlation act channel stream was_heard found asked denies.
      refusal_tells_none _ _ client.number correlation _;
  subscription = λ request was_heard asks allows room. reply_tells_none _ _ request.client.number _ refl refl;
  publication = λ request adding was_heard asks allows is room placed.
      publication_tells_none (at_request s now handle) request.client request.correlation (wanted_by request) adding;
  publication_removal = λ client correlation fields was_heard asks. reply_tells_none _ [] client.number _ refl refl;
  removal = λ request was_heard asks. reply_tells_none _ [] request.client.number _ refl refl;
  keepalive = λ was_heard. keepalive_tells_none (at_request s now handle);
  destination = λ request number was_heard asks allows manual is.
      reply_tells_none _ _ request.client.number _ refl refl;
  destination_removal = λ client correlation fields target was_heard asks is.
      reply_tells_none _ [] client.number _ refl refl;
  counter = λ client correlation fields was_heard asks allows room.
      reply_tells_none _ _ client.number _ refl refl;
  value = λ client correlation fields was_heard asks. reply_tells_none _ [] client.number _ refl refl;
  counter_removal = λ client correlation fields was_heard asks.
      uncounted_tells_none (at_request s now handle) client correlation fields.registration;
  closing = λ client correlation was_heard asks. reply_tells_none _ [] client.number _ refl refl;
  termination = λ client correlation fields was_heard asks allows.
      termination_tells_none (at_request s now handle) client correlation;
}

draft_tells_none : (s : State) (event : Event) (inputs : Inputs) → TellsNone (drafted s event inputs)
unfolding drafted attached reloaded tick
draft_tells_none s (Attach now principal) inputs =
    attach_cases TellsNone (at_moment s now) principal (answer_tells_none _ _) (answer_tells_none _ _)
    (answer_tells_none _ _)
draft_tells_none s (Command now handle bytes) inputs =
    command_cases TellsNone s now handle bytes inputs (command_tells_none s now handle bytes)
draft_tells_none s (Reload now policy) inputs =
    reload_cases TellsNone (at_moment s now) policy (λ room. answer_tells_none _ _) (λ full. answer_tells_none _ _)
draft_tells_none s (Tick now) inputs =
    ticked_tells_none (all_left (at_moment s now) (late (at_moment s now))) (late (at_moment s now)) inputs.silent
draft_tells_none s (Setup now local from setup) inputs =
    set_up_cases TellsNone (at_moment s now) local from setup (λ fault. answer_tells_none _ _)
    (λ join place is set. image_tells_none (at_moment s now) _ place)

-- ---- so all that tell of images are those of pairs

none_pass : {X Y : Type 0} (test : Y → Bool) (parts : X → List Y) (xs : List X) →
    ((x : X) → filter test (parts x) ≡ []) → filter test (flat_map parts xs) ≡ []
none_pass test parts [] none = refl
none_pass {Y = Y} test parts (x ∷ xs) none =
    filter-append test (parts x) (flat_map parts xs)
    ∙ ap (λ (ys : List Y). ys ++ filter test (flat_map parts xs)) (none x)
    ∙ none_pass test parts xs none

all_pass : {X Y : Type 0} (test : Y → Bool) (parts : X → List Y) (xs : List X) →
    ((x : X) → filter test (parts x) ≡ parts x) → filter test (flat_map parts xs) ≡ flat_map parts xs
all_pass test parts [] all = refl
all_pass {Y = Y} test parts (x ∷ xs) all =
    filter-append test (parts x) (flat_map parts xs)
    ∙ ap (λ (ys : List Y). ys ++ filter test (flat_map parts xs)) (all x)
    ∙ ap (λ (ys : List Y). parts x ++ ys) (all_pass test parts xs all)

available_pass : (ends : List End) (pair : Pair) (log : Option LogRow) (subscription : Option Subscription) →
    filter tells_available (available_to ends pair log subscription) ≡ available_to ends pair log subscription
available_pass ends pair None subscription = refl
available_pass ends pair (Some log) None = refl
available_pass ends pair (Some log) (Some subscription) = refl

available_fail : (ends : List End) (pair : Pair) (log : Option LogRow) (subscription : Option Subscription) →
    NoneOf tells_unavailable (available_to ends pair log subscription)
available_fail ends pair None subscription = refl
available_fail ends pair (Some log) None = refl
available_fail ends pair (Some log) (Some subscription) = refl

unavailable_pass : (pair : Pair) (subscription : Option Subscription) →
    filter tells_unavailable (unavailable_to pair subscription) ≡ unavailable_to pair subscription
unavailable_pass pair None = refl
unavailable_pass pair (Some subscription) = refl

unavailable_fail : (pair : Pair) (subscription : Option Subscription) →
    NoneOf tells_available (unavailable_to pair subscription)
unavailable_fail pair None = refl
unavailable_fail pair (Some subscription) = refl

-- what a test passes of four lists in a row
of_four : (test : Message → Bool) (first second third last : List Message) →
    filter test (first ++ ((second ++ third) ++ last))
    ≡ filter test first ++ ((filter test second ++ filter test third) ++ filter test last)
of_four test first second third last =
    filter-append test first ((second ++ third) ++ last)
    ∙ ap (λ (ms : List Message). filter test first ++ ms)
    (filter-append test (second ++ third) last
    ∙ ap (λ (ms : List Message). ms ++ filter test last) (filter-append test second third))

available_told : (s : State) (inputs : Inputs) (draft : Draft) → TellsNone draft →
    filter tells_available (renewed s inputs draft).outcome.replies
    ≡ flat_map (available_for draft.after inputs.ends) (come_to s draft.after)
unfolding renewed images_told available_for unavailable_for
available_told s inputs draft none =
    let gone = gone_from s draft.after in
    let come = come_to s draft.after in
    let left' : List Message = flat_map (unavailable_for draft.after) gone in
    let came : List Message = flat_map (available_for draft.after inputs.ends) come in
    let others : NoneOf tells_available left' =
    none_pass tells_available (unavailable_for draft.after) gone
    (λ pair. unavailable_fail pair (subscription_at draft.after.streams.subscriptions pair.subscription)) in
    let all : filter tells_available came ≡ came =
    all_pass tells_available (available_for draft.after inputs.ends) come
    (λ pair.
    available_pass inputs.ends pair (source_at draft.after.streams.sources pair.source)
    (subscription_at draft.after.streams.subscriptions pair.subscription)) in
    of_four tells_available draft.replies left' came draft.later
    ∙ rw (none.available, others, all, none.available_later) (append-nil came)

unavailable_told : (s : State) (inputs : Inputs) (draft : Draft) → TellsNone draft →
    filter tells_unavailable (renewed s inputs draft).outcome.replies
    ≡ flat_map (unavailable_for draft.after) (gone_from s draft.after)
unfolding renewed images_told available_for unavailable_for
unavailable_told s inputs draft none =
    let gone = gone_from s draft.after in
    let come = come_to s draft.after in
    let left' : List Message = flat_map (unavailable_for draft.after) gone in
    let came : List Message = flat_map (available_for draft.after inputs.ends) come in
    let others : NoneOf tells_unavailable came =
    none_pass tells_unavailable (available_for draft.after inputs.ends) come
    (λ pair.
    available_fail inputs.ends pair (source_at draft.after.streams.sources pair.source)
    (subscription_at draft.after.streams.subscriptions pair.subscription)) in
    let all : filter tells_unavailable left' ≡ left' =
    all_pass tells_unavailable (unavailable_for draft.after) gone
    (λ pair. unavailable_pass pair (subscription_at draft.after.streams.subscriptions pair.subscription)) in
    of_four tells_unavailable draft.replies left' came draft.later
    ∙ rw (none.unavailable, others, all, none.unavailable_later)
    (append-nil (left' ++ []) ∙ append-nil left')

-- ---- one for each pair

record IsLater {X : Type 0} (b : Bool) (rest : Option X) : Type 0 where
  not_here : b ≡ false
  none : rest ≡ None

none_later : {X : Type 0} (b : Bool) (x : X) (rest : Option X) → cond b (Some x) rest ≡ None → IsLater b rest
none_later true x rest is = absurd (cc is)
none_later false x rest is = record { not_here = refl; none = is }

-- what is there is found
always_found : {X : Type 0} (test : X → Bool) (xs : List X) (x : X) → Contains xs x → test x ≡ true →
    find test xs ≡ None → ⊥
always_found test [] x has passes is = contains_none x has
always_found test (y ∷ ys) x has passes is =
    let later = none_later (test y) y (find test ys) is in
    ⊎_elim
    (λ first.
    let here : test y ≡ true = ap test (only_one y x first) ∙ passes in
    let not_here : test y ≡ false = later.not_here in
    absurd (cc (sym here ∙ not_here)))
    (λ rest. always_found test ys x rest passes later.none)
    (Contains-append_cases (y ∷ []) ys x has)

reached : (ends : List End) (source begin : ℕ) (found : Option End) →
    find (λ (end : End). end.source == source) ends ≡ found → Reaches ends source begin (position_by begin found)
reached ends source begin None is =
    inr (record {
      none = λ end has same.
          always_found (λ (other : End). other.source == source) ends end has (eq-eqb end.source source same) is;
      position_is = refl;
    })
reached ends source begin (Some end) is =
    let found = found_in (λ (other : End). other.source == source) ends end is in
    inl (record {
      end = end;
      stands = found.stands;
      source_is = eqb-true end.source source found.passes;
      position_is = refl;
    })

one_available : (after : State) (ends : List End) (pair : Pair) (pairs : List Pair) (messages : List Message)
    (log : Option LogRow) (subscription : Option Subscription) →
    source_at after.streams.sources pair.source ≡ log →
    subscription_at after.streams.subscriptions pair.subscription ≡ subscription → (log ≡ None → ⊥) →
    (subscription ≡ None → ⊥) → OneForEach (IsToldAvailable after ends) pairs messages →
    OneForEach (IsToldAvailable after ends) (pair ∷ pairs) (available_to ends pair log subscription ++ messages)
one_available after ends pair pairs messages None subscription found found' some some' rest = absurd (some refl)
one_available after ends pair pairs messages (Some log) None found found' some some' rest = absurd (some' refl)
one_available after ends pair pairs messages (Some log) (Some subscription) found found' some some' rest =
    let live = found_in (λ (log : LogRow). log.number == pair.source) after.streams.sources log
    found in
    let stands = found_in (λ (row : Subscription). row.number == pair.subscription) after.streams.subscriptions
    subscription found' in
    let source : log.number ≡ pair.source = eqb-true log.number pair.source live.passes in
    let number : subscription.number ≡ pair.subscription =
    eqb-true subscription.number pair.subscription stands.passes in (
      record {
        log = log;
        subscription = subscription;
        is_live = live.stands;
        stands = stands.stands;
        pair_is = rw (source, number) refl;
        position = position_at ends (begins_at log) pair.source;
        reaches = reached ends pair.source (begins_at log) (find (λ (end : End). end.source == pair.source) ends) refl;
        message_is = refl;
      },
      rest,
    )

-- the log of such a pair is found, and so is its subscription
log_found : (after : State) (pair : Pair) → IsOfReader after pair →
    source_at after.streams.sources pair.source ≡ None → ⊥
log_found after pair reader =
    let same : reader.log.number ≡ pair.source = ap (λ (p : Pair). p.source) (sym reader.pair_is) in
    always_found (λ (log : LogRow). log.number == pair.source) after.streams.sources
    reader.log reader.reads.is_live (eq-eqb reader.log.number pair.source same)

subscription_found : (after : State) (pair : Pair) → IsOfReader after pair →
    subscription_at after.streams.subscriptions pair.subscription ≡ None → ⊥
subscription_found after pair reader =
    let same : reader.subscription.number ≡ pair.subscription =
    ap (λ (p : Pair). p.subscription) (sym reader.pair_is) in
    always_found (λ (row : Subscription). row.number == pair.subscription) after.streams.subscriptions
    reader.subscription reader.reads.stands (eq-eqb reader.subscription.number pair.subscription same)

each_available : (after : State) (ends : List End) (pairs : List Pair) →
    ((pair : Pair) → Contains pairs pair → IsOfReader after pair) →
    OneForEach (IsToldAvailable after ends) pairs (flat_map (available_for after ends) pairs)
unfolding available_for
each_available after ends [] readers = tt
each_available after ends (pair ∷ pairs) readers =
    let reader = readers pair (Contains-append_left (pair ∷ []) pairs pair (Contains-push [] pair)) in
    one_available after ends pair pairs (flat_map (available_for after ends) pairs)
    (source_at after.streams.sources pair.source)
    (subscription_at after.streams.subscriptions pair.subscription) refl refl (log_found after pair reader)
    (subscription_found after pair reader)
    (each_available after ends pairs (λ other has. readers other (Contains-append_right (pair ∷ []) pairs other has)))

one_unavailable : (after : State) (pair : Pair) (pairs : List Pair) (messages : List Message)
    (subscription : Option Subscription) →
    subscription_at after.streams.subscriptions pair.subscription ≡ subscription →
    OneForEach (IsToldUnavailable after) pairs messages →
    OneForEach (IsToldUnavailable after) (cond (is_some subscription) (pair ∷ pairs) pairs)
    (unavailable_to pair subscription ++ messages)
one_unavailable after pair pairs messages None found rest = rest
one_unavailable after pair pairs messages (Some subscription) found rest =
    let stands = found_in (λ (row : Subscription). row.number == pair.subscription) after.streams.subscriptions
    subscription found in (
      record {
        subscription = subscription;
        stands = stands.stands;
        number_is = sym (eqb-true subscription.number pair.subscription stands.passes);
        message_is = refl;
      },
      rest,
    )

each_unavailable : (after : State) (pairs : List Pair) →
    OneForEach (IsToldUnavailable after) (filter (is_subscribed after) pairs) (flat_map (unavailable_for after) pairs)
unfolding unavailable_for
each_unavailable after [] = tt
each_unavailable after (pair ∷ pairs) =
    one_unavailable after pair (filter (is_subscribed after) pairs) (flat_map (unavailable_for after) pairs)
    (subscription_at after.streams.subscriptions pair.subscription) refl (each_unavailable after pairs)

-- ---- the law

came_read : (s after : State) (pair : Pair) → Contains (come_to s after) pair → IsOfReader after pair
came_read s after pair has =
    has_reader after pair (left_was_there (is_lacked_by (pairs_of s)) (pairs_of after) pair has)

draft_tells : (s : State) (inputs : Inputs) (draft : Draft) → TellsNone draft →
    TellsImagesExactly inputs (renewed s inputs draft)
unfolding renewed
draft_tells s inputs draft none = record {
  available = rw (available_told s inputs draft none)
      (each_available draft.after inputs.ends (come_to s draft.after) (came_read s draft.after));
  unavailable = rw (unavailable_told s inputs draft none) (each_unavailable draft.after (gone_from s draft.after));
}

each_still : (P Q : Pair → Message → Type 0) (pairs : List Pair) (messages : List Message) →
    ((pair : Pair) → Contains pairs pair → (message : Message) → P pair message → Q pair message) →
    OneForEach P pairs messages → OneForEach Q pairs messages
each_still P Q [] [] each all = tt
each_still P Q [] (message ∷ messages) each all = absurd all
each_still P Q (pair ∷ pairs) [] each all = absurd all
each_still P Q (pair ∷ pairs) (message ∷ messages) each all = (
  each pair (first_there pair pairs) message all.0,
  each_still P Q pairs messages (λ other has. each other (later_there pair other pairs has)) all.1,
)

-- a log of which a pair came stays
still_available : (after : State) (ends : List End) (pair : Pair) (message : Message) → Contains (pairs_of after) pair →
    IsToldAvailable after ends pair message → IsToldAvailable (without_unread after) ends pair message
unfolding without_unread without_unread_in pairs_of
still_available after ends pair message has told =
    let kept : is_kept (pairs_of after) told.log ≡ true =
    kept_of_pair (pairs_of after) told.log pair has
    (eq-eqb pair.source told.log.number (ap (λ (p : Pair). p.source) told.pair_is)) in
    record {
      log = told.log;
      subscription = told.subscription;
      is_live = passes_are_left (is_kept (pairs_of after)) after.streams.sources told.log kept told.is_live;
      stands = told.stands;
      pair_is = told.pair_is;
      position = told.position;
      reaches = told.reaches;
      message_is = told.message_is;
    }

still_unavailable : (after : State) (pair : Pair) (message : Message) → IsToldUnavailable after pair message →
    IsToldUnavailable (without_unread after) pair message
unfolding without_unread without_unread_in
still_unavailable after pair message told = record {
  subscription = told.subscription;
  stands = told.stands;
  number_is = told.number_is;
  message_is = told.message_is;
}

subscribed_still : (after : State) (pairs : List Pair) →
    filter (is_subscribed (without_unread after)) pairs ≡ filter (is_subscribed after) pairs
unfolding without_unread without_unread_in
subscribed_still after pairs = refl

still_told : (s : State) (inputs : Inputs) (change : Change) →
    ((pair : Pair) → Contains change.outcome.come pair → Contains (pairs_of change.after) pair) →
    TellsImagesExactly inputs change → TellsImagesExactly inputs (dropping s change)
unfolding dropping
still_told s inputs change came tells = record {
  available = each_still (IsToldAvailable change.after inputs.ends) (IsToldAvailable (without_unread change.after) inputs.ends)
      change.outcome.come (filter tells_available change.outcome.replies)
      (λ pair has message told. still_available change.after inputs.ends pair message (came pair has) told) tells.available;
  unavailable = rw (subscribed_still change.after change.outcome.gone)
      (each_still (IsToldUnavailable change.after) (IsToldUnavailable (without_unread change.after))
      (filter (is_subscribed change.after) change.outcome.gone) (filter tells_unavailable change.outcome.replies)
      (λ pair has message told. still_unavailable change.after pair message told) tells.unavailable);
}

came_there : (s : State) (inputs : Inputs) (draft : Draft) (pair : Pair) →
    Contains (renewed s inputs draft).outcome.come pair → Contains (pairs_of (renewed s inputs draft).after) pair
unfolding renewed
came_there s inputs draft pair has = left_was_there (is_lacked_by (pairs_of s)) (pairs_of draft.after) pair has

pub images_told_exactly : (s : State) (event : Event) (inputs : Inputs) →
    TellsImagesExactly inputs (conduct s event inputs)
unfolding conduct
images_told_exactly s event inputs =
    let draft : Draft = drafted (coming_to s event) event inputs in
    still_told s inputs (renewed s inputs draft) (came_there s inputs draft)
    (draft_tells s inputs draft (draft_tells_none (coming_to s event) event inputs))
