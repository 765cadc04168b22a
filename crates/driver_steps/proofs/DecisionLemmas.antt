-- Offers and polls are granted exactly where the policy in force allows them.
use Rattle.std.proofs.Common.{◌≡◌, ℕ, ◌==◌, ◌&&◌, ◌||◌, not, nat_lt, Bool, true, false, cond, List, [], ◌∷◌, length, map, filter, Option, Some, None, refl, sym, ap, subst, ◌∙◌}
use Rattle.std.specs.List.{All, list_any}
use Rattle.std.proofs.lemmas.Bool.{cond_both, eq-eqb, eqb-true, ne_eqb}
use Rattle.log_traffic.specs.Held.{Made, for_publication, for_stream}
use Rattle.log_traffic.specs.Whole.{AnyWhole, whole, rebuilt, made_for as made_any, position_in, readers_in}
use Rattle.log_traffic.proofs.AnyLemmas.{reader_stands}
use Rattle.driver_core.specs.declared.asked.log_request.LogRequest.{LogRequest}
use Rattle.driver_core.specs.declared.state.settings.Settings.{Settings}
use Rattle.driver_core.specs.LogRequests.{offering_of, offered_by, receiving_of, received_on, registration_at, has_pair, row_decision}
use Rattle.driver_core.specs.Pairs.{pairs_of}
use Rattle.driver_core.specs.Renewal.{source_at, subscription_at}
use Rattle.driver_core.specs.State.{State}
use Rattle.driver_core.proofs.VerdictLemmas.{by_policy}
use Rattle.client_registry.specs.declared.client.Client.{Client}
use Rattle.client_registry.specs.Clients.{client_at}
use Rattle.log_steps.specs.declared.answer.Answer.{Answer}
use Rattle.log_steps.specs.declared.answer.Answer.TheVariants.{Offered as OfferedAs, Gone as IsGone, Denied}
use Rattle.log_steps.specs.declared.answer.Offered.TheVariants.{Closed, TooLong, NotConnected}
use Rattle.driver_steps.specs.declared.step.Step.TheVariants.{Offer, Poll}
use Rattle.driver_steps.specs.Ends.{RunEnd, Moved, log_at, with_log, moved_on, on_log, on_offered, moved}
use Rattle.driver_core.specs.Readers.{readers_of}
use Rattle.log_steps.specs.Idents.{made_by, made_of}
use Rattle.driver_steps.specs.Laws.{made_for, made_as, LogsFollow, OfferRequest, AsksToOffer, offer_question, stays, taken_by_log, let_through, OfferIsDecided, OffersAreDecided, OffersAreGrantedExactly, PollRequest, AsksToPoll, poll_question, given_by_log, PollIsDecided, PollsAreDecided, PollsAreGrantedExactly}
use Rattle.log_steps.specs.Moves.{WholeLog, Move, answered, taken, given, offer_let, offer_to, offer_under, offer_move, poll_under, poll_move}
use Rattle.driver_steps.proofs.FoundLemmas.{found_holds, found_source, with_same}
use Rattle.driver_steps.proofs.FollowLemmas.{logs_follow}
use Rattle.driver_steps.proofs.RegisteredLemmas.{ends_registered, registered_publication}
use Rattle.driver_steps.specs.Registered.{AreRegistered}
use Rattle.policy_core.specs.declared.act.Act.TheVariants.{Offer as ToOffer, Receive}
use Rattle.stream_registry.specs.declared.pairs.Pair.{Pair}
use Rattle.stream_registry.specs.declared.row.Subscription.{Subscription}
use Rattle.stream_registry.specs.Pairs.{is_of}
use Rattle.stream_registry.specs.declared.row.Origin.{Origin}
use Rattle.stream_registry.specs.declared.row.Origin.TheVariants.{Published, Remote}
use Rattle.stream_registry.specs.declared.row.LogRow.{LogRow}
use Rattle.stream_registry.specs.Origins.{is_published, is_published_by}
use Rattle.term_log.specs.Log.{greatest_message}
use Rattle.term_log.specs.Whole.{Whole, is_connected}

-- ---- a move of one log

-- what the move of the log of that source leaves, and answers
abbrev pub left_by : RunEnd → ℕ → Move → Moved
left_by e source move = record { after = record e { logs = with_log e.logs source move.after }; answer = move.answer }

-- a log that is left as it was leaves all as it was
pub stays_left : (e : RunEnd) (source : ℕ) (log : WholeLog) (answer : Answer) → log_at e.logs source ≡ Some log →
    left_by e source (answered log answer) ≡ stays e answer
stays_left e source log answer found =
    ap (λ (logs : List WholeLog). record { after = record e { logs = logs }; answer = answer })
    (with_same source log e.logs found)

-- where the log is found, it moves
pub log_moves : (e : RunEnd) (source : ℕ) (move : WholeLog → Move) (absent : Answer) (log : WholeLog) →
    log_at e.logs source ≡ Some log → on_log e source move absent ≡ left_by e source (move log)
unfolding on_log
log_moves e source move absent log found = ap (moved_on e source move absent) found

-- what is left under one of three
left_under : (a b : Bool) (f : Move → Moved) (x y z : Move) (u v w : Moved) → f x ≡ u → f y ≡ v → f z ≡ w →
    f (cond a x (cond b y z)) ≡ cond a u (cond b v w)
left_under true b f x y z u v w first second third = first
left_under false true f x y z u v w first second third = second
left_under false false f x y z u v w first second third = third

-- ---- an offer

-- the log of the publication, and the verdict on it
abbrev asked_by : State → OfferRequest → LogRequest
asked_by s request = record {
  source = request.publication.number;
  decision = row_decision s request.client ToOffer request.registration.number request.registration.channel
      request.publication.stream;
}

offering_is : (s : State) (handle number : ℕ) (request : OfferRequest) → AsksToOffer s handle number request →
    offering_of s handle number ≡ Some (asked_by s request)
unfolding offering_of
offering_is s handle number request asks = rw (asks.client_is, asks.registration_is, asks.publication_is) refl

-- the offer is that of the publication's log under the request
offer_is : (e : RunEnd) (now handle number : ℕ) (message : List ℕ) (asked : LogRequest) (log : WholeLog) →
    offering_of e.registry handle number ≡ Some asked → log_at e.logs asked.source ≡ Some log →
    moved e (Offer now handle number message)
    ≡ left_by e asked.source (offer_under e.registry.settings.connection_timeout (Some asked) now message log)
unfolding offer_move
offer_is e now handle number message asked log is found =
    ap (on_offered e.registry e now handle number message) is
    ∙ log_moves e asked.source (offer_move e.registry now handle number message) (OfferedAs Closed) log found
    ∙ ap (λ (o : Option LogRequest). left_by e asked.source (offer_under e.registry.settings.connection_timeout o now message log)) is

own_log : (asked : LogRequest) (e : RunEnd) (log : WholeLog) → log_at e.logs asked.source ≡ Some log →
    (asked.source == log.source) ≡ true
own_log asked e log found = eq-eqb asked.source log.source (sym (found_source asked.source log e.logs found))

-- under the request the log of frames that were appended is offered the message
offer_under_let : (e : RunEnd) (now : ℕ) (message : List ℕ) (asked : LogRequest) (log : WholeLog) (frames : Whole) →
    log_at e.logs asked.source ≡ Some log → log.whole ≡ whole frames →
    offer_under e.registry.settings.connection_timeout (Some asked) now message log
    ≡ offer_let now e.registry.settings.connection_timeout asked.decision.verdict message log frames
offer_under_let e now message asked log frames found is =
    let own = own_log asked e log found in
    rw own (ap (offer_to now e.registry.settings.connection_timeout asked.decision.verdict message log) is)

offer_granted : (e : RunEnd) (now : ℕ) (message : List ℕ) (asked : LogRequest) (log : WholeLog) (frames : Whole) →
    log_at e.logs asked.source ≡ Some log → log.whole ≡ whole frames → asked.decision.verdict.allow ≡ true →
    left_by e asked.source (offer_under e.registry.settings.connection_timeout (Some asked) now message log) ≡ let_through e now message log frames
offer_granted e now message asked log frames found is allows =
    let put : left_by e asked.source (taken message log frames) ≡ taken_by_log e message log frames =
    ap (λ (n : ℕ). left_by e n (taken message log frames)) (sym (found_source asked.source log e.logs found)) in
    ap (left_by e asked.source) (offer_under_let e now message asked log frames found is)
    ∙ rw allows
    (left_under (nat_lt (greatest_message frames.ident) (length message))
    (not (is_connected frames now e.registry.settings.connection_timeout)) (left_by e asked.source)
    (answered log (OfferedAs TooLong)) (answered log (OfferedAs NotConnected)) (taken message log frames)
    (stays e (OfferedAs TooLong)) (stays e (OfferedAs NotConnected)) (taken_by_log e message log frames)
    (stays_left e asked.source log (OfferedAs TooLong) found)
    (stays_left e asked.source log (OfferedAs NotConnected) found) put)

offer_denied : (e : RunEnd) (now : ℕ) (message : List ℕ) (asked : LogRequest) (log : WholeLog) (frames : Whole) →
    log_at e.logs asked.source ≡ Some log → log.whole ≡ whole frames → asked.decision.verdict.allow ≡ false →
    left_by e asked.source (offer_under e.registry.settings.connection_timeout (Some asked) now message log)
    ≡ stays e (Denied asked.decision.verdict)
offer_denied e now message asked log frames found is denies =
    let denied : offer_let now e.registry.settings.connection_timeout asked.decision.verdict message log frames
    ≡ answered log (Denied asked.decision.verdict) =
    rw denies refl in
    ap (left_by e asked.source) (offer_under_let e now message asked log frames found is ∙ denied)
    ∙ stays_left e asked.source log (Denied asked.decision.verdict) found

-- the log of frames that were appended
abbrev pub IsAppended : WholeLog → Type 0
IsAppended log = (frames : Whole) × (log.whole ≡ whole frames)

abbrev pub IsForPublication : Made → Type 0
IsForPublication (for_publication ident) = Unit {0}
IsForPublication (for_stream ident) = ⊥

pub appended_for : (w : AnyWhole) → IsForPublication (made_any w) → (frames : Whole) × (w ≡ whole frames)
appended_for (whole frames) is = (frames, refl)
appended_for (rebuilt frames) is = absurd is

-- what a publication's log is made for
pub published_made : (settings : Settings) (log : LogRow) (origin : Origin) → is_published_by origin ≡ true →
    IsForPublication (made_by settings log origin)
published_made settings log (Published exclusive since) is = tt
published_made settings log (Remote address initial_term join) is = absurd (cc is)

first_of : {X : Type 0} → X → List X → X
first_of other [] = other
first_of other (x ∷ xs) = x

rest_of : {X : Type 0} → List X → List X
rest_of [] = []
rest_of (x ∷ xs) = xs

-- the log that is found is made for what the source is of which it is
made_by_cond : (settings : Settings) (b : Bool) (first log : WholeLog) (source publication : LogRow) (logs : Option WholeLog) (sources : Option LogRow) →
    made_any first.whole ≡ made_of settings source →
    (logs ≡ Some log → sources ≡ Some publication → made_any log.whole ≡ made_of settings publication) →
    cond b (Some first) logs ≡ Some log → cond b (Some source) sources ≡ Some publication →
    made_any log.whole ≡ made_of settings publication
made_by_cond settings true first log source publication logs sources made rest found is =
    let same_log : first ≡ log = cc in
    let same_source : source ≡ publication = cc in
    ap (λ (l : WholeLog). made_any l.whole) (sym same_log) ∙ made ∙ ap (made_of settings) same_source
made_by_cond settings false first log source publication logs sources made rest found is = rest found is

pub made_at : (settings : Settings) (logs : List WholeLog) (sources : List LogRow) (number : ℕ) (log : WholeLog) (publication : LogRow) →
    map made_for logs ≡ map (made_as settings) sources → log_at logs number ≡ Some log →
    source_at sources number ≡ Some publication → made_any log.whole ≡ made_of settings publication
unfolding first_of rest_of
made_at settings [] sources number log publication made found is = absurd (cc found)
made_at settings (first ∷ logs) [] number log publication made found is = absurd (cc is)
made_at settings (first ∷ logs) (source ∷ sources) number log publication made found is =
    let both : made_for first ≡ made_as settings source = ap (first_of (made_for first)) made in
    let same : first.source ≡ source.number = ap (λ (m : ℕ × Made). m.0) both in
    let others : map made_for logs ≡ map (made_as settings) sources = ap rest_of made in
    made_by_cond settings (first.source == number) first log source publication (log_at logs number) (source_at sources number)
    (ap (λ (m : ℕ × Made). m.1) both) (made_at settings logs sources number log publication others) found
    (ap (λ (n : ℕ). cond (n == number) (Some source) (source_at sources number)) same ∙ is)

found_number_by : (number : ℕ) (b : Bool) (first log : LogRow) (found : Option LogRow) → (first.number == number) ≡ b →
    (found ≡ Some log → log.number ≡ number) → cond b (Some first) found ≡ Some log → log.number ≡ number
found_number_by number true first log found same rest is =
    let one : first ≡ log = cc in
    ap (λ (l : LogRow). l.number) (sym one) ∙ eqb-true first.number number same
found_number_by number false first log found same rest is = rest is

found_number : (number : ℕ) (logs : List LogRow) (log : LogRow) → source_at logs number ≡ Some log → log.number ≡ number
found_number number [] log is = absurd (cc)
found_number number (first ∷ logs) log is =
    found_number_by number (first.number == number) first log (source_at logs number) refl (found_number number logs log) is

-- the log of a registration is one of frames that were appended
registered_appended : (e : RunEnd) → LogsFollow e → AreRegistered e.registry → (handle number : ℕ) (request : OfferRequest) (log : WholeLog) →
    AsksToOffer e.registry handle number request → log_at e.logs request.publication.number ≡ Some log → IsAppended log
registered_appended e follows registered handle number request log asks found =
    let settings : Settings = e.registry.settings in
    let publication : LogRow = request.publication in
    let same : publication.number ≡ request.registration.source =
    found_number request.registration.source e.registry.streams.sources publication asks.publication_is in
    let is : source_at e.registry.streams.sources publication.number ≡ Some publication =
    ap (source_at e.registry.streams.sources) same ∙ asks.publication_is in
    let made : made_any log.whole ≡ made_of settings publication =
    made_at settings e.logs e.registry.streams.sources publication.number log publication follows.made found is in
    let published : is_published publication ≡ true =
    registered_publication e.registry handle number request.registration publication registered asks.registration_is
    asks.publication_is in
    appended_for log.whole
    (subst IsForPublication (sym made) (published_made settings publication publication.origin published))

offer_there : (e : RunEnd) → LogsFollow e → AreRegistered e.registry →
    (now handle number : ℕ) (message : List ℕ) (request : OfferRequest) (log : WholeLog) →
    AsksToOffer e.registry handle number request → log_at e.logs request.publication.number ≡ Some log →
    (frames : Whole)
    × (log.whole ≡ whole frames)
    × OfferIsDecided e now message request log frames (moved e (Offer now handle number message))
offer_there e follows registered now handle number message request log asks found =
    let asked : LogRequest = asked_by e.registry request in
    let of = registered_appended e follows registered handle number request log asks found in
    let is = offer_is e now handle number message asked log (offering_is e.registry handle number request asks) found in (
      of.0,
      of.1,
      record {
        by = by_policy e.registry (offer_question request);
        granted = λ allows. is ∙ offer_granted e now message asked log of.0 found of.1 allows;
        denied = λ denies. is ∙ offer_denied e now message asked log of.0 found of.1 denies;
      },
    )

no_registration : (s : State) (client : Option Client) → offered_by s client None ≡ None
no_registration s None = refl
no_registration s (Some client) = refl

offering_none : (s : State) (handle number : ℕ) → registration_at s.streams.registrations handle number ≡ None →
    offering_of s handle number ≡ None
unfolding offering_of
offering_none s handle number none =
    ap (offered_by s (client_at s.clients.rows handle)) none ∙ no_registration s (client_at s.clients.rows handle)

offers_decided : (e : RunEnd) → LogsFollow e → AreRegistered e.registry → OffersAreDecided e
offers_decided e follows registered = record {
  there = offer_there e follows registered;
  unregistered = λ now handle number message none.
      ap (on_offered e.registry e now handle number message) (offering_none e.registry handle number none);
}

pub offers_exactly : OffersAreGrantedExactly
offers_exactly settings policy peers steps answers sound are =
    offers_decided _ (logs_follow settings policy peers steps answers sound are)
    (ends_registered settings policy peers steps answers sound are)

-- ---- a poll

one_reader : (b : Bool) (number : ℕ) (first : Pair) (pairs : List Pair) →
    list_any (λ n. n == number) (map (λ pair. pair.subscription) (cond b (first ∷ pairs) pairs))
    ≡ ((b && (first.subscription == number)) || list_any (λ n. n == number) (map (λ pair. pair.subscription) pairs))
one_reader true number first pairs = refl
one_reader false number first pairs = refl

-- a subscription with a pair is one of the log's readers
has_reader : (source number : ℕ) (pairs : List Pair) →
    list_any (λ n. n == number) (readers_of pairs source) ≡ list_any (is_of source number) pairs
unfolding readers_of
has_reader source number [] = refl
has_reader source number (first ∷ pairs) =
    one_reader (first.source == source) number first (filter (λ pair. pair.source == source) pairs)
    ∙ ap (λ (b : Bool). (first.source == source && (first.subscription == number)) || b)
    (has_reader source number pairs)

-- each reader stands somewhere in the log
reads_somewhere : (e : RunEnd) (source number : ℕ) (log : WholeLog) →
    All (λ log. readers_in log.whole ≡ readers_of (pairs_of e.registry) log.source) e.logs →
    log_at e.logs source ≡ Some log → has_pair e.registry source number ≡ true →
    (at : ℕ) × (position_in log.whole number ≡ Some at)
unfolding has_pair
reads_somewhere e source number log read found has =
    let readers = found_holds
    (λ log. readers_in log.whole ≡ readers_of (pairs_of e.registry) log.source)
    source log e.logs read found in
    reader_stands log.whole number
    (ap (list_any (λ n. n == number)) readers
    ∙ ap (λ (n : ℕ). list_any (λ n. n == number) (readers_of (pairs_of e.registry) n))
    (found_source source log e.logs found)
    ∙ has_reader source number (pairs_of e.registry)
    ∙ has)

abbrev polled_by : State → ℕ → PollRequest → LogRequest
polled_by s source request = record {
  source = source;
  decision = row_decision s request.client Receive request.subscription.number request.subscription.channel
      request.subscription.stream;
}

receiving_is : (s : State) (handle number source : ℕ) (request : PollRequest) →
    AsksToPoll s handle number source request →
    receiving_of s handle number source ≡ Some (polled_by s source request)
unfolding receiving_of
receiving_is s handle number source request asks =
    let own : (request.subscription.client == handle) ≡ true = eq-eqb request.subscription.client handle asks.own in
    rw (asks.reads, asks.client_is, asks.subscription_is, own) refl

poll_is : (e : RunEnd) (now handle number source limit : ℕ) (asked : LogRequest) (log : WholeLog) (at : ℕ) →
    receiving_of e.registry handle number source ≡ Some asked → log_at e.logs source ≡ Some log →
    position_in log.whole number ≡ Some at →
    moved e (Poll now handle number source limit)
    ≡ left_by e source (poll_under number limit log (Some asked) (Some at))
unfolding poll_move
poll_is e now handle number source limit asked log at is found place =
    let here : receiving_of e.registry handle number log.source ≡ Some asked =
    ap (receiving_of e.registry handle number) (found_source source log e.logs found) ∙ is in
    log_moves e source (poll_move e.registry handle number limit) IsGone log found
    ∙ ap
    (λ (o : Option LogRequest). left_by e source (poll_under number limit log o (position_in log.whole number)))
    here
    ∙ ap (λ (o : Option ℕ). left_by e source (poll_under number limit log (Some asked) o)) place

poll_given : (e : RunEnd) (number source limit at : ℕ) (asked : LogRequest) (log : WholeLog) →
    log_at e.logs source ≡ Some log → asked.decision.verdict.allow ≡ true →
    left_by e source (poll_under number limit log (Some asked) (Some at)) ≡ given_by_log e number limit log
poll_given e number source limit at asked log found allows =
    let under : poll_under number limit log (Some asked) (Some at) ≡ given number limit log = rw allows refl in
    ap (left_by e source) under
    ∙ ap (λ (n : ℕ). left_by e n (given number limit log)) (sym (found_source source log e.logs found))

poll_denied : (e : RunEnd) (number source limit at : ℕ) (asked : LogRequest) (log : WholeLog) →
    log_at e.logs source ≡ Some log → asked.decision.verdict.allow ≡ false →
    left_by e source (poll_under number limit log (Some asked) (Some at)) ≡ stays e (Denied asked.decision.verdict)
poll_denied e number source limit at asked log found denies =
    let under : poll_under number limit log (Some asked) (Some at) ≡ answered log (Denied asked.decision.verdict) =
    rw denies refl in
    ap (left_by e source) under ∙ stays_left e source log (Denied asked.decision.verdict) found

poll_there : (e : RunEnd) → LogsFollow e →
    (now handle number source limit : ℕ) (request : PollRequest) (log : WholeLog) →
    AsksToPoll e.registry handle number source request → log_at e.logs source ≡ Some log →
    PollIsDecided e number limit request log (moved e (Poll now handle number source limit))
poll_there e follows now handle number source limit request log asks found =
    let asked : LogRequest = polled_by e.registry source request in
    let place = reads_somewhere e source number log follows.read found asks.reads in
    let is = poll_is e now handle number source limit asked log place.0
    (receiving_is e.registry handle number source request asks) found place.1 in
    record {
      by = by_policy e.registry (poll_question request);
      granted = λ allows. is ∙ poll_given e number source limit place.0 asked log found allows;
      denied = λ denies. is ∙ poll_denied e number source limit place.0 asked log found denies;
    }

receiving_none : (s : State) (handle number source : ℕ) → has_pair s source number ≡ false →
    receiving_of s handle number source ≡ None
unfolding receiving_of
receiving_none s handle number source none = rw none refl

received_foreign : (s : State) (handle source : ℕ) (client : Option Client) (subscription : Subscription) →
    (subscription.client == handle) ≡ false → received_on s handle source client (Some subscription) ≡ None
received_foreign s handle source None subscription other = refl
received_foreign s handle source (Some client) subscription other = rw other refl

-- another client's subscription
receiving_foreign : (s : State) (handle number source : ℕ) (subscription : Subscription) →
    subscription_at s.streams.subscriptions number ≡ Some subscription → (subscription.client == handle) ≡ false →
    receiving_of s handle number source ≡ None
unfolding receiving_of
receiving_foreign s handle number source subscription is other =
    cond_both (has_pair s source number) _ _ (λ (o : Option LogRequest). o ≡ None)
    (λ _.
    ap (received_on s handle source (client_at s.clients.rows handle)) is
    ∙ received_foreign s handle source (client_at s.clients.rows handle) subscription other)
    (λ _. refl)

poll_gone : (e : RunEnd) (handle number source limit : ℕ) (o : Option WholeLog) → log_at e.logs source ≡ o →
    receiving_of e.registry handle number source ≡ None →
    moved_on e source (poll_move e.registry handle number limit) IsGone o ≡ stays e IsGone
unfolding poll_move
poll_gone e handle number source limit None found none = refl
poll_gone e handle number source limit (Some log) found none =
    let here : receiving_of e.registry handle number log.source ≡ None =
    ap (receiving_of e.registry handle number) (found_source source log e.logs found) ∙ none in
    ap
    (λ (o : Option LogRequest). left_by e source (poll_under number limit log o (position_in log.whole number)))
    here
    ∙ stays_left e source log IsGone found

polls_decided : (e : RunEnd) → LogsFollow e → PollsAreDecided e
unfolding on_log
polls_decided e follows = record {
  there = poll_there e follows;
  unread = λ now handle number source limit none.
      poll_gone e handle number source limit (log_at e.logs source) refl
      (receiving_none e.registry handle number source none);
  foreign = λ now handle number source limit subscription is other.
      poll_gone e handle number source limit (log_at e.logs source) refl
      (receiving_foreign e.registry handle number source subscription is
      (ne_eqb subscription.client handle other));
}

pub polls_exactly : PollsAreGrantedExactly
polls_exactly settings policy peers steps answers sound are =
    polls_decided _ (logs_follow settings policy peers steps answers sound are)
