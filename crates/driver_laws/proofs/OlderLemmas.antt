-- Offers and polls by any registry of a run: a number is drawn once, so what an older registry names is the same log, or closed.
use Rattle.std.proofs.Common.{◌≡◌, ℕ, ◌<◌, ◌==◌, ◌&&◌, not, nat_lt, Bool, true, false, cond, List, [], ◌∷◌, length, map, take, drop, Contains, Option, Some, None, ⊎_elim, refl, sym, ap, subst, ◌∙◌, arith}
use Rattle.std.proofs.lemmas.Bool.{cond_both, eq-eqb, eqb-true, ne_eqb}
use Rattle.std.proofs.lemmas.List.{take-append-drop}
use Rattle.log_traffic.specs.Held.{Made}
use Rattle.log_traffic.specs.Whole.{whole, made_for as made_any, position_in}
use Rattle.driver_core.specs.declared.state.event.Event.{Event}
use Rattle.driver_core.specs.declared.state.event.Inputs.{Inputs}
use Rattle.driver_core.specs.declared.asked.log_request.LogRequest.{LogRequest}
use Rattle.driver_core.specs.declared.state.peer.Peer.{Peer}
use Rattle.driver_core.specs.declared.state.settings.Settings.{Settings}
use Rattle.driver_core.specs.Conduct.{state_of}
use Rattle.driver_core.specs.LogRequests.{has_pair, offering_of, offered_by, received_on, receiving_of, registration_at, row_decision}
use Rattle.driver_core.specs.Renewal.{source_at, subscription_at}
use Rattle.driver_core.specs.State.{State, opened}
use Rattle.driver_core.proofs.VerdictLemmas.{by_policy}
use Rattle.client_registry.specs.declared.client.Client.{Client}
use Rattle.client_registry.specs.Clients.{client_at}
use Rattle.driver_laws.specs.ClosingLaws.{IsSameLog}
use Rattle.driver_laws.specs.NumberLaws.{AreRising, ComesAbove}
use Rattle.driver_laws.specs.OlderLaws.{OffersAreDecidedBy, OffersByAnyRegistryAreGrantedExactly, PollIsDecidedBy, PollsAreDecidedBy, PollsByAnyRegistryAreGrantedExactly, let_through_seen, registry_in}
use Rattle.driver_laws.specs.OwnerLaws.{HasLog, HaveTheirLogs}
use Rattle.driver_laws.specs.PublishingLaws.{WasLive}
use Rattle.driver_laws.proofs.LoggedLemmas.{found_in, registrations_logged}
use Rattle.driver_laws.proofs.NewNumberLemmas.{never_drawn_again}
use Rattle.driver_laws.proofs.NumberLemmas.{are_drawn, numbers_rise}
use Rattle.driver_laws.proofs.RisingLemmas.{rises_unique}
use Rattle.log_steps.specs.declared.answer.Answer.{Answer}
use Rattle.log_steps.specs.declared.answer.Answer.TheVariants.{Offered as OfferedAs, Denied, Gone as IsGone}
use Rattle.log_steps.specs.declared.answer.Offered.TheVariants.{Closed, TooLong, NotConnected}
use Rattle.driver_steps.specs.declared.step.Step.TheVariants.{Offer, Poll}
use Rattle.driver_steps.specs.Ends.{log_at, Moved, moved_by, moved_on, on_log, on_offered, opening_end, RunEnd}
use Rattle.log_steps.specs.Idents.{made_of}
use Rattle.driver_steps.specs.Laws.{AsksToOffer, AsksToPoll, LogsFollow, OfferRequest, PollRequest, given_by_log, made_as, made_for, offer_question, poll_question, stays, taken_by_log, taken_from}
use Rattle.log_steps.specs.Moves.{Move, WholeLog, answered, given, offer_let, offer_move, offer_to, offer_under, poll_move, poll_under, taken}
use Rattle.driver_steps.specs.Runs.{Reading, end_of}
use Rattle.policy_core.specs.RuleList.{Rules}
use Rattle.driver_steps.proofs.DecisionLemmas.{appended_for, left_by, log_moves, made_at, published_made, stays_left, IsAppended, IsForPublication}
use Rattle.driver_steps.proofs.EndLemmas.{opening_is, run_takes, state_of_both}
use Rattle.driver_steps.proofs.FollowLemmas.{logs_follow}
use Rattle.driver_steps.proofs.FoundLemmas.{found_source}
use Rattle.policy_core.specs.declared.act.Act.TheVariants.{Offer as ToOffer, Receive}
use Rattle.stream_registry.specs.declared.row.Origin.{Origin}
use Rattle.stream_registry.specs.declared.row.Origin.TheVariants.{Published, Remote}
use Rattle.stream_registry.specs.declared.row.Registration.{Registration}
use Rattle.stream_registry.specs.declared.row.LogRow.{LogRow}
use Rattle.stream_registry.specs.declared.row.Subscription.{Subscription}
use Rattle.stream_registry.specs.Origins.{is_published, is_published_by, unlingering}
use Rattle.term_log.specs.Log.{greatest_message}
use Rattle.term_log.specs.Whole.{Whole, is_connected}

-- ---- the log of a number

number_found : (logs : List LogRow) (n : ℕ) (log : LogRow) → source_at logs n ≡ Some log → log.number ≡ n
number_found logs n log is = eqb-true log.number n (found_in (λ (one : LogRow). one.number == n) logs log is).passes

origin_published : (o : Origin) → is_published_by (unlingering o) ≡ is_published_by o
origin_published (Published exclusive since) = refl
origin_published (Remote address initial_term join) = refl

pub same_published : (log other : LogRow) → IsSameLog log other → is_published log ≡ is_published other
same_published log other same =
    sym (origin_published log.origin) ∙ ap (λ (one : LogRow). is_published one) same ∙ origin_published other.origin

-- whatever log has the number of one that somebody was registered with is that publication
still_published : (s after : State) → AreRising s → HaveTheirLogs s.streams → ComesAbove s after → (registration : Registration) →
    Contains s.streams.registrations registration → (log : LogRow) → Contains after.streams.sources log → log.number ≡ registration.source →
    is_published log ≡ true
still_published s after rises logged above registration has log stands number =
    let named : HasLog s.streams.sources registration.source = logged registration has in
    ⊎_elim
    (λ (was : WasLive s.streams log).
    let alike : log.number ≡ was.before.number = ap (λ (one : LogRow). one.number) was.same in
    let same : was.before.number ≡ named.log.number = sym alike ∙ number ∙ sym named.source_is in
    let is : was.before ≡ named.log =
    rises_unique (λ (one : LogRow). one.number) 0 s.last_number s.streams.sources was.before named.log rises.sources was.stood named.stands same in
    same_published log was.before was.same ∙ ap (λ (one : LogRow). is_published one) is ∙ named.published)
    (λ (new : s.last_number < log.number).
    let drawn = (are_drawn s rises).sources named.log named.stands in
    absurd (omega (arith, new, number, named.source_is, drawn.below)))
    (above.sources log stands)

row_step : (b : Bool) (source : LogRow) (found : Option LogRow) (first log : WholeLog) (logs : Option WholeLog) →
    (logs ≡ Some log → (row : LogRow) × (found ≡ Some row)) → cond b (Some first) logs ≡ Some log →
    (row : LogRow) × (cond b (Some source) found ≡ Some row)
row_step true source found first log logs rest is = (source, refl)
row_step false source found first log logs rest is = rest is

-- each open log is that of a live source of its number
pub row_of : (settings : Settings) (logs : List WholeLog) (sources : List LogRow) (n : ℕ) (log : WholeLog) →
    map made_for logs ≡ map (made_as settings) sources → log_at logs n ≡ Some log → (row : LogRow) × (source_at sources n ≡ Some row)
row_of settings [] sources n log made found = absurd (cc found)
row_of settings (first ∷ logs) [] n log made found = absurd (cc made)
row_of settings (first ∷ logs) (source ∷ sources) n log made found =
    let both : made_for first ≡ made_as settings source = cc made in
    let others : map made_for logs ≡ map (made_as settings) sources = cc made in
    let same : first.source ≡ source.number = ap (λ (m : ℕ × Made). m.0) both in
    subst (λ m. (row : LogRow) × (cond (m == n) (Some source) (source_at sources n) ≡ Some row)) same
    (row_step (first.source == n) source (source_at sources n) first log (log_at logs n) (row_of settings logs sources n log others) found)

appended_by : (s : State) (e : RunEnd) → LogsFollow e → AreRising s → HaveTheirLogs s.streams → ComesAbove s e.registry →
    (handle number : ℕ) (request : OfferRequest) (log : WholeLog) → AsksToOffer s handle number request →
    log_at e.logs request.publication.number ≡ Some log → IsAppended log
appended_by s e follows rises logged above handle number request log asks found =
    let settings : Settings = e.registry.settings in
    let sources : List LogRow = e.registry.streams.sources in
    let n : ℕ = request.publication.number in
    let row = row_of settings e.logs sources n log follows.made found in
    let at = found_in (λ (one : LogRow). one.number == n) sources row.0 row.1 in
    let registered =
    found_in (λ (one : Registration). one.number == number && one.client == handle) s.streams.registrations request.registration asks.registration_is in
    let same : row.0.number ≡ request.registration.source =
    eqb-true row.0.number n at.passes
    ∙ number_found s.streams.sources request.registration.source request.publication asks.publication_is in
    let published = still_published s e.registry rises logged above request.registration registered.stands row.0 at.stands same in
    let made : made_any log.whole ≡ made_of settings row.0 = made_at settings e.logs sources n log row.0 follows.made found row.1 in
    appended_for log.whole (subst IsForPublication (sym made) (published_made settings row.0 row.0.origin published))

-- ---- the offer

abbrev asked_by : State → OfferRequest → LogRequest
asked_by s request = record {
  source = request.publication.number;
  decision = row_decision s request.client ToOffer request.registration.number request.registration.channel
      request.publication.stream;
}

offering_is : (s : State) (handle number : ℕ) (request : OfferRequest) → AsksToOffer s handle number request →
    offering_of s handle number ≡ Some (asked_by s request)
unfolding offering_of
offering_is s handle number request asks = rw (asks.client_is, asks.registration_is, asks.publication_is) refl

offer_is : (s : State) (e : RunEnd) (now handle number : ℕ) (message : List ℕ) (asked : LogRequest) (log : WholeLog) →
    offering_of s handle number ≡ Some asked → log_at e.logs asked.source ≡ Some log →
    moved_by s e (Offer now handle number message) ≡ left_by e asked.source (offer_under s.settings.connection_timeout (Some asked) now message log)
unfolding offer_move
offer_is s e now handle number message asked log is found =
    ap (on_offered s e now handle number message) is
    ∙ log_moves e asked.source (offer_move s now handle number message) (OfferedAs Closed) log found
    ∙ ap (λ (o : Option LogRequest). left_by e asked.source (offer_under s.settings.connection_timeout o now message log)) is

under_let : (s : State) (e : RunEnd) (now : ℕ) (message : List ℕ) (asked : LogRequest) (log : WholeLog) (frames : Whole) →
    log_at e.logs asked.source ≡ Some log → log.whole ≡ whole frames →
    offer_under s.settings.connection_timeout (Some asked) now message log
    ≡ offer_let now s.settings.connection_timeout asked.decision.verdict message log frames
under_let s e now message asked log frames found is =
    let own : (asked.source == log.source) ≡ true = eq-eqb asked.source log.source (sym (found_source asked.source log e.logs found)) in
    rw own (ap (offer_to now s.settings.connection_timeout asked.decision.verdict message log) is)

left_under : (a b : Bool) (f : Move → Moved) (x y z : Move) (u v w : Moved) → f x ≡ u → f y ≡ v → f z ≡ w →
    f (cond a x (cond b y z)) ≡ cond a u (cond b v w)
left_under true b f x y z u v w first second third = first
left_under false true f x y z u v w first second third = second
left_under false false f x y z u v w first second third = third

offer_granted : (s : State) (e : RunEnd) (now : ℕ) (message : List ℕ) (asked : LogRequest) (log : WholeLog) (frames : Whole) →
    log_at e.logs asked.source ≡ Some log → log.whole ≡ whole frames → asked.decision.verdict.allow ≡ true →
    left_by e asked.source (offer_under s.settings.connection_timeout (Some asked) now message log) ≡ let_through_seen s e now message log frames
offer_granted s e now message asked log frames found is allows =
    let put : left_by e asked.source (taken message log frames) ≡ taken_by_log e message log frames =
    ap (λ (n : ℕ). left_by e n (taken message log frames)) (sym (found_source asked.source log e.logs found)) in
    ap (left_by e asked.source) (under_let s e now message asked log frames found is)
    ∙ rw allows
    (left_under (nat_lt (greatest_message frames.ident) (length message))
    (not (is_connected frames now s.settings.connection_timeout)) (left_by e asked.source)
    (answered log (OfferedAs TooLong)) (answered log (OfferedAs NotConnected)) (taken message log frames)
    (stays e (OfferedAs TooLong)) (stays e (OfferedAs NotConnected)) (taken_by_log e message log frames)
    (stays_left e asked.source log (OfferedAs TooLong) found)
    (stays_left e asked.source log (OfferedAs NotConnected) found) put)

offer_denied : (s : State) (e : RunEnd) (now : ℕ) (message : List ℕ) (asked : LogRequest) (log : WholeLog) (frames : Whole) →
    log_at e.logs asked.source ≡ Some log → log.whole ≡ whole frames → asked.decision.verdict.allow ≡ false →
    left_by e asked.source (offer_under s.settings.connection_timeout (Some asked) now message log) ≡ stays e (Denied asked.decision.verdict)
offer_denied s e now message asked log frames found is denies =
    let denied : offer_let now s.settings.connection_timeout asked.decision.verdict message log frames
    ≡ answered log (Denied asked.decision.verdict) =
    rw denies refl in
    ap (left_by e asked.source) (under_let s e now message asked log frames found is ∙ denied)
    ∙ stays_left e asked.source log (Denied asked.decision.verdict) found

offer_closed : (s : State) (e : RunEnd) (now handle number : ℕ) (message : List ℕ) (asked : LogRequest) →
    offering_of s handle number ≡ Some asked → log_at e.logs asked.source ≡ None →
    moved_by s e (Offer now handle number message) ≡ stays e (OfferedAs Closed)
unfolding on_log
offer_closed s e now handle number message asked is none =
    ap (on_offered s e now handle number message) is
    ∙ ap (moved_on e asked.source (offer_move s now handle number message) (OfferedAs Closed)) none

no_registration : (s : State) (client : Option Client) → offered_by s client None ≡ None
no_registration s None = refl
no_registration s (Some client) = refl

offering_none : (s : State) (handle number : ℕ) → registration_at s.streams.registrations handle number ≡ None →
    offering_of s handle number ≡ None
unfolding offering_of
offering_none s handle number none =
    ap (offered_by s (client_at s.clients.rows handle)) none ∙ no_registration s (client_at s.clients.rows handle)

decided_by_any : (s : State) (e : RunEnd) → LogsFollow e → AreRising s → HaveTheirLogs s.streams → ComesAbove s e.registry →
    OffersAreDecidedBy s e
decided_by_any s e follows rises logged above = record {
  there = λ now handle number message request log asks found.
      let asked : LogRequest = asked_by s request in
      let of = appended_by s e follows rises logged above handle number request log asks found in
      let is = offer_is s e now handle number message asked log (offering_is s handle number request asks) found in (
        of.0,
        of.1,
        record {
          by = by_policy s (offer_question request);
          granted = λ allows. is ∙ offer_granted s e now message asked log of.0 found of.1 allows;
          denied = λ denies. is ∙ offer_denied s e now message asked log of.0 found of.1 denies;
        },
      );
  closed = λ now handle number message request asks none.
      offer_closed s e now handle number message (asked_by s request) (offering_is s handle number request asks) none;
  unregistered = λ now handle number message none.
      ap (on_offered s e now handle number message) (offering_none s handle number none);
}

-- ---- the poll

abbrev polled_by : State → ℕ → PollRequest → LogRequest
polled_by s source request = record {
  source = source;
  decision = row_decision s request.client Receive request.subscription.number request.subscription.channel
      request.subscription.stream;
}

receiving_is : (s : State) (handle number source : ℕ) (request : PollRequest) →
    AsksToPoll s handle number source request →
    receiving_of s handle number source ≡ Some (polled_by s source request)
unfolding receiving_of
receiving_is s handle number source request asks =
    let own : (request.subscription.client == handle) ≡ true = eq-eqb request.subscription.client handle asks.own in
    rw (asks.reads, asks.client_is, asks.subscription_is, own) refl

-- the poll of a log that is found, under what the registry says and where the subscription stands
poll_is : (s : State) (e : RunEnd) (now handle number source limit : ℕ) (o : Option LogRequest) (log : WholeLog) →
    receiving_of s handle number source ≡ o → log_at e.logs source ≡ Some log →
    moved_by s e (Poll now handle number source limit)
    ≡ left_by e source (poll_under number limit log o (position_in log.whole number))
unfolding poll_move
poll_is s e now handle number source limit o log is found =
    let here : receiving_of s handle number log.source ≡ o =
    ap (receiving_of s handle number) (found_source source log e.logs found) ∙ is in
    log_moves e source (poll_move s handle number limit) IsGone log found
    ∙ ap
    (λ (o' : Option LogRequest). left_by e source (poll_under number limit log o' (position_in log.whole number)))
    here

poll_given : (e : RunEnd) (number source limit at : ℕ) (asked : LogRequest) (log : WholeLog) →
    log_at e.logs source ≡ Some log → asked.decision.verdict.allow ≡ true →
    left_by e source (poll_under number limit log (Some asked) (Some at)) ≡ given_by_log e number limit log
poll_given e number source limit at asked log found allows =
    let under : poll_under number limit log (Some asked) (Some at) ≡ given number limit log = rw allows refl in
    ap (left_by e source) under
    ∙ ap (λ (n : ℕ). left_by e n (given number limit log)) (sym (found_source source log e.logs found))

poll_denied : (e : RunEnd) (number source limit at : ℕ) (asked : LogRequest) (log : WholeLog) →
    log_at e.logs source ≡ Some log → asked.decision.verdict.allow ≡ false →
    left_by e source (poll_under number limit log (Some asked) (Some at)) ≡ stays e (Denied asked.decision.verdict)
poll_denied e number source limit at asked log found denies =
    let under : poll_under number limit log (Some asked) (Some at) ≡ answered log (Denied asked.decision.verdict) =
    rw denies refl in
    ap (left_by e source) under ∙ stays_left e source log (Denied asked.decision.verdict) found

poll_there : (s : State) (e : RunEnd) (now handle number source limit at : ℕ) (request : PollRequest) (log : WholeLog) →
    AsksToPoll s handle number source request → log_at e.logs source ≡ Some log → position_in log.whole number ≡ Some at →
    PollIsDecidedBy s e number limit request log (moved_by s e (Poll now handle number source limit))
poll_there s e now handle number source limit at request log asks found place =
    let asked : LogRequest = polled_by s source request in
    let is =
    poll_is s e now handle number source limit (Some asked) log (receiving_is s handle number source request asks) found
    ∙ ap (λ (o : Option ℕ). left_by e source (poll_under number limit log (Some asked) o)) place in
    record {
      by = by_policy s (poll_question request);
      granted = λ allows. is ∙ poll_given e number source limit at asked log found allows;
      denied = λ denies. is ∙ poll_denied e number source limit at asked log found denies;
    }

unread_stays : (e : RunEnd) (number source limit : ℕ) (o : Option LogRequest) (log : WholeLog) → log_at e.logs source ≡ Some log →
    left_by e source (poll_under number limit log o None) ≡ stays e IsGone
unread_stays e number source limit None log found = stays_left e source log IsGone found
unread_stays e number source limit (Some asked) log found = stays_left e source log IsGone found

poll_closed : (s : State) (e : RunEnd) (now handle number source limit : ℕ) → log_at e.logs source ≡ None →
    moved_by s e (Poll now handle number source limit) ≡ stays e IsGone
unfolding on_log
poll_closed s e now handle number source limit none = ap (moved_on e source (poll_move s handle number limit) IsGone) none

receiving_none : (s : State) (handle number source : ℕ) → has_pair s source number ≡ false →
    receiving_of s handle number source ≡ None
unfolding receiving_of
receiving_none s handle number source none = rw none refl

received_foreign : (s : State) (handle source : ℕ) (client : Option Client) (subscription : Subscription) →
    (subscription.client == handle) ≡ false → received_on s handle source client (Some subscription) ≡ None
received_foreign s handle source None subscription other = refl
received_foreign s handle source (Some client) subscription other = rw other refl

-- another client's subscription
receiving_foreign : (s : State) (handle number source : ℕ) (subscription : Subscription) →
    subscription_at s.streams.subscriptions number ≡ Some subscription → (subscription.client == handle) ≡ false →
    receiving_of s handle number source ≡ None
unfolding receiving_of
receiving_foreign s handle number source subscription is other =
    cond_both (has_pair s source number) _ _ (λ (o : Option LogRequest). o ≡ None)
    (λ _.
    ap (received_on s handle source (client_at s.clients.rows handle)) is
    ∙ received_foreign s handle source (client_at s.clients.rows handle) subscription other)
    (λ _. refl)

-- where the registry says that it is not read
poll_gone : (s : State) (e : RunEnd) (handle number source limit : ℕ) (o : Option WholeLog) → log_at e.logs source ≡ o →
    receiving_of s handle number source ≡ None →
    moved_on e source (poll_move s handle number limit) IsGone o ≡ stays e IsGone
unfolding poll_move
poll_gone s e handle number source limit None found none = refl
poll_gone s e handle number source limit (Some log) found none =
    let here : receiving_of s handle number log.source ≡ None =
    ap (receiving_of s handle number) (found_source source log e.logs found) ∙ none in
    ap
    (λ (o : Option LogRequest). left_by e source (poll_under number limit log o (position_in log.whole number)))
    here
    ∙ stays_left e source log IsGone found

polled_by_any : (s : State) (e : RunEnd) → PollsAreDecidedBy s e
unfolding on_log
polled_by_any s e = record {
  there = poll_there s e;
  unread_now = λ now handle number source limit log found place.
      poll_is s e now handle number source limit (receiving_of s handle number source) log refl found
      ∙ ap (λ (o : Option ℕ). left_by e source (poll_under number limit log (receiving_of s handle number source) o)) place
      ∙ unread_stays e number source limit (receiving_of s handle number source) log found;
  closed = poll_closed s e;
  unread = λ now handle number source limit none.
      poll_gone s e handle number source limit (log_at e.logs source) refl (receiving_none s handle number source none);
  foreign = λ now handle number source limit subscription is other.
      poll_gone s e handle number source limit (log_at e.logs source) refl
      (receiving_foreign s handle number source subscription is (ne_eqb subscription.client handle other));
}

-- ---- of a run

-- no number of that registry is drawn again
pub above_of : (settings : Settings) (policy : Rules) (peers : List Peer) (readings : List Reading) (answers : List Answer) (k : ℕ) →
    ComesAbove (registry_in settings policy peers readings answers k) (end_of (opening_end settings policy peers) readings answers).registry
above_of settings policy peers readings answers k =
    let start : State = opened settings policy peers in
    let events : List (Event × Inputs) = taken_from (opening_end settings policy peers) readings answers in
    let s : State = state_of start (take k events) in
    let e : RunEnd = end_of (opening_end settings policy peers) readings answers in
    let is : e.registry ≡ state_of s (drop k events) =
    run_takes (opening_end settings policy peers) readings answers
    ∙ ap (λ (o : State). state_of o events) (opening_is settings policy peers)
    ∙ ap (state_of start) (sym (take-append-drop k events))
    ∙ state_of_both start (take k events) (drop k events) in
    subst (ComesAbove s) (sym is) (never_drawn_again settings policy peers (take k events) (drop k events))

pub offers_by_any : OffersByAnyRegistryAreGrantedExactly
offers_by_any settings policy peers readings answers k sound are =
    let first : List (Event × Inputs) = take k (taken_from (opening_end settings policy peers) readings answers) in
    decided_by_any (registry_in settings policy peers readings answers k) (end_of (opening_end settings policy peers) readings answers)
    (logs_follow settings policy peers readings answers sound are) (numbers_rise settings policy peers first)
    (registrations_logged settings policy peers first) (above_of settings policy peers readings answers k)

pub polls_by_any : PollsByAnyRegistryAreGrantedExactly
polls_by_any settings policy peers readings answers k sound are =
    polled_by_any (registry_in settings policy peers readings answers k) (end_of (opening_end settings policy peers) readings answers)
