-- Time goes on: which logs close and which pairs go is known before anybody leaves.
use Rattle.std.proofs.Common.{◌≡◌, ℕ, ◌-◌, max, Bool, true, false, cond, List, [], ◌∷◌, ◌++◌, map, filter, Option, Some, None, unwrap_or, not, ◌&&◌, refl, sym, subst, ap, ap₂, ◌∙◌, arith}
use Rattle.std.specs.Prelude.{◌||◌}
use Rattle.std.specs.List.{flat_map, list_any}
use Rattle.std.proofs.lemmas.Bool.{le-ltb}
use Rattle.std.proofs.lemmas.List.Elements.{filter_agree}
use Rattle.driver_core.specs.declared.state.event.Inputs.{Inputs}
use Rattle.driver_core.specs.declared.state.report.Report.{Report}
use Rattle.driver_core.specs.Leaving.{all_left, left}
use Rattle.driver_core.specs.Pairs.{pairs_of}
use Rattle.driver_core.specs.Renewal.{decided_on, outcome_by, outcome_gone, source_at, subscription_at, unavailable_beside, unavailable_for, unavailable_to}
use Rattle.driver_core.specs.State.{State, at_moment}
use Rattle.driver_core.specs.Ticking.{closed_past, late, tick, ticked}
use Rattle.driver_core.specs.Report.{report_of}
use Rattle.driver_core.proofs.GoneLemmas.{either_way, found_in_part, gone_outcome, log_not_decided, none_of_part, not_decided}
use Rattle.driver_core.proofs.LeaveLemmas.{left_at}
use Rattle.log_readers.specs.Numbering.{AreInOrder, Rises, number_of, source_of}
use Rattle.log_readers.specs.Turnover.{IsTurnover, all_left as all_left_in, all_without, is_going, is_of_any, is_of_client, is_of_closing}
use Rattle.log_readers.proofs.LateLemmas.{all_left_in_order, left_any, ticked_turnover}
use Rattle.log_readers.proofs.ListLemmas.{filter_mapped, flat_alike, map_through}
use Rattle.log_readers.proofs.RisingLemmas.{rises_kept}
use Rattle.log_readers.proofs.TurnoverLemmas.{closed_by_source, stays_open}
use Rattle.stream_registry.specs.declared.pairs.Pair.{Pair}
use Rattle.stream_registry.specs.declared.row.LogRow.{LogRow}
use Rattle.stream_registry.specs.declared.row.Origin.{Origin}
use Rattle.stream_registry.specs.declared.row.Origin.TheVariants.{Published, Remote}
use Rattle.stream_registry.specs.declared.row.Registration.{Registration}
use Rattle.stream_registry.specs.declared.row.Subscription.{Subscription}
use Rattle.stream_registry.specs.Leaving.{is_subscription_of_another, left as left_in}
use Rattle.stream_registry.specs.Lingering.{closed, closing_of, is_closing, is_image_of, is_number, is_past, is_past_since, is_used, left_alone, place_of, settled, settled_one}
use Rattle.stream_registry.specs.Origins.{is_published_by, left_by, lingering_by}
use Rattle.stream_registry.specs.Streams.{Streams}

-- ---- a log that begins to linger at a moment does not close at it

just_begun : (linger now : ℕ) (since : Option ℕ) →
    is_past_since linger now (Some (unwrap_or since now)) ≡ is_past_since linger now since
just_begun linger now None = le-ltb linger (now - now) (omega arith)
just_begun linger now (Some since) = refl

left_past : (linger now : ℕ) (origin : Origin) →
    is_past_since linger now (lingering_by (left_by now origin)) ≡ is_past_since linger now (lingering_by origin)
left_past linger now (Published exclusive since) = just_begun linger now since
left_past linger now (Remote address initial_term join) = refl

kind_left : (now : ℕ) (origin : Origin) → is_published_by (left_by now origin) ≡ is_published_by origin
kind_left now (Published exclusive since) = refl
kind_left now (Remote address initial_term join) = refl

past_alike : (registrations : List Registration) (now : ℕ) (log : LogRow) →
    is_past now (settled_one registrations now log) ≡ is_past now log
past_alike registrations now log =
    elim (is_used registrations log.number) as (λ b. is_past now (cond b log (left_alone now log)) ≡ is_past now log) [
      | true ↦ refl
      | false ↦ left_past log.measures.linger now log.origin
    ]

silent_alike : (silent : List ℕ) (registrations : List Registration) (now : ℕ) (log : LogRow) →
    is_image_of silent (settled_one registrations now log) ≡ is_image_of silent log
silent_alike silent registrations now log =
    elim (is_used registrations log.number) as (λ b. is_image_of silent (cond b log (left_alone now log)) ≡ is_image_of silent log) [
      | true ↦ refl
      | false ↦ ap (λ (b : Bool). not b && list_any (is_number log.number) silent) (kind_left now log.origin)
    ]

closing_alike : (silent : List ℕ) (registrations : List Registration) (now : ℕ) (log : LogRow) →
    is_closing now silent (settled_one registrations now log) ≡ is_closing now silent log
closing_alike silent registrations now log =
    ap₂ (λ (past image : Bool). past || image) (past_alike registrations now log) (silent_alike silent registrations now log)

place_alike : (registrations : List Registration) (now : ℕ) (log : LogRow) →
    place_of (settled_one registrations now log) ≡ place_of log
place_alike registrations now log =
    elim (is_used registrations log.number) as (λ b. place_of (cond b log (left_alone now log)) ≡ place_of log) [
      | true ↦ refl
      | false ↦ refl
    ]

settled_closing : (silent : List ℕ) (registrations : List Registration) (now : ℕ) (logs : List LogRow) →
    map place_of (filter (is_closing now silent) (map (settled_one registrations now) logs))
    ≡ map place_of (filter (is_closing now silent) logs)
settled_closing silent registrations now logs =
    ap (map place_of) (filter_mapped (is_closing now silent) (settled_one registrations now) logs)
    ∙ ap (λ (past : List LogRow). map place_of (map (settled_one registrations now) past))
    (filter_agree (λ (log : LogRow). is_closing now silent (settled_one registrations now log)) (is_closing now silent)
    (closing_alike silent registrations now) logs)
    ∙ map_through place_of (settled_one registrations now) (filter (is_closing now silent) logs) (place_alike registrations now)

left_closing : (s : Streams) (client now : ℕ) (silent : List ℕ) →
    closing_of (left_in s client now) now silent ≡ closing_of s now silent
unfolding left_in settled closing_of
left_closing s client now silent = settled_closing silent _ now s.sources

all_left_closing : (s : Streams) (clients : List ℕ) (now : ℕ) (silent : List ℕ) →
    closing_of (all_left_in s clients now) now silent ≡ closing_of s now silent
all_left_closing s [] now silent = refl
all_left_closing s (client ∷ clients) now silent =
    all_left_closing (left_in s client now) clients now silent ∙ left_closing s client now silent

-- ---- the registry without these clients

all_left_is : (s : State) (clients : List ℕ) →
    all_left s clients
    ≡ record s {
      clients = all_without s.clients clients;
      streams = all_left_in s.streams clients s.moment;
      counters = (all_left s clients).counters;
    }
unfolding left
all_left_is s [] = refl
all_left_is s (client ∷ clients) = all_left_is (left s client) clients

-- the logs that close then
pub closing_same : (s : State) (now : ℕ) (silent clients : List ℕ) →
    closing_of (all_left (at_moment s now) clients).streams (all_left (at_moment s now) clients).moment silent
    ≡ closing_of s.streams (max s.moment now) silent
unfolding at_moment
closing_same s now silent clients =
    ap (λ (t : State). closing_of t.streams t.moment silent) (all_left_is (at_moment s now) clients)
    ∙ all_left_closing s.streams clients (max s.moment now) silent

-- ---- what is there of a pair then

next_at : (first : Bool) (s : Streams) (client now : ℕ) (clients : List ℕ) (pair : Pair) (found : Option Subscription) →
    is_of_client s client pair ≡ first →
    cond (is_of_any (left_in s client now) clients pair) None (cond first None found)
    ≡ cond (first || is_of_any s clients pair) None found
next_at true s client now clients pair found is = either_way None (is_of_any (left_in s client now) clients pair)
next_at false s client now clients pair found is =
    ap (λ (b : Bool). cond b None found) (left_any s client now clients pair is)

left_rises : (s : Streams) (client now last : ℕ) → Rises number_of 0 last s.subscriptions →
    Rises number_of 0 last (left_in s client now).subscriptions
unfolding left_in settled
left_rises s client now last up = rises_kept number_of (is_subscription_of_another client) 0 last s.subscriptions up

all_left_at : (s : Streams) (clients : List ℕ) (now last : ℕ) (pair : Pair) → Rises number_of 0 last s.subscriptions →
    subscription_at (all_left_in s clients now).subscriptions pair.subscription
    ≡ cond (is_of_any s clients pair) None (subscription_at s.subscriptions pair.subscription)
all_left_at s [] now last pair up = refl
all_left_at s (client ∷ clients) now last pair up =
    all_left_at (left_in s client now) clients now last pair (left_rises s client now last up)
    ∙ ap (λ (found : Option Subscription). cond (is_of_any (left_in s client now) clients pair) None found)
    (left_at s client now pair.subscription last up)
    ∙ next_at (is_of_client s client pair) s client now clients pair (subscription_at s.subscriptions pair.subscription) refl

closed_at : (s : Streams) (now : ℕ) (silent : List ℕ) (last source : ℕ) → Rises source_of 0 last s.sources →
    source_at (closed s now silent).sources source
    ≡ cond (stays_open (closing_of s now silent) source) (source_at s.sources source) None
unfolding closed
closed_at s now silent last source up =
    ap (λ (logs : List LogRow). source_at logs source) (closed_by_source s now silent 0 last up)
    ∙ found_in_part source_of (stays_open (closing_of s now silent)) source s.sources

-- ---- what goes

-- the registry behind it, by the one that those leave who are late
abbrev behind : List ℕ → State → State
behind silent between = record between { streams = closed between.streams between.moment silent }

-- the pair's subscription there
tick_at : (s : State) (silent : List ℕ) (last : ℕ) (pair : Pair) → AreInOrder s.streams s.clients.rows last →
    subscription_at (tick s silent).after.streams.subscriptions pair.subscription
    ≡ cond (is_of_any s.streams (late s) pair) None (subscription_at s.streams.subscriptions pair.subscription)
unfolding tick ticked closed_past closed
tick_at s silent last pair order =
    ap (λ (t : State). subscription_at t.streams.subscriptions pair.subscription) (all_left_is s (late s))
    ∙ all_left_at s.streams (late s) s.moment last pair order.numbers

-- and its log
tick_log : (s : State) (silent : List ℕ) (last : ℕ) (pair : Pair) → AreInOrder s.streams s.clients.rows last →
    is_of_closing (tick s silent).closes pair ≡ true → source_at (tick s silent).after.streams.sources pair.source ≡ None
unfolding tick ticked closed_past
tick_log s silent last pair order closes =
    let between : Streams = all_left_in s.streams (late s) s.moment in
    let is = all_left_is s (late s) in
    let closing : is_of_closing (closing_of between s.moment silent) pair ≡ true =
    subst (λ (t : State). is_of_closing (closing_of t.streams t.moment silent) pair ≡ true) is closes in
    ap (λ (t : State). source_at (closed t.streams t.moment silent).sources pair.source) is
    ∙ closed_at between s.moment silent last pair.source
    (all_left_in_order s.policy s.epoch s.streams s.clients (late s) s.moment last order).sources
    ∙ (rw closing refl)

tick_turnover : (s : State) (silent : List ℕ) (last : ℕ) → AreInOrder s.streams s.clients.rows last →
    IsTurnover (pairs_of s) (pairs_of (tick s silent).after)
    (filter (is_going s.streams (late s) (tick s silent).closes) (pairs_of s)) []
unfolding tick ticked closed_past pairs_of
tick_turnover s silent last order =
    subst (λ (t : State).
    IsTurnover (pairs_of s) (pairs_of (behind silent t))
    (filter (is_going s.streams (late s) (closing_of t.streams t.moment silent)) (pairs_of s)) [])
    (sym (all_left_is s (late s)))
    (ticked_turnover s.policy s.epoch s.streams s.clients (late s) s.moment silent last order)

-- ---- what is told of it

beside : (b : Bool) (pair : Pair) (found : Option Subscription) →
    unavailable_to pair (cond b None found) ≡ cond b [] (unavailable_to pair found)
beside true pair found = refl
beside false pair found = refl

tick_tells : (s : State) (silent : List ℕ) (last : ℕ) (pair : Pair) → AreInOrder s.streams s.clients.rows last →
    unavailable_for (tick s silent).after pair ≡ unavailable_beside s (late s) pair
unfolding unavailable_for
tick_tells s silent last pair order =
    ap (unavailable_to pair) (tick_at s silent last pair order)
    ∙ beside (is_of_any s.streams (late s) pair) pair (subscription_at s.streams.subscriptions pair.subscription)

either_gone : (b : Bool) (s : State) (silent : List ℕ) (last : ℕ) (pair : Pair) → AreInOrder s.streams s.clients.rows last →
    is_of_any s.streams (late s) pair ≡ b → (b || is_of_closing (tick s silent).closes pair) ≡ true →
    decided_on (tick s silent).after pair ≡ []
either_gone true s silent last pair order is going =
    not_decided (tick s silent).after pair
    (tick_at s silent last pair order
    ∙ ap (λ (b : Bool). cond b None (subscription_at s.streams.subscriptions pair.subscription)) is)
either_gone false s silent last pair order is going =
    log_not_decided (tick s silent).after pair (tick_log s silent last pair order going)

tick_outcome : (s : State) (before : State) (silent : List ℕ) (last : ℕ) (inputs : Inputs) → pairs_of before ≡ pairs_of s →
    AreInOrder s.streams s.clients.rows last →
    outcome_by before inputs (tick s silent)
    ≡ outcome_gone (record (report_of (tick s silent)) {
      replies = (tick s silent).replies ++ flat_map (unavailable_beside s (late s)) (filter (is_going s.streams (late s) (tick s silent).closes) (pairs_of s));
    }) (filter (is_going s.streams (late s) (tick s silent).closes) (pairs_of s))
tick_outcome s before silent last inputs same order =
    let gone : List Pair = filter (is_going s.streams (late s) (tick s silent).closes) (pairs_of s) in
    gone_outcome before inputs (tick s silent) gone (flat_map (unavailable_beside s (late s)) gone)
    (subst (λ (pairs : List Pair). IsTurnover pairs (pairs_of (tick s silent).after) gone []) (sym same) (tick_turnover s silent last order))
    (flat_alike (unavailable_for (tick s silent).after) (unavailable_beside s (late s)) gone (λ pair. tick_tells s silent last pair order))
    (none_of_part (is_going s.streams (late s) (tick s silent).closes) (decided_on (tick s silent).after) (pairs_of s)
    (λ pair going. either_gone (is_of_any s.streams (late s) pair) s silent last pair order refl going))

pub going_outcome : (s : State) (last now : ℕ) (inputs : Inputs) (told : Report) (clients : List ℕ) →
    AreInOrder s.streams s.clients.rows last → told ≡ report_of (tick (at_moment s now) inputs.silent) →
    clients ≡ late (at_moment s now) →
    outcome_by s inputs (tick (at_moment s now) inputs.silent)
    ≡ outcome_gone (record told {
      replies = told.replies ++ flat_map (unavailable_beside s clients) (filter (is_going s.streams clients told.closes) (pairs_of s));
    }) (filter (is_going s.streams clients told.closes) (pairs_of s))
unfolding at_moment pairs_of unavailable_for
going_outcome s last now inputs told clients order is are =
    rw (is, are) (tick_outcome (at_moment s now) s inputs.silent last inputs refl order)
