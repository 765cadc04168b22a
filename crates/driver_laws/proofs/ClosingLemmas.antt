-- Where a log lingered for too long, or the driver ends, it closes.
use Rattle.std.proofs.Common.{◌≡◌, ℕ, ◌-◌, ◌<◌, ◌==◌, max, ◌||◌, not, Bool, true, false, List, [], ◌∷◌, ◌++◌, map, filter, Option, Some, refl, sym, ap, ap₂, ◌∙◌, ⊎_elim}
use Rattle.std.specs.List.{Contains, list_any}
use Rattle.std.proofs.lemmas.Bool.{eq-eqb, lt-ltb, or_left, or_right}
use Rattle.std.proofs.lemmas.List.Elements.{All-contains, Contains-append_cases, filter_passes}
use Rattle.driver_core.specs.Change.{Change}
use Rattle.driver_core.specs.declared.state.event.Event.{Event}
use Rattle.driver_core.specs.declared.state.event.Event.TheVariants.{Tick}
use Rattle.driver_core.specs.declared.state.event.Inputs.{Inputs}
use Rattle.driver_core.specs.Commands.{heard, at_request}
use Rattle.driver_core.specs.Conduct.{coming_to, conduct, drafted, state_of}
use Rattle.driver_core.specs.Leaving.{all_left}
use Rattle.driver_core.specs.Renewal.{renewed}
use Rattle.driver_core.specs.Soundness.{MovesLogs, log_of}
use Rattle.driver_core.specs.State.{State, at_moment, opened, ruled}
use Rattle.driver_core.specs.Terminating.{terminated}
use Rattle.driver_core.specs.Ticking.{closed_past, late, tick, ticked}
use Rattle.driver_core.specs.Pairs.{pairs_of}
use Rattle.driver_core.specs.Unread.{dropping, is_closed}
use Rattle.driver_laws.specs.ClosingLaws.{Closes, IsClosed, IsPastBy, IsSameLog, IsSilentBy, LogsCloseExactly}
use Rattle.driver_laws.specs.LeavingLaws.{IsTerminatedBy}
use Rattle.client_registry.specs.declared.client.Client.{Client}
use Rattle.stream_registry.specs.declared.lingering.LogPlace.{LogPlace}
use Rattle.stream_registry.specs.declared.row.LogRow.{LogRow}
use Rattle.stream_registry.specs.Lingering.{closing_of, is_closing, is_image_of, is_past, is_past_since, place_of}
use Rattle.stream_registry.specs.Origins.{lingering_since}
use Rattle.log_readers.specs.Unread.{is_left, is_unread}
use Rattle.driver_core.proofs.ListLemmas.{contains_none, only_one, passes_are_left}
use Rattle.driver_core.proofs.SoundnessLemmas.{moves_logs, registries_sound}
use Rattle.driver_laws.proofs.KeepingLemmas.{image_alike, moment_of}
use Rattle.driver_laws.proofs.GoneLemmas.{end_is}
use Rattle.driver_laws.proofs.TurningLemmas.{drawn}
use Rattle.driver_laws.proofs.LeftLemmas.{Left, each_left, mapped, past_settles, place_settles, same_but_since}

-- ---- the outcome tells it

past_is : (linger now since : ℕ) (lingers : Option ℕ) → lingers ≡ Some since → linger < now - since →
    is_past_since linger now lingers ≡ true
past_is linger now since lingers is long = rw is (lt-ltb linger (now - since) long)

ticked_closes : {Goes : ℕ → Type 0} (s between : State) (now : ℕ) (silent : List ℕ) (log : LogRow) →
    Left (max s.moment now) (at_moment s now) between Goes → Contains s.streams.sources log →
    is_closing (max s.moment now) silent log ≡ true →
    Contains (closing_of between.streams (max s.moment now) silent) (place_of log)
unfolding closing_of at_moment
ticked_closes s between now silent log leaves has closes =
    let moment = max s.moment now in
    let there = leaves.logs log has in
    let goes : LogRow → Bool = is_closing moment silent in
    let same : IsSameLog there.0 log = same_but_since moment log there.0 there.2 in
    rw (sym (place_settles moment log there.0 there.2))
    (mapped place_of (filter goes between.streams.sources) there.0
    (passes_are_left goes between.streams.sources there.0
    (ap₂ (λ (b c : Bool). b || c) (past_settles moment log there.0 there.2) (image_alike silent there.0 log same)
    ∙ closes) there.1))

tick_closes : (s : State) (now : ℕ) (inputs : Inputs) (log : LogRow) → Contains s.streams.sources log →
    is_closing (max s.moment now) inputs.silent log ≡ true → Contains (drafted s (Tick now) inputs).closes (place_of log)
unfolding drafted tick ticked closed_past
tick_closes s now inputs log has closes =
    let start = at_moment s now in
    let between = all_left start (late start) in
    let leaves = each_left start (max s.moment now) (late start) (moment_of s now) in
    rw leaves.moment (ticked_closes s between now inputs.silent log leaves has closes)

past_closes : (s : State) (event : Event) (inputs : Inputs) (log : LogRow) → Contains s.streams.sources log →
    IsPastBy s event log → Contains (drafted s event inputs).closes (place_of log)
past_closes s event inputs log has by =
    rw by.event_is
    (tick_closes s by.moment inputs log has
    (or_left (is_past (max s.moment by.moment) log) (is_image_of inputs.silent log)
    (past_is log.measures.linger (max s.moment by.moment) by.since (lingering_since log) by.lingers by.too_long)))

silent_closes : (s : State) (event : Event) (inputs : Inputs) (log : LogRow) → Contains s.streams.sources log →
    IsSilentBy event inputs log → Contains (drafted s event inputs).closes (place_of log)
silent_closes s event inputs log has by =
    rw by.event_is
    (tick_closes s by.moment inputs log has
    (or_right (is_past (max s.moment by.moment) log) (is_image_of inputs.silent log) by.silent))

terminated_closes : (s : State) (now handle : ℕ) (client : Client) (correlation : ℕ) (log : LogRow) →
    Contains s.streams.sources log →
    Contains (terminated (at_request s now handle) client correlation).closes (place_of log)
unfolding terminated heard at_moment
terminated_closes s now handle client correlation log has = mapped place_of s.streams.sources log has

end_closes : (s : State) (event : Event) (inputs : Inputs) (log : LogRow) → Contains s.streams.sources log →
    IsTerminatedBy s event → Contains (drafted s event inputs).closes (place_of log)
end_closes s event inputs log has by =
    rw (end_is s event inputs by) (terminated_closes s by.moment by.handle by.client by.correlation log has)

pub any_of : {X : Type 0} (test : X → Bool) (xs : List X) (x : X) → Contains xs x → test x ≡ true → list_any test xs ≡ true
any_of test [] x has passes = absurd (contains_none x has)
any_of test (y ∷ ys) x has passes =
    ⊎_elim
    (λ first. or_left (test y) _ (ap test (only_one y x first) ∙ passes))
    (λ later. or_right (test y) _ (any_of test ys x later passes))
    (Contains-append_cases (y ∷ []) ys x has)

-- the event's own rule tells of the log, or none reads it any more
closed_one : (s : State) (event : Event) (inputs : Inputs) (log : LogRow) → Contains s.streams.sources log →
    (not (is_left (drafted s event inputs).closes log) || is_unread (pairs_of (drafted s event inputs).after) log) ≡ true →
    Contains (drawn s event inputs).outcome.closes (place_of log)
unfolding renewed dropping
closed_one s event inputs log has closes =
    let goes : LogRow → Bool = is_closed (renewed s inputs (drafted s event inputs)) in
    mapped place_of (filter goes s.streams.sources) log (passes_are_left goes s.streams.sources log closes has)

told_one : (s : State) (event : Event) (inputs : Inputs) (log : LogRow) → Contains s.streams.sources log →
    Contains (drafted s event inputs).closes (place_of log) → Contains (drawn s event inputs).outcome.closes (place_of log)
told_one s event inputs log has told =
    let closes : List LogPlace = (drafted s event inputs).closes in
    let any : list_any (λ (closed : LogPlace). closed.source == log.number) closes ≡ true =
    any_of (λ (closed : LogPlace). closed.source == log.number) closes (place_of log) told
    (eq-eqb log.number log.number refl) in
    closed_one s event inputs log has
    (or_left (not (is_left closes log)) (is_unread (pairs_of (drafted s event inputs).after) log) (rw any refl))

told_of : (s : State) (event : Event) (inputs : Inputs) (log : LogRow) → Contains s.streams.sources log →
    Closes s event inputs log → Contains (drawn s event inputs).outcome.closes (place_of log)
told_of s event inputs log has closes =
    ⊎_elim (λ past. told_one s event inputs log has (past_closes s event inputs log has past))
    (λ others.
    ⊎_elim (λ silent. told_one s event inputs log has (silent_closes s event inputs log has silent))
    (λ further.
    ⊎_elim (λ ends. told_one s event inputs log has (end_closes s event inputs log has ends))
    (λ unread.
    closed_one s event inputs log has
    (or_right (not (is_left (drafted s event inputs).closes log))
    (is_unread (pairs_of (drafted s event inputs).after) log) unread))
    further)
    others)
    closes

-- ---- no log of its number is live

-- a log behind the event is none of those that close
is_left_behind : (s : State) (change : Change) (log : LogRow) → MovesLogs s change →
    Contains change.after.streams.sources log → is_left change.outcome.closes (log_of log) ≡ true
is_left_behind s change log moves has =
    let stays : LogRow → Bool = is_left change.outcome.closes in
    let before : List LogRow = filter stays (map log_of s.streams.sources) in
    let there : Contains (before ++ moves.opened) (log_of log) =
    rw (sym moves.logs) (mapped log_of change.after.streams.sources log has) in
    ⊎_elim
    (λ was. All-contains (λ l. stays l ≡ true) before (log_of log)
    (filter_passes stays (map log_of s.streams.sources)) was)
    (λ opens. All-contains (λ l. stays l ≡ true) (filter stays moves.opened) (log_of log)
    (filter_passes stays moves.opened) (rw moves.stays opens))
    (Contains-append_cases before moves.opened (log_of log) there)

none_live : (s : State) (change : Change) (log other : LogRow) → MovesLogs s change →
    Contains change.outcome.closes (place_of log) → Contains change.after.streams.sources other →
    other.number ≡ log.number → ⊥
none_live s change log other moves told has same =
    let stays : is_left change.outcome.closes (log_of other) ≡ true = is_left_behind s change other moves has in
    let closes : list_any (λ (closed : LogPlace). closed.source == other.number) change.outcome.closes ≡ true =
    any_of (λ (closed : LogPlace). closed.source == other.number) change.outcome.closes (place_of log) told
    (eq-eqb log.number other.number (sym same)) in
    let never : false ≡ true = rw closes at stays in
    absurd (cc never)

-- ---- the law

-- the registry to which the event comes has the same logs
told_at : (s : State) (event : Event) (inputs : Inputs) (log : LogRow) → Contains s.streams.sources log →
    Closes (coming_to s event) event inputs log → Contains (conduct s event inputs).outcome.closes (place_of log)
unfolding conduct renewed dropping ruled
told_at s event inputs log has closes = told_of (coming_to s event) event inputs log has closes

closed_by : (s : State) (event : Event) (inputs : Inputs) (log : LogRow) →
    MovesLogs s (conduct s event inputs) → Contains s.streams.sources log → Closes (coming_to s event) event inputs log →
    IsClosed (conduct s event inputs) log
closed_by s event inputs log moves has closes =
    let told = told_at s event inputs log has closes in
    record {
      told = told;
      gone = λ other there same. none_live s (conduct s event inputs) log other moves told there same;
    }

pub logs_closed : LogsCloseExactly
logs_closed settings policy peers events sound event inputs log has closes =
    let s = state_of (opened settings policy peers) events in
    closed_by s event inputs log
    (moves_logs s event inputs (registries_sound settings policy peers events sound)) has closes
