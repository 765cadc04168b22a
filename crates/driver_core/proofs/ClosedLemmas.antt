-- Which images are unread behind an event is known from the pairs that go and come.
use Rattle.std.proofs.Common.{◌≡◌, ℕ, ◌==◌, Bool, true, false, not, ◌&&◌, cond, List, [], ◌∷◌, map, filter, ◌⊎◌, inl, inr, ⊎_elim, refl, sym, ap, ◌∙◌, eq-eqb, eqb-true}
use Rattle.std.specs.Prelude.{◌||◌}
use Rattle.std.specs.List.{Contains, list_any}
use Rattle.std.proofs.lemmas.List.Elements.{All-contains, All-contains_itself, All-head, Contains-append_cases, Contains-append_left, Contains-append_right, filter_agree, filter_passes}
use Rattle.driver_core.specs.declared.state.outcome.Outcome.{Outcome}
use Rattle.driver_core.specs.Change.{Change}
use Rattle.driver_core.specs.Pairs.{is_lacked_by, is_same_pair, lacking, pairs_of}
use Rattle.driver_core.specs.Renewal.{come_to, gone_from}
use Rattle.driver_core.specs.State.{State}
use Rattle.driver_core.specs.Unread.{are_all_read, closed_from, is_closed, without_unread as without_unread_from}
use Rattle.driver_core.proofs.ListLemmas.{contains_none, left_was_there, only_one, passes_are_left}
use Rattle.driver_core.specs.Kept.{AreRead}
use Rattle.client_registry.specs.declared.client.Client.{Client}
use Rattle.log_readers.specs.Numbering.{source_of}
use Rattle.log_readers.specs.Unread.{has_left, has_none, has_pair, is_closed as is_closed_by, is_kept, is_left, is_of_source, is_unread, unread_of, without_unread}
use Rattle.policy_core.specs.RuleList.{Rules}
use Rattle.stream_registry.specs.Pairs.{pairs_of as pairs_in}
use Rattle.stream_registry.specs.Streams.{Streams}
use Rattle.stream_registry.specs.declared.pairs.Pair.{Pair}
use Rattle.stream_registry.specs.declared.row.LogRow.{LogRow}
use Rattle.stream_registry.specs.Lingering.{place_of}
use Rattle.stream_registry.specs.Origins.{is_remote}

-- ---- an element that passes, and whether there is one

left_or : (b c : Bool) → b ≡ true → (b || c) ≡ true
left_or true c is = refl
left_or false c is = absurd (cc)

right_or : (b c : Bool) → c ≡ true → (b || c) ≡ true
right_or true c is = refl
right_or false c is = is

any_of : {X : Type 0} (test : X → Bool) (xs : List X) (x : X) → Contains xs x → test x ≡ true → list_any test xs ≡ true
any_of test [] x has passes = absurd (contains_none x has)
any_of test (y ∷ ys) x has passes =
    ⊎_elim
    (λ first. left_or (test y) (list_any test ys) (ap test (only_one y x first) ∙ passes))
    (λ later. right_or (test y) (list_any test ys) (any_of test ys x later passes))
    (Contains-append_cases (y ∷ []) ys x has)

record Found {X : Type 0} (test : X → Bool) (xs : List X) : Type 0 where
  one : X
  there : Contains xs one
  passes : test one ≡ true

alone : {X : Type 0} (x : X) → Contains (x ∷ []) x
alone x = All-head (Contains (x ∷ [])) x [] (All-contains_itself (x ∷ []))

found_in : {X : Type 0} (test : X → Bool) (y : X) (ys : List X) (b : Bool) → test y ≡ b →
    (list_any test ys ≡ true → Found test ys) → (b || list_any test ys) ≡ true → Found test (y ∷ ys)
found_in test y ys true is rest any =
    record { one = y; there = Contains-append_left (y ∷ []) ys y (alone y); passes = is }
found_in test y ys false is rest any =
    let found = rest any in
    record { one = found.one; there = Contains-append_right (y ∷ []) ys found.one found.there; passes = found.passes }

found_of : {X : Type 0} (test : X → Bool) (xs : List X) → list_any test xs ≡ true → Found test xs
found_of test [] any = absurd (cc)
found_of test (y ∷ ys) any = found_in test y ys (test y) refl (found_of test ys) any

passes_test : {X : Type 0} (test : X → Bool) (xs : List X) (x : X) → Contains (filter test xs) x → test x ≡ true
passes_test test xs x has = All-contains (λ y. test y ≡ true) (filter test xs) x (filter_passes test xs) has

-- ---- pairs

both_parts : (b c : Bool) → (b && c) ≡ true → (b ≡ true) × (c ≡ true)
both_parts true true is = (refl, refl)
both_parts true false is = absurd (cc)
both_parts false c is = absurd (cc)

same_pair : (pair other : Pair) → is_same_pair pair other ≡ true → pair ≡ other
same_pair pair other same =
    let parts = both_parts (pair.source == other.source) (pair.subscription == other.subscription) same in
    let source : pair.source ≡ other.source = eqb-true pair.source other.source parts.0 in
    let subscription : pair.subscription ≡ other.subscription = eqb-true pair.subscription other.subscription parts.1 in
    λ i. record { source = source i; subscription = subscription i }

itself : (pair : Pair) → is_same_pair pair pair ≡ true
itself pair = rw (eq-eqb pair.source pair.source refl, eq-eqb pair.subscription pair.subscription refl) refl

-- it is lacked by the others, or one of them
lacked_or : (others : List Pair) (pair : Pair) → (is_lacked_by others pair ≡ true) ⊎ Contains others pair
lacked_or others pair = by (list_any (is_same_pair pair) others) refl
  where
    by : (b : Bool) → list_any (is_same_pair pair) others ≡ b → (not b ≡ true) ⊎ Contains others pair
    by true is =
        let found = found_of (is_same_pair pair) others is in
        inr (rw (same_pair pair found.one found.passes) found.there)
    by false is = inl refl

not_lacked : (others : List Pair) (pair : Pair) → Contains others pair → is_lacked_by others pair ≡ true → ⊥
not_lacked others pair has lacks =
    let any : list_any (is_same_pair pair) others ≡ true = any_of (is_same_pair pair) others pair has (itself pair) in
    let no : not true ≡ true = ap not (sym any) ∙ lacks in
    absurd (cc)

-- ---- what is left of a log's pairs

module _ (source : ℕ) (before after : List Pair) where
  abbrev of : Pair → Bool
  of pair = is_of_source source pair

  abbrev left_of : Bool
  left_of = list_any (is_of_source source) (lacking before (lacking before after)) || list_any (is_of_source source) (lacking after before)

  to_stay : list_any (is_of_source source) (lacking before (lacking before after)) ≡ true → list_any (is_of_source source) after ≡ true
  to_stay any =
      let found = found_of (is_of_source source) (lacking before (lacking before after)) any in
      let there : Contains before found.one = left_was_there (is_lacked_by (lacking before after)) before found.one found.there in
      let stays = passes_test (is_lacked_by (lacking before after)) before found.one found.there in
      ⊎_elim
      (λ lacks. absurd (not_lacked (lacking before after) found.one (passes_are_left (is_lacked_by after) before found.one lacks there) stays))
      (λ has. any_of (is_of_source source) after found.one has found.passes)
      (lacked_or after found.one)

  to_come : list_any (is_of_source source) (lacking after before) ≡ true → list_any (is_of_source source) after ≡ true
  to_come any =
      let found = found_of (is_of_source source) (lacking after before) any in
      any_of (is_of_source source) after found.one (left_was_there (is_lacked_by before) after found.one found.there) found.passes

  from_after : list_any (is_of_source source) after ≡ true →
      (list_any (is_of_source source) (lacking before (lacking before after)) || list_any (is_of_source source) (lacking after before)) ≡ true
  from_after any =
      let found = found_of (is_of_source source) after any in
      ⊎_elim
      (λ lacks.
      right_or (list_any (is_of_source source) (lacking before (lacking before after))) _
      (any_of (is_of_source source) (lacking after before) found.one
      (passes_are_left (is_lacked_by before) after found.one lacks found.there) found.passes))
      (λ stood.
      ⊎_elim
      (λ stays.
      left_or _ (list_any (is_of_source source) (lacking after before))
      (any_of (is_of_source source) (lacking before (lacking before after)) found.one
      (passes_are_left (is_lacked_by (lacking before after)) before found.one stays stood) found.passes))
      (λ went. absurd (not_lacked after found.one found.there (passes_test (is_lacked_by after) before found.one went)))
      (lacked_or (lacking before after) found.one))
      (lacked_or before found.one)

alike : (b c d : Bool) → (b ≡ true → d ≡ true) → (c ≡ true → d ≡ true) → (d ≡ true → (b || c) ≡ true) → (b || c) ≡ d
alike true c true stays comes back = refl
alike true c false stays comes back = sym (stays refl)
alike false true true stays comes back = refl
alike false true false stays comes back = sym (comes refl)
alike false false true stays comes back = back refl
alike false false false stays comes back = refl

pub left_is : (before after : List Pair) (log : LogRow) →
    has_left before (lacking before after) (lacking after before) log ≡ has_pair after log
left_is before after log =
    alike (list_any (is_of_source log.number) (lacking before (lacking before after)))
    (list_any (is_of_source log.number) (lacking after before)) (list_any (is_of_source log.number) after)
    (to_stay log.number before after) (to_come log.number before after) (from_after log.number before after)

-- the logs that close, by what the event tells
pub closed_is : (s : State) (change : Change) (outcome : Outcome) → change.outcome ≡ outcome →
    outcome.gone ≡ gone_from s change.after → outcome.come ≡ come_to s change.after →
    map place_of (filter (is_closed_by (pairs_of s) outcome.closes outcome.gone outcome.come) s.streams.sources)
    ≡ closed_from s change
closed_is s change outcome is gone come =
    ap (map place_of)
    (filter_agree (is_closed_by (pairs_of s) outcome.closes outcome.gone outcome.come) (is_closed change)
    (λ log.
    rw (gone, come, ← is)
    (ap (λ (b : Bool). not (is_left change.outcome.closes log) || (is_remote log && not b))
    (left_is (pairs_of s) (pairs_of change.after) log))) s.streams.sources)

-- ---- where each image has a pair

lack_none : (pairs : List Pair) → lacking pairs [] ≡ pairs
lack_none [] = refl
lack_none (pair ∷ pairs) = ap (λ (rest : List Pair). pair ∷ rest) (lack_none pairs)

closed_step : (remote read comes : Bool) (log : LogRow) (rest others : List LogRow) →
    cond (remote && not read) (log ∷ rest) rest ≡ [] → (rest ≡ [] → others ≡ []) →
    cond (remote && not (read || comes)) (log ∷ others) others ≡ []
closed_step true true comes log rest others none step = step none
closed_step true false comes log rest others none step = absurd (cc none)
closed_step false read comes log rest others none step = step none

none_closed_by : (pairs come : List Pair) (logs : List LogRow) → filter (is_unread pairs) logs ≡ [] →
    filter (λ log. is_remote log && not (has_pair pairs log || has_pair come log)) logs ≡ []
none_closed_by pairs come [] none = refl
none_closed_by pairs come (log ∷ logs) none =
    closed_step (is_remote log) (has_pair pairs log) (has_pair come log) log (filter (is_unread pairs) logs)
    (filter (λ log. is_remote log && not (has_pair pairs log || has_pair come log)) logs) none
    (none_closed_by pairs come logs)

-- none closes where none is closed and no pair goes
pub none_closed : (pairs come : List Pair) (logs : List LogRow) → filter (is_unread pairs) logs ≡ [] →
    map place_of (filter (is_closed_by pairs [] [] come) logs) ≡ []
none_closed pairs come logs none =
    ap (λ (all : List Pair). map place_of (filter (λ log. is_remote log && not (has_pair all log || has_pair come log)) logs)) (lack_none pairs)
    ∙ ap (map place_of) (none_closed_by pairs come logs none)

-- so no log closes with an event that closes none by its own rule and takes no pair away
nothing_closes : (s : State) (change : Change) (outcome : Outcome) → change.outcome ≡ outcome →
    outcome.gone ≡ gone_from s change.after → outcome.come ≡ come_to s change.after → outcome.closes ≡ [] → outcome.gone ≡ [] →
    filter (is_unread (pairs_of s)) s.streams.sources ≡ [] → [] ≡ closed_from s change
nothing_closes s change outcome is gone come closes goes none =
    rw (← closed_is s change outcome is gone come, closes, goes)
    (sym (none_closed (pairs_of s) outcome.come s.streams.sources none))

kept_step : (unread : Bool) (log : LogRow) (rest others logs : List LogRow) → cond unread (log ∷ rest) rest ≡ [] →
    (rest ≡ [] → others ≡ logs) → cond (not unread) (log ∷ others) others ≡ log ∷ logs
kept_step true log rest others logs none step = absurd (cc none)
kept_step false log rest others logs none step = ap (λ (more : List LogRow). log ∷ more) (step none)

all_kept : (pairs : List Pair) (logs : List LogRow) → filter (is_unread pairs) logs ≡ [] → filter (is_kept pairs) logs ≡ logs
all_kept pairs [] none = refl
all_kept pairs (log ∷ logs) none =
    kept_step (is_unread pairs log) log (filter (is_unread pairs) logs) (filter (is_kept pairs) logs) logs none
    (all_kept pairs logs)

-- and none goes
pub read_stays : (s : Streams) (clients : List Client) (policy : Rules) (epoch : ℕ) → AreRead s clients policy epoch →
    without_unread s clients policy epoch ≡ s
unfolding without_unread
read_stays s clients policy epoch read =
    ap (λ (logs : List LogRow). record s { sources = logs }) (all_kept (pairs_in s clients policy epoch) s.sources read.all)

pub read_registry : (s : State) → AreRead s.streams s.clients.rows s.policy s.epoch → without_unread_from s ≡ s
unfolding without_unread_from
read_registry s read =
    ap (λ (streams : Streams). record s { streams = streams }) (read_stays s.streams s.clients.rows s.policy s.epoch read)

none_mapped : (logs : List LogRow) → map source_of logs ≡ [] → logs ≡ []
none_mapped [] none = refl
none_mapped (log ∷ logs) none = absurd (cc none)

-- so where none is unread
pub read_by : (s : Streams) (clients : List Client) (policy : Rules) (epoch : ℕ) →
    unread_of s (pairs_in s clients policy epoch) ≡ [] → AreRead s clients policy epoch
read_by s clients policy epoch none = record { all = none_mapped (filter (is_unread (pairs_in s clients policy epoch)) s.sources) none }

pub none_there : (numbers : List ℕ) → has_none numbers ≡ true → numbers ≡ []
none_there [] none = refl
none_there (number ∷ numbers) none = absurd (cc)

pub none_closes : (s : State) (change : Change) (outcome : Outcome) → change.outcome ≡ outcome →
    outcome.gone ≡ gone_from s change.after → outcome.come ≡ come_to s change.after → outcome.closes ≡ [] → outcome.gone ≡ [] →
    are_all_read s ≡ true → outcome.closes ≡ closed_from s change
none_closes s change outcome is gone come closes goes read =
    closes ∙ nothing_closes s change outcome is gone come closes goes
    (none_mapped (filter (is_unread (pairs_of s)) s.streams.sources) (none_there (unread_of s.streams (pairs_of s)) read))
