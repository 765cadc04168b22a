-- Behind an event images go that none reads: what that leaves as it was, and where none goes.
use Rattle.std.proofs.Common.{◌≡◌, ℕ, Bool, true, false, not, ◌&&◌, ◌||◌, cond, List, [], ◌∷◌, map, filter, find, Some, is_some, refl, sym, ap, ◌∙◌, ⊎_elim}
use Rattle.std.specs.List.{AllByRecursion, Contains, list_any}
use Rattle.std.proofs.lemmas.Bool.{cases_Bool, not-true, or_left, or_right}
use Rattle.std.proofs.lemmas.List.Elements.{All-contains, Contains-append_cases, Contains-append_left, Contains-append_right, Contains-push, filter_passes}
use Rattle.driver_core.specs.Change.{Change}
use Rattle.driver_core.specs.declared.state.outcome.Outcome.{Outcome}
use Rattle.driver_core.specs.Pairs.{pairs_of}
use Rattle.driver_core.specs.State.{State}
use Rattle.driver_core.specs.Unread.{closed_from, dropping, is_closed, without_unread}
use Rattle.driver_laws.specs.NumberLaws.{AreRising, Rises}
use Rattle.log_readers.specs.Numbering.{Rises as RisesIn, source_of}
use Rattle.log_readers.specs.Unread.{has_pair, is_kept, is_of_source, is_unread, without_unread as without_unread_in}
use Rattle.stream_registry.specs.declared.lingering.LogPlace.{LogPlace}
use Rattle.stream_registry.specs.declared.pairs.Pair.{Pair}
use Rattle.stream_registry.specs.declared.row.LogRow.{LogRow}
use Rattle.stream_registry.specs.Lingering.{place_of}
use Rattle.stream_registry.specs.Origins.{is_remote}
use Rattle.log_readers.proofs.UnreadLemmas.{unread_pairs}
use Rattle.driver_core.proofs.ListLemmas.{contains_none, only_one, passes_are_left}

-- ---- lists

pub all_weaker : {X : Type 0} (P Q : X → Type 0) → ((x : X) → P x → Q x) → (xs : List X) → AllByRecursion P xs →
    AllByRecursion Q xs
all_weaker P Q each [] all = tt
all_weaker P Q each (x ∷ xs) all = (each x all.0, all_weaker P Q each xs all.1)

pub first_there : {X : Type 0} (x : X) (xs : List X) → Contains (x ∷ xs) x
first_there x xs = Contains-append_left (x ∷ []) xs x (Contains-push [] x)

pub later_there : {X : Type 0} (x y : X) (xs : List X) → Contains xs y → Contains (x ∷ xs) y
later_there x y xs has = Contains-append_right (x ∷ []) xs y has

pub passes_test : {X : Type 0} (test : X → Bool) (xs : List X) (x : X) → Contains (filter test xs) x → test x ≡ true
passes_test test xs x has = All-contains (λ y. test y ≡ true) (filter test xs) x (filter_passes test xs) has

pub all_pass : {X : Type 0} (test : X → Bool) (xs : List X) → ((x : X) → Contains xs x → test x ≡ true) →
    filter test xs ≡ xs
all_pass test [] each = refl
all_pass test (x ∷ xs) each =
    rw (each x (first_there x xs)) (ap (◌∷◌ x) (all_pass test xs (λ y has. each y (later_there x y xs has))))

pub none_pass : {X : Type 0} (test : X → Bool) (xs : List X) → ((x : X) → Contains xs x → test x ≡ false) →
    filter test xs ≡ []
none_pass test [] each = refl
none_pass test (x ∷ xs) each =
    rw (each x (first_there x xs)) (none_pass test xs (λ y has. each y (later_there x y xs has)))

none_mapped : {X Y : Type 0} (f : X → Y) (xs : List X) → map f xs ≡ [] → xs ≡ []
none_mapped f [] none = refl
none_mapped f (x ∷ xs) none = absurd (cc none)

-- where none is left, none passes
pub none_told : {X Y : Type 0} (f : X → Y) (test : X → Bool) (xs : List X) → map f (filter test xs) ≡ [] → (x : X) →
    Contains xs x → test x ≡ false
none_told {X} {Y} f test xs none x has =
    ⊎_elim
    (λ passes.
    let left : Contains (filter test xs) x = passes_are_left test xs x passes has in
    let empty : filter test xs ≡ [] = none_mapped f (filter test xs) none in
    absurd (contains_none x (rw empty at left)))
    (λ fails. fails)
    (cases_Bool (test x))

pub is_any : {X : Type 0} (test : X → Bool) (xs : List X) (x : X) → Contains xs x → test x ≡ true → list_any test xs ≡ true
is_any test [] x has passes = absurd (contains_none x has)
is_any test (y ∷ ys) x has passes =
    ⊎_elim
    (λ first. or_left (test y) _ (ap test (only_one y x first) ∙ passes))
    (λ later. or_right (test y) _ (is_any test ys x later passes))
    (Contains-append_cases (y ∷ []) ys x has)

pub record Found {X : Type 0} (test : X → Bool) (xs : List X) : Type 0 where
  pub one : X
  pub there : Contains xs one
  pub passes : test one ≡ true

found_in : {X : Type 0} (test : X → Bool) (y : X) (ys : List X) (b : Bool) → test y ≡ b →
    (list_any test ys ≡ true → Found test ys) → (b || list_any test ys) ≡ true → Found test (y ∷ ys)
found_in test y ys true is rest any = record { one = y; there = first_there y ys; passes = is }
found_in test y ys false is rest any =
    let found = rest any in
    record { one = found.one; there = later_there y found.one ys found.there; passes = found.passes }

pub found_of : {X : Type 0} (test : X → Bool) (xs : List X) → list_any test xs ≡ true → Found test xs
found_of test [] any = absurd (cc any)
found_of test (y ∷ ys) any = found_in test y ys (test y) refl (found_of test ys) any

-- where none is found, none passes
none_here : {X : Type 0} (test : X → Bool) (b : Bool) (y x : X) (ys : List X) → test y ≡ b →
    is_some (cond b (Some y) (find test ys)) ≡ false → (is_some (find test ys) ≡ false → Contains ys x → test x ≡ false) →
    Contains (y ∷ ys) x → test x ≡ false
none_here test true y x ys is none later has = absurd (cc none)
none_here test false y x ys is none later has =
    ⊎_elim (λ first. sym (ap test (only_one y x first)) ∙ is) (λ rest. later none rest)
    (Contains-append_cases (y ∷ []) ys x has)

pub none_found : {X : Type 0} (test : X → Bool) (xs : List X) → is_some (find test xs) ≡ false → (x : X) → Contains xs x →
    test x ≡ false
none_found test [] none x has = absurd (contains_none x has)
none_found test (y ∷ ys) none x has =
    none_here test (test y) y x ys refl none (λ rest. none_found test ys rest x) has

-- ---- images that are read

-- each image is read by some subscription
abbrev pub AreKept : List Pair → List LogRow → Type 0
AreKept pairs logs = (log : LogRow) → Contains logs log → is_kept pairs log ≡ true

kept_by_pair : (remote paired : Bool) → paired ≡ true → not (remote && not paired) ≡ true
kept_by_pair true true is = refl
kept_by_pair true false is = absurd (cc is)
kept_by_pair false paired is = refl

kept_by_kind : (remote paired other : Bool) → paired ≡ false → not (remote && not paired) ≡ true →
    not (remote && not other) ≡ true
kept_by_kind true true other none kept = absurd (cc none)
kept_by_kind true false other none kept = absurd (cc kept)
kept_by_kind false paired other none kept = refl

-- a log of which a pair is stays
pub kept_of_pair : (pairs : List Pair) (log : LogRow) (pair : Pair) → Contains pairs pair →
    is_of_source log.number pair ≡ true → is_kept pairs log ≡ true
kept_of_pair pairs log pair has is =
    kept_by_pair (is_remote log) (has_pair pairs log) (is_any (is_of_source log.number) pairs pair has is)

-- and so it does where there are more pairs
pub still_kept : (pairs more : List Pair) → ((pair : Pair) → Contains pairs pair → Contains more pair) → (log : LogRow) →
    is_kept pairs log ≡ true → is_kept more log ≡ true
still_kept pairs more each log kept =
    ⊎_elim
    (λ some.
    let found : Found (is_of_source log.number) pairs = found_of (is_of_source log.number) pairs some in
    kept_of_pair more log found.one (each found.one found.there) found.passes)
    (λ none. kept_by_kind (is_remote log) (has_pair pairs log) (has_pair more log) none kept)
    (cases_Bool (has_pair pairs log))

-- ---- where no image goes

abbrev change_of : State → Outcome → Change
change_of after outcome = record { after = after; outcome = outcome }

pub all_stay : (s : State) → AreKept (pairs_of s) s.streams.sources → without_unread s ≡ s
unfolding without_unread without_unread_in pairs_of
all_stay s kept =
    ap (λ (logs : List LogRow). record s { streams = record s.streams { sources = logs } })
    (all_pass (is_kept (pairs_of s)) s.streams.sources kept)

closes_none : (change : Change) (log : LogRow) → change.outcome.closes ≡ [] → is_kept (pairs_of change.after) log ≡ true →
    is_closed change log ≡ false
closes_none change log closes kept =
    rw (closes, not-true (is_unread (pairs_of change.after) log) kept) refl

pub none_closes : (s : State) (change : Change) → change.outcome.closes ≡ [] →
    AreKept (pairs_of change.after) s.streams.sources → closed_from s change ≡ []
none_closes s change closes kept =
    ap (map place_of)
    (none_pass (is_closed change) s.streams.sources (λ log has. closes_none change log closes (kept log has)))

-- an event that closes no log, behind which each image is read, takes none away
pub drops_nothing : (s : State) (change : Change) → change.outcome.closes ≡ [] →
    AreKept (pairs_of change.after) s.streams.sources →
    AreKept (pairs_of change.after) change.after.streams.sources → dropping s change ≡ change
unfolding dropping
drops_nothing s change closes were kept =
    ap (λ (after : State). change_of after (record change.outcome { closes = closed_from s change })) (all_stay change.after kept)
    ∙ ap (λ (places : List LogPlace). change_of change.after (record change.outcome { closes = places }))
    (none_closes s change closes were ∙ sym closes)

-- ---- where images go that none reads, no pair goes

rises_there : (low last : ℕ) (logs : List LogRow) → Rises (λ (log : LogRow). log.number) low last logs →
    RisesIn source_of low last logs
rises_there low last [] up = up
rises_there low last (log ∷ logs) up = (up.0, rises_there log.number last logs up.1)

pub pairs_stay : (s : State) → AreRising s → pairs_of (without_unread s) ≡ pairs_of s
unfolding pairs_of without_unread
pairs_stay s rises =
    unread_pairs s.clients.rows s.policy s.epoch s.streams 0 s.last_number
    (rises_there 0 s.last_number s.streams.sources rises.sources)
