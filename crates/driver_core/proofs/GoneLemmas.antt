-- Pairs go and none come: what is told and decided of those that go.
use Rattle.std.proofs.Common.{◌≡◌, ℕ, ◌==◌, Bool, true, false, cond, All, List, [], ◌∷◌, ◌++◌, filter, find, Option, Some, None, append-nil, refl, sym, ap, ◌∙◌}
use Rattle.std.specs.List.{flat_map}
use Rattle.std.proofs.lemmas.Bool.{eqb-true}
use Rattle.std.proofs.lemmas.List.{append_assoc}
use Rattle.std.proofs.lemmas.List.Elements.{All-head, All-tail, All-weaker, filter_passes}
use Rattle.driver_core.specs.declared.state.event.Inputs.{Inputs}
use Rattle.driver_core.specs.declared.state.replies.Message.{Message}
use Rattle.driver_core.specs.Draft.{Draft}
use Rattle.driver_core.specs.Pairs.{lacking, pairs_of}
use Rattle.driver_core.specs.Renewal.{decided_on, decided_to, images_decided, images_told, outcome_by, outcome_gone, source_at, renewed, subscription_at, unavailable_for, unavailable_to}
use Rattle.driver_core.specs.State.{State}
use Rattle.driver_core.specs.Report.{report_of}
use Rattle.log_readers.specs.Turnover.{IsTurnover}
use Rattle.stream_registry.specs.declared.pairs.Pair.{Pair}
use Rattle.stream_registry.specs.declared.row.LogRow.{LogRow}

-- ---- what it tells

-- where these messages tell of those that go, and nothing is decided of them
pub gone_outcome : (s : State) (inputs : Inputs) (draft : Draft) (gone : List Pair) (messages : List Message) →
    IsTurnover (pairs_of s) (pairs_of draft.after) gone [] →
    flat_map (unavailable_for draft.after) gone ≡ messages → flat_map (decided_on draft.after) gone ≡ [] →
    outcome_by s inputs draft ≡ outcome_gone (record (report_of draft) { replies = draft.replies ++ messages }) gone
unfolding renewed images_told images_decided
gone_outcome s inputs draft gone messages turnover told decided =
    let went : lacking (pairs_of s) (pairs_of draft.after) ≡ gone = turnover.gone in
    let came : lacking (pairs_of draft.after) (pairs_of s) ≡ [] = turnover.come in
    rw (went, came, told, decided, append-nil messages, append-nil draft.decisions, append_assoc draft.replies messages draft.later)
    refl

-- where nobody is told
pub silent_outcome : (s : State) (inputs : Inputs) (draft : Draft) (gone : List Pair) →
    IsTurnover (pairs_of s) (pairs_of draft.after) gone [] →
    flat_map (unavailable_for draft.after) gone ≡ [] → flat_map (decided_on draft.after) gone ≡ [] →
    outcome_by s inputs draft ≡ outcome_gone (report_of draft) gone
silent_outcome s inputs draft gone turnover told decided =
    gone_outcome s inputs draft gone [] turnover told decided
    ∙ ap (λ (replies : List Message). outcome_gone (record (report_of draft) { replies = replies }) gone) (append-nil draft.replies)

-- ---- lists

pub flat_none : {A B : Type 0} (f : A → List B) (xs : List A) → All (λ x. f x ≡ []) xs → flat_map f xs ≡ []
flat_none f [] none = refl
flat_none f (x ∷ xs) none =
    let first : f x ≡ [] = All-head (λ y. f y ≡ []) x xs none in
    rw first (flat_none f xs (All-tail (λ y. f y ≡ []) x xs none))

-- of those that pass a test
pub none_of_part : {A B : Type 0} (test : A → Bool) (f : A → List B) (xs : List A) →
    ((x : A) → test x ≡ true → f x ≡ []) → flat_map f (filter test xs) ≡ []
none_of_part test f xs none =
    flat_none f (filter test xs)
    (All-weaker (λ x. test x ≡ true) (λ x. f x ≡ []) none (filter test xs) (filter_passes test xs))

-- ---- where a part of the rows stays, by their numbers

pub either_way : {A : Type 0} (x : A) (b : Bool) → cond b x x ≡ x
either_way x true = refl
either_way x false = refl

one_found : {A : Type 0} (same kept : Bool) (number_of : A → ℕ) (test : ℕ → Bool) (number : ℕ) (row : A) (rows : List A) →
    (number_of row == number) ≡ same → test (number_of row) ≡ kept →
    find (λ one. number_of one == number) (filter (λ one. test (number_of one)) rows)
    ≡ cond (test number) (find (λ one. number_of one == number) rows) None →
    find (λ one. number_of one == number)
    (cond kept (row ∷ filter (λ one. test (number_of one)) rows) (filter (λ one. test (number_of one)) rows))
    ≡ cond (test number) (cond same (Some row) (find (λ one. number_of one == number) rows)) None
one_found true true number_of test number row rows same kept rest =
    let passes : test number ≡ true = ap test (sym (eqb-true (number_of row) number same)) ∙ kept in
    rw (same, passes) refl
one_found true false number_of test number row rows same kept rest =
    let fails : test number ≡ false = ap test (sym (eqb-true (number_of row) number same)) ∙ kept in
    rest ∙ (rw fails refl)
one_found false true number_of test number row rows same kept rest = rw same rest
one_found false false number_of test number row rows same kept rest = rest

pub found_in_part : {A : Type 0} (number_of : A → ℕ) (test : ℕ → Bool) (number : ℕ) (rows : List A) →
    find (λ one. number_of one == number) (filter (λ one. test (number_of one)) rows)
    ≡ cond (test number) (find (λ one. number_of one == number) rows) None
found_in_part number_of test number [] = sym (either_way None (test number))
found_in_part number_of test number (row ∷ rows) =
    one_found (number_of row == number) (test (number_of row)) number_of test number row rows refl refl
    (found_in_part number_of test number rows)

-- ---- of what is gone

pub not_told : (s : State) (pair : Pair) → subscription_at s.streams.subscriptions pair.subscription ≡ None →
    unavailable_for s pair ≡ []
unfolding unavailable_for
not_told s pair none = ap (unavailable_to pair) none

none_decided : (s : State) (log : Option LogRow) → decided_to s log None ≡ []
none_decided s None = refl
none_decided s (Some log) = refl

pub not_decided : (s : State) (pair : Pair) → subscription_at s.streams.subscriptions pair.subscription ≡ None →
    decided_on s pair ≡ []
unfolding decided_on
not_decided s pair none =
    ap (decided_to s (source_at s.streams.sources pair.source)) none
    ∙ none_decided s (source_at s.streams.sources pair.source)

pub log_not_decided : (s : State) (pair : Pair) → source_at s.streams.sources pair.source ≡ None →
    decided_on s pair ≡ []
unfolding decided_on
log_not_decided s pair none =
    ap (λ (found : Option LogRow). decided_to s found (subscription_at s.streams.subscriptions pair.subscription)) none
