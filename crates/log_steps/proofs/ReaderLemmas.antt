-- No log is read by more than all subscriptions.
use Rattle.std.proofs.Common.{◌≡◌, ℕ, ◌+◌, ◌≤◌, ◌==◌, Bool, true, false, not, cond, List, [], ◌∷◌, ◌++◌, length, map, filter, refl, ap, ◌∙◌, arith}
use Rattle.std.specs.List.{flat_map}
use Rattle.std.proofs.lemmas.Bool.{eqb-true, ne_eqb}
use Rattle.std.proofs.lemmas.List.{length-append, length-map}
use Rattle.std.proofs.lemmas.List.Elements.{filter-append}
use Rattle.std.proofs.lemmas.List.Filters.{length-filter_both}
use Rattle.client_registry.specs.declared.client.Client.{Client}
use Rattle.driver_core.specs.Pairs.{pairs_of}
use Rattle.driver_core.specs.Soundness.{Ascend, IsSound}
use Rattle.driver_core.specs.State.{State}
use Rattle.driver_core.specs.Readers.{readers_of}
use Rattle.policy_core.specs.RuleList.{Rules}
use Rattle.stream_registry.specs.declared.pairs.Pair.{Pair}
use Rattle.stream_registry.specs.declared.row.LogRow.{LogRow}
use Rattle.stream_registry.specs.declared.row.Subscription.{Subscription}
use Rattle.stream_registry.specs.Pairs.{is_pair, pair_of, pairs_at, pairs_of as pairs_on}

abbrev is_of : ℕ → Pair → Bool
is_of source pair = pair.source == source

no_longer : {X : Type 0} (test : X → Bool) (xs : List X) → length (filter test xs) ≤ length xs
no_longer test xs =
    let both = length-filter_both test (λ x. not (test x)) (λ x. refl) xs in
    omega (arith, both)

-- ---- the pairs of one log

pairs_few : (clients : List Client) (policy : Rules) (epoch : ℕ) (subscriptions : List Subscription) (log : LogRow)
    → length (pairs_at clients policy epoch subscriptions log) ≤ length subscriptions
pairs_few clients policy epoch subscriptions log =
    let kept = filter (is_pair clients policy epoch log) subscriptions in
    let all = length-map kept (pair_of log) in
    let few = no_longer (is_pair clients policy epoch log) subscriptions in
    omega (arith, all, few)

none_of : (source : ℕ) (log : LogRow) (subscriptions : List Subscription) → (log.number == source) ≡ false
    → filter (is_of source) (map (pair_of log) subscriptions) ≡ []
none_of source log [] is = refl
none_of source log (subscription ∷ subscriptions) is =
    ap (λ b. cond b (pair_of log subscription ∷ filter (is_of source) (map (pair_of log) subscriptions)) (
    filter (is_of source) (map (pair_of log) subscriptions))) is
    ∙ none_of source log subscriptions is

-- ---- the pairs of all logs

both_parts : (source : ℕ) (xs ys : List Pair)
    → length (filter (is_of source) (xs ++ ys)) ≡ length (filter (is_of source) xs) + length (filter (is_of source) ys)
both_parts source xs ys =
    ap length (filter-append (is_of source) xs ys) ∙ length-append (filter (is_of source) xs) (filter (is_of source) ys)

-- a log that came later is another
none_later : (clients : List Client) (policy : Rules) (epoch : ℕ) (subscriptions : List Subscription) (source before last : ℕ)
    (logs : List LogRow) → source ≤ before → Ascend before last logs
    → length (filter (is_of source) (flat_map (pairs_at clients policy epoch subscriptions) logs)) ≡ 0
none_later clients policy epoch subscriptions source before last [] low ascend = refl
none_later clients policy epoch subscriptions source before last (log ∷ logs) low ascend =
    let above = ascend.0 in
    let another : (log.number == source) ≡ false = ne_eqb log.number source (λ same. omega (arith, same, above, low)) in
    let here = ap length (none_of source log (filter (is_pair clients policy epoch log) subscriptions) another) in
    let there = none_later clients policy epoch subscriptions source log.number last logs (omega (arith, above, low)) ascend.1 in
    let both = both_parts source (pairs_at clients policy epoch subscriptions log)
    (flat_map (pairs_at clients policy epoch subscriptions) logs) in
    omega (arith, here, there, both)

few_of : (clients : List Client) (policy : Rules) (epoch : ℕ) (subscriptions : List Subscription) (source before last : ℕ)
    (logs : List LogRow) → Ascend before last logs
    → length (filter (is_of source) (flat_map (pairs_at clients policy epoch subscriptions) logs)) ≤ length subscriptions
few_of clients policy epoch subscriptions source before last [] ascend = omega arith
few_of clients policy epoch subscriptions source before last (log ∷ logs) ascend =
    by (few_of clients policy epoch subscriptions source log.number last logs ascend.1) (log.number == source) refl
  where
    here : List Pair
    here = pairs_at clients policy epoch subscriptions log

    rest : List Pair
    rest = flat_map (pairs_at clients policy epoch subscriptions) logs

    by : length (filter (is_of source) rest) ≤ length subscriptions → (b : Bool) → (log.number == source) ≡ b
        → length (filter (is_of source) (here ++ rest)) ≤ length subscriptions
    by few true is =
        let same = eqb-true log.number source is in
        let own = pairs_few clients policy epoch subscriptions log in
        let fewer = no_longer (is_of source) here in
        let none = none_later clients policy epoch subscriptions source log.number last logs (omega (arith, same)) ascend.1 in
        let both = both_parts source here rest in
        omega (arith, own, fewer, none, both)
    by few false is =
        let none = ap length (none_of source log (filter (is_pair clients policy epoch log) subscriptions) is) in
        let both = both_parts source here rest in
        omega (arith, none, few, both)

pub readers_are_few : (s : State) → IsSound s → (source : ℕ) → length (readers_of (pairs_of s) source) ≤ 512
unfolding readers_of pairs_of pairs_on
readers_are_few s sound source =
    let all = length-map (filter (is_of source) (pairs_of s)) (λ (pair : Pair). pair.subscription) in
    let few = few_of s.clients.rows s.policy s.epoch s.streams.subscriptions source 0 s.last_number s.streams.sources sound.numbered in
    let subscriptions = sound.subscriptions in
    omega (arith, all, few, subscriptions)
