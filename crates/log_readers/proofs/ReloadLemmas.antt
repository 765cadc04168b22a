-- What another policy takes away and brings is known by the verdicts on each subscription.
use Rattle.std.proofs.Common.{◌≡◌, ℕ, ◌==◌, Bool, true, false, not, cond, List, [], ◌∷◌, ◌++◌, map, filter, refl, sym, ap, ◌∙◌}
use Rattle.std.specs.Prelude.{◌&&◌, ◌||◌, All}
use Rattle.std.specs.List.{flat_map, list_any}
use Rattle.std.proofs.lemmas.List.Elements.{All-filter, All-head, All-tail, filter_agree}
use Rattle.log_readers.specs.Finding.{is_among}
use Rattle.log_readers.specs.Numbering.{Rises, number_of}
use Rattle.log_readers.specs.Readers.{all_readers, readers_at}
use Rattle.log_readers.specs.Reloading.{alone_if, comes, goes, turned_at, turned_over}
use Rattle.log_readers.specs.Turnover.{lacking}
use Rattle.stream_registry.specs.declared.pairs.Pair.{Pair}
use Rattle.stream_registry.specs.declared.row.LogRow.{LogRow}
use Rattle.stream_registry.specs.declared.row.Subscription.{Subscription}
use Rattle.stream_registry.specs.Pairs.{fits, is_allowed, is_pair, pair_of, pairs_of}
use Rattle.stream_registry.specs.Streams.{Streams}
use Rattle.client_registry.specs.declared.client.Client.{Client}
use Rattle.policy_core.specs.RuleList.{Rules}
use Rattle.log_readers.proofs.LackingLemmas.{lacked_parts}
use Rattle.log_readers.proofs.ListLemmas.{any_filtered, filter_alike, filter_both, filter_flat, filter_mapped, flat_alike}
use Rattle.log_readers.proofs.PartLemmas.{passes}
use Rattle.log_readers.proofs.RisingLemmas.{finds, finds_itself}

-- ---- who reads a log is known by its numbers

among_mapped : (number : ℕ) (rows : List Subscription) →
    is_among (map number_of rows) number ≡ list_any (λ (row : Subscription). row.number == number) rows
among_mapped number [] = refl
among_mapped number (row ∷ rows) = ap (λ (rest : Bool). (row.number == number) || rest) (among_mapped number rows)

among_part : (reads : Subscription → Bool) (low last : ℕ) (rows : List Subscription) → Rises number_of low last rows →
    All (λ row. is_among (map number_of (filter reads rows)) row.number ≡ reads row) rows
among_part reads low last rows up k d within =
    among_mapped _ (filter reads rows)
    ∙ any_filtered (λ (row : Subscription). row.number == _) reads rows
    ∙ finds_itself number_of reads low last rows up k d within

-- ---- the pairs that turn, at one log

one_turned : (b : Bool) (log : LogRow) (row : Subscription) (rest : List Subscription) →
    alone_if b (pair_of log row) ++ map (pair_of log) rest ≡ map (pair_of log) (cond b (row ∷ rest) rest)
one_turned true log row rest = refl
one_turned false log row rest = refl

module _ (turns : Bool → Bool → Bool) (allows : Subscription → Bool) where
  turned_rows : (log : LogRow) (numbers : List ℕ) (reads : Subscription → Bool) (rows : List Subscription) →
      All (λ row. is_among numbers row.number ≡ reads row) rows →
      turned_at turns rows (map allows rows) log numbers
      ≡ map (pair_of log) (filter (λ row. turns (reads row) (allows row && fits log row)) rows)
  turned_rows log numbers reads [] each = refl
  turned_rows log numbers reads (row ∷ rows) each =
      let first : is_among numbers row.number ≡ reads row = All-head (λ one. is_among numbers one.number ≡ reads one) row rows each in
      rw first
      (ap (λ (rest : List Pair). alone_if (turns (reads row) (allows row && fits log row)) (pair_of log row) ++ rest)
      (turned_rows log numbers reads rows (All-tail (λ one. is_among numbers one.number ≡ reads one) row rows each))
      ∙ one_turned (turns (reads row) (allows row && fits log row)) log row
      (filter (λ one. turns (reads one) (allows one && fits log one)) rows))

  -- and at all
  turned_logs : (clients : List Client) (policy : Rules) (epoch low last : ℕ) (subs : List Subscription) (logs : List LogRow) →
      Rises number_of low last subs →
      turned_over turns subs (map allows subs) logs (map (readers_at clients policy epoch subs) logs)
      ≡ flat_map (λ log. map (pair_of log)
      (filter (λ row. turns (is_pair clients policy epoch log row) (allows row && fits log row)) subs)) logs
  turned_logs clients policy epoch low last subs [] up = refl
  turned_logs clients policy epoch low last subs (log ∷ logs) up =
      ap (λ (pairs : List Pair).
      pairs ++ turned_over turns subs (map allows subs) logs (map (readers_at clients policy epoch subs) logs))
      (turned_rows log (readers_at clients policy epoch subs log) (is_pair clients policy epoch log) subs
      (among_part (is_pair clients policy epoch log) low last subs up))
      ∙ ap (λ (pairs : List Pair).
      map (pair_of log) (filter (λ row. turns (is_pair clients policy epoch log row) (allows row && fits log row)) subs) ++ pairs)
      (turned_logs clients policy epoch low last subs logs up)

-- ---- the pairs of the rows that pass, among those of all that fit

abbrev fitting_at : List Subscription → LogRow → List Pair
fitting_at subs log = map (pair_of log) (filter (fits log) subs)

abbrev passing_at : (Subscription → Bool) → List Subscription → LogRow → List Pair
passing_at test subs log = map (pair_of log) (filter (λ row. fits log row && test row) subs)

passing_part : (test : Subscription → Bool) (by_number : ℕ → Bool) (subs : List Subscription) (logs : List LogRow) →
    All (λ row. by_number row.number ≡ test row) subs →
    flat_map (passing_at test subs) logs ≡ filter (λ (pair : Pair). by_number pair.subscription) (flat_map (fitting_at subs) logs)
passing_part test by_number subs logs same =
    flat_alike (passing_at test subs)
    (λ log. filter (λ (pair : Pair). by_number pair.subscription) (fitting_at subs log)) logs
    (λ log. ap (map (pair_of log)) (sym (filter_both test (fits log) subs)
    ∙ sym (filter_alike (passes by_number) test (filter (fits log) subs)
    (All-filter (fits log) (λ row. by_number row.number ≡ test row) subs same)))
    ∙ sym (filter_mapped (λ (pair : Pair). by_number pair.subscription) (pair_of log) (filter (fits log) subs)))
    ∙ sym (filter_flat (λ (pair : Pair). by_number pair.subscription) (fitting_at subs) logs)

-- the pairs of those that pass one test lack, of those that pass another, the ones that pass it alone
passing_lack : (test other : Subscription → Bool) (low last : ℕ) (subs : List Subscription) (logs : List LogRow) →
    Rises number_of low last subs →
    lacking (flat_map (passing_at test subs) logs) (flat_map (passing_at other subs) logs)
    ≡ flat_map (passing_at (λ row. test row && not (other row)) subs) logs
passing_lack test other low last subs logs up =
    let by_test : ℕ → Bool = finds number_of test subs in
    let by_other : ℕ → Bool = finds number_of other subs in
    let tested = finds_itself number_of test low last subs up in
    let others = finds_itself number_of other low last subs up in
    (λ i. lacking (passing_part test by_test subs logs tested i) (passing_part other by_other subs logs others i))
    ∙ lacked_parts by_test by_other (flat_map (fitting_at subs) logs)
    ∙ sym (passing_part (λ row. test row && not (other row)) (λ n. by_test n && not (by_other n)) subs logs
    (λ k d within. λ i. tested k d within i && not (others k d within i)))

-- ---- both policies

goes_alike : (fit was is : Bool) → goes (fit && was) (is && fit) ≡ (fit && (was && not is))
goes_alike true true true = refl
goes_alike true true false = refl
goes_alike true false true = refl
goes_alike true false false = refl
goes_alike false was is = refl

comes_alike : (fit was is : Bool) → comes (fit && was) (is && fit) ≡ (fit && (is && not was))
comes_alike true true true = refl
comes_alike true true false = refl
comes_alike true false true = refl
comes_alike true false false = refl
comes_alike false was true = refl
comes_alike false was false = refl

module _ (clients : List Client) (policy other : Rules) (epoch next low last : ℕ) where
  pub reload_goes : (s : Streams) → Rises number_of low last s.subscriptions →
      turned_over goes s.subscriptions (map (is_allowed clients other next) s.subscriptions) s.sources
      (all_readers s clients policy epoch)
      ≡ lacking (pairs_of s clients policy epoch) (pairs_of s clients other next)
  unfolding all_readers pairs_of
  reload_goes s up =
      turned_logs goes (is_allowed clients other next) clients policy epoch low last s.subscriptions s.sources up
      ∙ flat_alike (λ log. map (pair_of log) (filter
      (λ row. goes (is_pair clients policy epoch log row) (is_allowed clients other next row && fits log row)) s.subscriptions))
      (passing_at (λ row. is_allowed clients policy epoch row && not (is_allowed clients other next row)) s.subscriptions) s.sources
      (λ log. ap (map (pair_of log)) (filter_agree
      (λ row. goes (is_pair clients policy epoch log row) (is_allowed clients other next row && fits log row))
      (λ row. fits log row && (is_allowed clients policy epoch row && not (is_allowed clients other next row)))
      (λ row. goes_alike (fits log row) (is_allowed clients policy epoch row) (is_allowed clients other next row)) s.subscriptions))
      ∙ sym (passing_lack (is_allowed clients policy epoch) (is_allowed clients other next) low last s.subscriptions s.sources up)

  pub reload_comes : (s : Streams) → Rises number_of low last s.subscriptions →
      turned_over comes s.subscriptions (map (is_allowed clients other next) s.subscriptions) s.sources
      (all_readers s clients policy epoch)
      ≡ lacking (pairs_of s clients other next) (pairs_of s clients policy epoch)
  unfolding all_readers pairs_of
  reload_comes s up =
      turned_logs comes (is_allowed clients other next) clients policy epoch low last s.subscriptions s.sources up
      ∙ flat_alike (λ log. map (pair_of log) (filter
      (λ row. comes (is_pair clients policy epoch log row) (is_allowed clients other next row && fits log row)) s.subscriptions))
      (passing_at (λ row. is_allowed clients other next row && not (is_allowed clients policy epoch row)) s.subscriptions) s.sources
      (λ log. ap (map (pair_of log)) (filter_agree
      (λ row. comes (is_pair clients policy epoch log row) (is_allowed clients other next row && fits log row))
      (λ row. fits log row && (is_allowed clients other next row && not (is_allowed clients policy epoch row)))
      (λ row. comes_alike (fits log row) (is_allowed clients policy epoch row) (is_allowed clients other next row)) s.subscriptions))
      ∙ sym (passing_lack (is_allowed clients other next) (is_allowed clients policy epoch) low last s.subscriptions s.sources up)
