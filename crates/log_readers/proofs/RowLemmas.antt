-- The logs that a subscription does not fit have not its number, so that they are not looked into.
use Rattle.std.proofs.Common.{◌≡◌, ℕ, zero, suc, ◌<◌, ◌==◌, Bool, true, false, not, cond, List, [], ◌∷◌, ◌++◌, length, map, filter, take, get_or, set, refl, sym, ap, ◌∙◌, arith}
use Rattle.std.specs.Prelude.{◌&&◌, ◌||◌}
use Rattle.std.specs.List.{Contains, flat_map}
use Rattle.std.proofs.lemmas.List.Elements.{All-contains, filter-append}
use Rattle.log_readers.specs.Numbering.{Rises, number_of}
use Rattle.log_readers.specs.Readers.{all_readers, forgotten, forgotten_at, is_unlike, readers_at}
use Rattle.log_readers.specs.Turnover.{is_of_number, pair_at, told_at, told_to}
use Rattle.stream_registry.specs.declared.pairs.Pair.{Pair}
use Rattle.stream_registry.specs.declared.row.LogRow.{LogRow}
use Rattle.stream_registry.specs.declared.row.Subscription.{Subscription}
use Rattle.stream_registry.specs.Leaving.{has_subscription, unsubscribed}
use Rattle.stream_registry.specs.Pairs.{fits, is_allowed, is_pair, pair_of, pairs_at, pairs_of}
use Rattle.stream_registry.specs.Streams.{Streams}
use Rattle.client_registry.specs.declared.client.Client.{Client}
use Rattle.policy_core.specs.RuleList.{Rules}
use Rattle.log_readers.proofs.ListLemmas.{filter_both, filter_mapped}
use Rattle.log_readers.proofs.ReaderLemmas.{unsubscribed_readers}
use Rattle.log_readers.proofs.RisingLemmas.{finds, finds_itself}
use Rattle.log_readers.proofs.TellLemmas.{row_told}

-- ---- a loop that forgets at one log after another

pub forgotten_read : (row : Subscription) (logs : List LogRow) (readers : List (List ℕ)) (i : ℕ) (d : List ℕ) →
    length readers ≡ length logs → i < length logs → get_or (forgotten row (take i logs) readers) i d ≡ get_or readers i d
forgotten_read row [] readers i d same below = absurd (omega (arith, below))
forgotten_read row (log ∷ logs) [] i d same below = absurd (omega (arith, same))
forgotten_read row (log ∷ logs) (numbers ∷ readers) zero d same below = refl
forgotten_read row (log ∷ logs) (numbers ∷ readers) (suc i) d same below =
    forgotten_read row logs readers i d (omega (arith, same)) (omega (arith, below))

pub forgotten_written : (row : Subscription) (logs : List LogRow) (readers : List (List ℕ)) (i : ℕ) (log : LogRow)
    (d numbers : List ℕ) → length readers ≡ length logs → i < length logs →
    numbers ≡ forgotten_at row (get_or logs i log) (get_or readers i d) →
    set (forgotten row (take i logs) readers) i numbers ≡ forgotten row (take (suc i) logs) readers
forgotten_written row [] readers i other d numbers same below is = absurd (omega (arith, below))
forgotten_written row (log ∷ logs) [] i other d numbers same below is = absurd (omega (arith, same))
forgotten_written row (log ∷ logs) (first ∷ readers) zero other d numbers same below is =
    ap (λ (ns : List ℕ). ns ∷ readers) is
forgotten_written row (log ∷ logs) (first ∷ readers) (suc i) other d numbers same below is =
    ap (λ (rest : List (List ℕ)). forgotten_at row log first ∷ rest)
    (forgotten_written row logs readers i other d numbers (omega (arith, same)) (omega (arith, below)) is)

-- ---- a log that the subscription does not fit

-- no subscription of its number fits
unfit : (log : LogRow) (row : Subscription) (low last : ℕ) (subs : List Subscription) → Rises number_of low last subs →
    Contains subs row → fits log row ≡ false → finds number_of (fits log) subs row.number ≡ false
unfit log row low last subs up there misses =
    All-contains (λ (one : Subscription). finds number_of (fits log) subs (number_of one) ≡ fits log one) subs row
    (finds_itself number_of (fits log) low last subs up) there
    ∙ misses

-- one that fits and one that has the number are not the same
none_step : (fitting allowed own : Bool) (rest : Bool) → ((fitting && own) || rest) ≡ false → ((fitting && allowed) && own) ≡ false
none_step true true true rest none = absurd (cc)
none_step true true false rest none = refl
none_step true false own rest none = refl
none_step false allowed own rest none = refl

none_later : (first rest : Bool) → (first || rest) ≡ false → rest ≡ false
none_later true rest none = absurd (cc)
none_later false rest none = none

module _ (clients : List Client) (policy : Rules) (epoch : ℕ) where
  none_own : (log : LogRow) (number : ℕ) (subs : List Subscription) → finds number_of (fits log) subs number ≡ false →
      filter (λ row. is_pair clients policy epoch log row && (row.number == number)) subs ≡ []
  none_own log number [] none = refl
  none_own log number (one ∷ subs) none =
      let rest : Bool = finds number_of (fits log) subs number in
      let own : Bool = one.number == number in
      rw (none_step (fits log one) (is_allowed clients policy epoch one) own rest none)
      (none_own log number subs (none_later (fits log one && own) rest none))

  pub no_pairs : (log : LogRow) (row : Subscription) (low last : ℕ) (subs : List Subscription) → Rises number_of low last subs →
      Contains subs row → fits log row ≡ false → filter (is_of_number row.number) (pairs_at clients policy epoch subs log) ≡ []
  no_pairs log row low last subs up there misses =
      filter_mapped (is_of_number row.number) (pair_of log) (filter (is_pair clients policy epoch log) subs)
      ∙ ap (map (pair_of log))
      (filter_both (λ (one : Subscription). one.number == row.number) (is_pair clients policy epoch log) subs
      ∙ none_own log row.number subs (unfit log row low last subs up there misses))

  -- all others are there still
  others_step : (fitting allowed own : Bool) (rest : Bool) → ((fitting && own) || rest) ≡ false →
      ((fitting && allowed) && not own) ≡ (fitting && allowed)
  others_step true true true rest none = absurd (cc)
  others_step true true false rest none = refl
  others_step true false own rest none = refl
  others_step false allowed own rest none = refl

  all_others : (log : LogRow) (number : ℕ) (subs : List Subscription) → finds number_of (fits log) subs number ≡ false →
      filter (λ row. is_pair clients policy epoch log row && is_unlike number row.number) subs
      ≡ filter (is_pair clients policy epoch log) subs
  all_others log number [] none = refl
  all_others log number (one ∷ subs) none =
      let rest : Bool = finds number_of (fits log) subs number in
      let own : Bool = one.number == number in
      rw (others_step (fits log one) (is_allowed clients policy epoch one) own rest none)
      (ap (λ (rows : List Subscription). cond (is_pair clients policy epoch log one) (one ∷ rows) rows)
      (all_others log number subs (none_later (fits log one && own) rest none)))

  others_stay : (log : LogRow) (row : Subscription) (low last : ℕ) (subs : List Subscription) → Rises number_of low last subs →
      Contains subs row → fits log row ≡ false →
      filter (is_unlike row.number) (readers_at clients policy epoch subs log) ≡ readers_at clients policy epoch subs log
  others_stay log row low last subs up there misses =
      filter_mapped (is_unlike row.number) number_of (filter (is_pair clients policy epoch log) subs)
      ∙ ap (map number_of)
      (filter_both (λ (one : Subscription). is_unlike row.number one.number) (is_pair clients policy epoch log) subs
      ∙ all_others log row.number subs (unfit log row low last subs up there misses))

  -- ---- so all are as if each had been looked into

  forgotten_one : (fitting : Bool) (log : LogRow) (row : Subscription) (numbers : List ℕ) →
      (fitting ≡ false → filter (is_unlike row.number) numbers ≡ numbers) →
      cond fitting (filter (is_unlike row.number) numbers) numbers ≡ filter (is_unlike row.number) numbers
  forgotten_one true log row numbers same = refl
  forgotten_one false log row numbers same = sym (same refl)

  forgotten_mapped : (row : Subscription) (low last : ℕ) (subs : List Subscription) → Rises number_of low last subs →
      Contains subs row → (logs : List LogRow) →
      forgotten row logs (map (readers_at clients policy epoch subs) logs)
      ≡ map (filter (is_unlike row.number)) (map (readers_at clients policy epoch subs) logs)
  forgotten_mapped row low last subs up there [] = refl
  forgotten_mapped row low last subs up there (log ∷ logs) =
      rw (forgotten_one (fits log row) log row (readers_at clients policy epoch subs log) (others_stay log row low last subs up there))
      (ap (λ (rest : List (List ℕ)). filter (is_unlike row.number) (readers_at clients policy epoch subs log) ∷ rest)
      (forgotten_mapped row low last subs up there logs))

  pub forgotten_readers : (s : Streams) (client : ℕ) (row : Subscription) (low last : ℕ) → Rises number_of low last s.subscriptions →
      Contains s.subscriptions row → has_subscription s client row.number ≡ true →
      forgotten row s.sources (all_readers s clients policy epoch)
      ≡ all_readers (unsubscribed s client row.number) clients policy epoch
  unfolding all_readers
  forgotten_readers s client row low last up there known =
      forgotten_mapped row low last s.subscriptions up there s.sources
      ∙ sym (unsubscribed_readers clients policy epoch s client row.number low last up known)

  -- its pairs are those with the logs that it fits

  told_one : (fitting : Bool) (log : LogRow) (number : ℕ) (numbers : List ℕ) (pairs : List Pair) →
      map (pair_at log.number) numbers ≡ pairs → (fitting ≡ false → filter (is_of_number number) pairs ≡ []) →
      filter (is_of_number number) (cond fitting (map (pair_at log.number) numbers) []) ≡ filter (is_of_number number) pairs
  told_one true log number numbers pairs is none = ap (filter (is_of_number number)) is
  told_one false log number numbers pairs is none = sym (none refl)

  told_mapped : (row : Subscription) (low last : ℕ) (subs : List Subscription) → Rises number_of low last subs →
      Contains subs row → (logs : List LogRow) →
      filter (is_of_number row.number) (told_to row logs (map (readers_at clients policy epoch subs) logs))
      ≡ filter (is_of_number row.number) (flat_map (pairs_at clients policy epoch subs) logs)
  told_mapped row low last subs up there [] = refl
  told_mapped row low last subs up there (log ∷ logs) =
      let own : Pair → Bool = is_of_number row.number in
      let numbers : List ℕ = readers_at clients policy epoch subs log in
      let pairs : List Pair = pairs_at clients policy epoch subs log in
      filter-append own (told_at row log numbers) (told_to row logs (map (readers_at clients policy epoch subs) logs))
      ∙ ap (λ (first : List Pair). first ++ filter own (told_to row logs (map (readers_at clients policy epoch subs) logs)))
      (told_one (fits log row) log row.number numbers pairs (row_told log (filter (is_pair clients policy epoch log) subs))
      (no_pairs log row low last subs up there))
      ∙ ap (λ (rest : List Pair). filter own pairs ++ rest) (told_mapped row low last subs up there logs)
      ∙ sym (filter-append own pairs (flat_map (pairs_at clients policy epoch subs) logs))

  pub told_of_row : (s : Streams) (row : Subscription) (low last : ℕ) → Rises number_of low last s.subscriptions →
      Contains s.subscriptions row →
      filter (is_of_number row.number) (told_to row s.sources (all_readers s clients policy epoch))
      ≡ filter (is_of_number row.number) (pairs_of s clients policy epoch)
  unfolding all_readers pairs_of
  told_of_row s row low last up there = told_mapped row low last s.subscriptions up there s.sources
