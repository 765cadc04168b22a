-- Logs that close, by what is kept beside them.
use Rattle.std.proofs.Common.{◌≡◌, ℕ, ◌==◌, Bool, true, false, not, cond, List, [], ◌∷◌, get_or, map, filter, refl, sym, ap, ◌∙◌}
use Rattle.std.specs.Prelude.{◌&&◌, ◌||◌, All}
use Rattle.std.specs.List.{flat_map, list_any}
use Rattle.log_readers.specs.Numbering.{Rises, number_of, source_of}
use Rattle.log_readers.specs.Readers.{all_readers, readers_at}
use Rattle.log_readers.specs.Turnover.{is_lacked_by, lacking, pair_at}
use Rattle.log_readers.specs.Unread.{closed_beside, has_pair, is_closed, is_closed_beside, is_left, is_of_source}
use Rattle.stream_registry.specs.declared.lingering.LogPlace.{LogPlace}
use Rattle.stream_registry.specs.declared.pairs.Pair.{Pair}
use Rattle.stream_registry.specs.declared.row.LogRow.{LogRow}
use Rattle.stream_registry.specs.declared.row.Subscription.{Subscription}
use Rattle.stream_registry.specs.Lingering.{place_of}
use Rattle.stream_registry.specs.Origins.{is_remote}
use Rattle.stream_registry.specs.Pairs.{is_pair, pair_of, pairs_at, pairs_of}
use Rattle.stream_registry.specs.Streams.{Streams}
use Rattle.client_registry.specs.declared.client.Client.{Client}
use Rattle.policy_core.specs.RuleList.{Rules}
use Rattle.log_readers.proofs.ListLemmas.{any_filtered, filter_alike}
use Rattle.log_readers.proofs.RisingLemmas.{finds_itself}
use Rattle.log_readers.proofs.UnreadLemmas.{any_alike, any_flat}

-- ---- beside a row for each log

one_place : (b : Bool) (log : LogRow) (logs : List LogRow) (places : List LogPlace) → places ≡ map place_of logs →
    cond b (place_of log ∷ places) places ≡ map place_of (cond b (log ∷ logs) logs)
one_place true log logs places h = ap (λ (rest : List LogPlace). place_of log ∷ rest) h
one_place false log logs places h = h

closed_mapped : (closes : List LogPlace) (gone come : List Pair) (f : LogRow → List ℕ) (logs : List LogRow) →
    closed_beside closes gone come logs (map f logs)
    ≡ map place_of (filter (λ log. is_closed_beside closes gone come log (f log)) logs)
closed_mapped closes gone come f [] = refl
closed_mapped closes gone come f (log ∷ logs) =
    one_place (is_closed_beside closes gone come log (f log)) log
    (filter (λ one. is_closed_beside closes gone come one (f one)) logs) (closed_beside closes gone come logs (map f logs))
    (closed_mapped closes gone come f logs)

-- ---- by the pairs

shared : (a b rest own : Bool) → own ≡ (rest && b) → ((a && b) || own) ≡ ((a || rest) && b)
shared true true rest own is = refl
shared true false rest own is = is ∙ none rest
  where
    none : (c : Bool) → (c && false) ≡ false
    none true = refl
    none false = refl
shared false b rest own is = is

-- those of a log that pass are of its source
passing_at : (passes : Pair → Bool) (source : ℕ) (log : LogRow) (read : List Subscription) →
    list_any (λ pair. passes pair && is_of_source source pair) (map (pair_of log) read)
    ≡ (list_any (λ number. passes (pair_at log.number number)) (map number_of read) && (log.number == source))
passing_at passes source log [] = refl
passing_at passes source log (row ∷ read) =
    shared (passes (pair_of log row)) (log.number == source)
    (list_any (λ number. passes (pair_at log.number number)) (map number_of read))
    (list_any (λ pair. passes pair && is_of_source source pair) (map (pair_of log) read)) (passing_at passes source log read)

module _ (clients : List Client) (policy : Rules) (epoch : ℕ) where
  -- a pair of the log stays
  has_staying : (s : Streams) (gone : List Pair) (low last : ℕ) → Rises source_of low last s.sources →
      All (λ log.
      has_pair (lacking (pairs_of s clients policy epoch) gone) log
      ≡ list_any (λ number. is_lacked_by gone (pair_at log.number number)) (readers_at clients policy epoch s.subscriptions log))
      s.sources
  unfolding pairs_of
  has_staying s gone low last up =
      let stays : LogRow → Bool =
      λ one. list_any (λ number. is_lacked_by gone (pair_at one.number number)) (readers_at clients policy epoch s.subscriptions one) in
      let found = finds_itself source_of stays low last s.sources up in
      λ k d within.
      let log : LogRow = get_or s.sources k d in
      let at : LogRow → List Pair = pairs_at clients policy epoch s.subscriptions in
      any_filtered (is_of_source log.number) (is_lacked_by gone) (flat_map at s.sources)
      ∙ any_flat (λ pair. is_lacked_by gone pair && is_of_source log.number pair) at s.sources
      ∙ any_alike (λ one. list_any (λ pair. is_lacked_by gone pair && is_of_source log.number pair) (at one))
      (λ one. stays one && (source_of one == log.number)) s.sources
      (λ one. passing_at (is_lacked_by gone) log.number one (filter (is_pair clients policy epoch one) s.subscriptions))
      ∙ found k d within

  -- the places told are those of the logs that close
  pub closed_places : (s : Streams) (closes : List LogPlace) (gone come : List Pair) (low last : ℕ) →
      Rises source_of low last s.sources →
      closed_beside closes gone come s.sources (all_readers s clients policy epoch)
      ≡ map place_of (filter (is_closed (pairs_of s clients policy epoch) closes gone come) s.sources)
  unfolding all_readers
  closed_places s closes gone come low last up =
      let row : LogRow → List ℕ = readers_at clients policy epoch s.subscriptions in
      let own = has_staying s gone low last up in
      closed_mapped closes gone come row s.sources
      ∙ ap (map place_of)
      (sym (filter_alike (is_closed (pairs_of s clients policy epoch) closes gone come)
      (λ log. is_closed_beside closes gone come log (row log)) s.sources
      (λ k d within.
      let log : LogRow = get_or s.sources k d in
      ap (λ (b : Bool). not (is_left closes log) || (is_remote log && not (b || has_pair come log))) (own k d within))))
