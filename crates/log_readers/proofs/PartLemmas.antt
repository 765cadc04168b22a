-- The pairs and the readers where a part of the subscriptions, or of the logs, stays.
use Rattle.std.proofs.Common.{◌≡◌, ℕ, Bool, true, false, cond, List, [], ◌∷◌, ◌++◌, map, filter, refl, sym, ap, ◌∙◌}
use Rattle.std.specs.List.{flat_map}
use Rattle.std.proofs.lemmas.List.Elements.{filter-append}
use Rattle.log_readers.specs.Numbering.{number_of}
use Rattle.log_readers.specs.Readers.{readers_at}
use Rattle.log_readers.specs.Turnover.{is_read_by, pair_with, pairs_with}
use Rattle.stream_registry.specs.declared.pairs.Pair.{Pair}
use Rattle.stream_registry.specs.declared.row.LogRow.{LogRow}
use Rattle.stream_registry.specs.declared.row.Subscription.{Subscription}
use Rattle.stream_registry.specs.Pairs.{is_pair, pair_of, pairs_at}
use Rattle.client_registry.specs.declared.client.Client.{Client}
use Rattle.policy_core.specs.RuleList.{Rules}
use Rattle.log_readers.proofs.ListLemmas.{filter_flat, filter_mapped, filter_swap, flat_alike}

-- the row's number passes
abbrev pub passes : (ℕ → Bool) → Subscription → Bool
passes test row = test row.number

abbrev pub log_passes : (ℕ → Bool) → LogRow → Bool
log_passes test log = test log.number

row_kept : (test : ℕ → Bool) (log : LogRow) (read : List Subscription) → test log.number ≡ true →
    filter (λ (pair : Pair). test pair.source) (map (pair_of log) read) ≡ map (pair_of log) read
row_kept test log [] h = refl
row_kept test log (one ∷ read) h = rw h (ap (λ (pairs : List Pair). pair_of log one ∷ pairs) (row_kept test log read h))

row_lost : (test : ℕ → Bool) (log : LogRow) (read : List Subscription) → test log.number ≡ false →
    filter (λ (pair : Pair). test pair.source) (map (pair_of log) read) ≡ []
row_lost test log [] h = refl
row_lost test log (one ∷ read) h = rw h (row_lost test log read h)

module _ (clients : List Client) (policy : Rules) (epoch : ℕ) where
  -- ---- subscriptions

  pub pairs_of_part : (test : ℕ → Bool) (subs : List Subscription) (logs : List LogRow) →
      flat_map (pairs_at clients policy epoch (filter (passes test) subs)) logs
      ≡ filter (λ (pair : Pair). test pair.subscription) (flat_map (pairs_at clients policy epoch subs) logs)
  pairs_of_part test subs logs =
      flat_alike (pairs_at clients policy epoch (filter (passes test) subs))
      (λ log. filter (λ (pair : Pair). test pair.subscription) (pairs_at clients policy epoch subs log)) logs
      (λ log. ap (map (pair_of log)) (filter_swap (is_pair clients policy epoch log) (passes test) subs)
      ∙ sym (filter_mapped (λ (pair : Pair). test pair.subscription) (pair_of log) (filter (is_pair clients policy epoch log) subs)))
      ∙ sym (filter_flat (λ (pair : Pair). test pair.subscription) (pairs_at clients policy epoch subs) logs)

  part_at : (test : ℕ → Bool) (subs : List Subscription) (log : LogRow) →
      readers_at clients policy epoch (filter (passes test) subs) log ≡ filter test (readers_at clients policy epoch subs log)
  part_at test subs log =
      ap (map number_of) (filter_swap (is_pair clients policy epoch log) (passes test) subs)
      ∙ sym (filter_mapped test number_of (filter (is_pair clients policy epoch log) subs))

  pub readers_of_part : (test : ℕ → Bool) (subs : List Subscription) (logs : List LogRow) →
      map (readers_at clients policy epoch (filter (passes test) subs)) logs
      ≡ map (filter test) (map (readers_at clients policy epoch subs) logs)
  readers_of_part test subs [] = refl
  readers_of_part test subs (log ∷ logs) =
      rw (part_at test subs log)
      (ap (λ (rest : List (List ℕ)). filter test (readers_at clients policy epoch subs log) ∷ rest) (readers_of_part test subs logs))

  -- ---- logs

  one_log : (kept : Bool) (test : ℕ → Bool) (subs : List Subscription) (log : LogRow) (rest : List LogRow) →
      test log.number ≡ kept →
      flat_map (pairs_at clients policy epoch subs) (cond kept (log ∷ rest) rest)
      ≡ filter (λ (pair : Pair). test pair.source) (pairs_at clients policy epoch subs log)
      ++ flat_map (pairs_at clients policy epoch subs) rest
  one_log true test subs log rest h =
      ap (λ (pairs : List Pair). pairs ++ flat_map (pairs_at clients policy epoch subs) rest)
      (sym (row_kept test log (filter (is_pair clients policy epoch log) subs) h))
  one_log false test subs log rest h =
      ap (λ (pairs : List Pair). pairs ++ flat_map (pairs_at clients policy epoch subs) rest)
      (sym (row_lost test log (filter (is_pair clients policy epoch log) subs) h))

  pub pairs_of_logs : (test : ℕ → Bool) (subs : List Subscription) (logs : List LogRow) →
      flat_map (pairs_at clients policy epoch subs) (filter (log_passes test) logs)
      ≡ filter (λ (pair : Pair). test pair.source) (flat_map (pairs_at clients policy epoch subs) logs)
  pairs_of_logs test subs [] = refl
  pairs_of_logs test subs (log ∷ logs) =
      one_log (test log.number) test subs log (filter (log_passes test) logs) refl
      ∙ ap (λ (pairs : List Pair). filter (λ (pair : Pair). test pair.source) (pairs_at clients policy epoch subs log) ++ pairs)
      (pairs_of_logs test subs logs)
      ∙ sym (filter-append (λ (pair : Pair). test pair.source) (pairs_at clients policy epoch subs log)
      (flat_map (pairs_at clients policy epoch subs) logs))

  -- ---- one subscription alone

  alone_at : (paired : Bool) (row : Subscription) (log : LogRow) (rest : List LogRow) →
      map (pair_of log) (cond paired (row ∷ []) []) ++ map (pair_with row) rest
      ≡ map (pair_with row) (cond paired (log ∷ rest) rest)
  alone_at true row log rest = refl
  alone_at false row log rest = refl

  pub pairs_alone : (row : Subscription) (logs : List LogRow) →
      flat_map (pairs_at clients policy epoch (row ∷ [])) logs ≡ pairs_with clients policy epoch logs row
  pairs_alone row [] = refl
  pairs_alone row (log ∷ logs) =
      ap (λ (pairs : List Pair). pairs_at clients policy epoch (row ∷ []) log ++ pairs) (pairs_alone row logs)
      ∙ alone_at (is_pair clients policy epoch log row) row log (filter (is_read_by clients policy epoch row) logs)
