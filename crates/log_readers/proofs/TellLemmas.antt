-- The pairs of the readers that are kept are those of the lists.
use Rattle.std.proofs.Common.{◌≡◌, ℕ, List, [], ◌∷◌, ◌++◌, map, refl, ap, ◌∙◌}
use Rattle.std.specs.Prelude.{filter}
use Rattle.std.specs.List.{flat_map}
use Rattle.log_readers.specs.Numbering.{number_of}
use Rattle.log_readers.specs.Readers.{all_readers, readers_at}
use Rattle.log_readers.specs.Turnover.{pair_at, told}
use Rattle.stream_registry.specs.declared.pairs.Pair.{Pair}
use Rattle.stream_registry.specs.declared.row.LogRow.{LogRow}
use Rattle.stream_registry.specs.declared.row.Subscription.{Subscription}
use Rattle.stream_registry.specs.Pairs.{is_pair, pair_of, pairs_at, pairs_of}
use Rattle.stream_registry.specs.Streams.{Streams}
use Rattle.client_registry.specs.declared.client.Client.{Client}
use Rattle.policy_core.specs.RuleList.{Rules}

pub row_told : (log : LogRow) (read : List Subscription) → map (pair_at log.number) (map number_of read) ≡ map (pair_of log) read
row_told log [] = refl
row_told log (one ∷ read) = ap (λ (pairs : List Pair). pair_of log one ∷ pairs) (row_told log read)

module _ (clients : List Client) (policy : Rules) (epoch : ℕ) where
  told_mapped : (subs : List Subscription) (logs : List LogRow) →
      told logs (map (readers_at clients policy epoch subs) logs) ≡ flat_map (pairs_at clients policy epoch subs) logs
  told_mapped subs [] = refl
  told_mapped subs (log ∷ logs) =
      ap (λ (pairs : List Pair). pairs ++ told logs (map (readers_at clients policy epoch subs) logs))
      (row_told log (filter (is_pair clients policy epoch log) subs))
      ∙ ap (λ (pairs : List Pair). pairs_at clients policy epoch subs log ++ pairs) (told_mapped subs logs)

  pub told_pairs : (s : Streams) → told s.sources (all_readers s clients policy epoch) ≡ pairs_of s clients policy epoch
  unfolding all_readers pairs_of
  told_pairs s = told_mapped s.subscriptions s.sources
