-- A subscription reads the logs that it fits, or none.
use Rattle.std.proofs.Common.{◌≡◌, ℕ, Bool, true, false, List, [], map, refl, ap, ◌∙◌, sym}
use Rattle.std.specs.Prelude.{◌&&◌, filter}
use Rattle.std.proofs.lemmas.List.Elements.{filter_agree}
use Rattle.log_readers.specs.Turnover.{is_read_by, pair_with, pairs_with}
use Rattle.stream_registry.specs.declared.row.LogRow.{LogRow}
use Rattle.stream_registry.specs.declared.row.Subscription.{Subscription}
use Rattle.stream_registry.specs.Pairs.{fits, is_allowed}
use Rattle.client_registry.specs.declared.client.Client.{Client}
use Rattle.policy_core.specs.RuleList.{Rules}
use Rattle.log_readers.proofs.ListLemmas.{none_pass}

pub and_true : (b : Bool) → (b && true) ≡ b
and_true true = refl
and_true false = refl

pub and_false : (b : Bool) → (b && false) ≡ false
and_false true = refl
and_false false = refl

module _ (clients : List Client) (policy : Rules) (epoch : ℕ) (row : Subscription) (logs : List LogRow) where
  pub reads_fitting : is_allowed clients policy epoch row ≡ true →
      map (pair_with row) (filter (λ log. fits log row) logs) ≡ pairs_with clients policy epoch logs row
  reads_fitting allowed =
      ap (map (pair_with row)) (sym (filter_agree (is_read_by clients policy epoch row) (λ log. fits log row)
      (λ log. ap (λ (b : Bool). fits log row && b) allowed ∙ and_true (fits log row)) logs))

  pub reads_none : is_allowed clients policy epoch row ≡ false → pairs_with clients policy epoch logs row ≡ []
  reads_none denied =
      ap (map (pair_with row)) (filter_agree (is_read_by clients policy epoch row) (λ log. false)
      (λ log. ap (λ (b : Bool). fits log row && b) denied ∙ and_false (fits log row)) logs ∙ none_pass logs)
