-- A subscription ever reads the logs that it fits, or none.
use Rattle.std.proofs.Common.{◌≡◌, ℕ, Bool, true, false, List, [], map, ap, ◌∙◌, sym}
use Rattle.std.specs.Prelude.{◌&&◌, filter}
use Rattle.std.proofs.lemmas.List.Elements.{filter_agree}
use Rattle.log_readers.specs.Prospects.{is_prospect_of, prospects_with}
use Rattle.log_readers.specs.Turnover.{pair_with}
use Rattle.log_readers.proofs.FittingLemmas.{and_false, and_true}
use Rattle.stream_registry.specs.declared.row.LogRow.{LogRow}
use Rattle.stream_registry.specs.declared.row.Subscription.{Subscription}
use Rattle.stream_registry.specs.Pairs.{fits, is_ever_allowed}
use Rattle.client_registry.specs.declared.client.Client.{Client}
use Rattle.policy_core.specs.RuleList.{Rules}
use Rattle.log_readers.proofs.ListLemmas.{none_pass}

module _ (clients : List Client) (policy : Rules) (coming : List Rules) (epoch : ℕ) (row : Subscription) (logs : List LogRow) where
  pub ever_reads_fitting : is_ever_allowed clients policy coming epoch row ≡ true →
      map (pair_with row) (filter (λ log. fits log row) logs) ≡ prospects_with clients policy coming epoch logs row
  ever_reads_fitting allowed =
      ap (map (pair_with row)) (sym (filter_agree (is_prospect_of clients policy coming epoch row) (λ log. fits log row)
      (λ log. ap (λ (b : Bool). fits log row && b) allowed ∙ and_true (fits log row)) logs))

  pub ever_reads_none : is_ever_allowed clients policy coming epoch row ≡ false → prospects_with clients policy coming epoch logs row ≡ []
  ever_reads_none denied =
      ap (map (pair_with row)) (filter_agree (is_prospect_of clients policy coming epoch row) (λ log. false)
      (λ log. ap (λ (b : Bool). fits log row && b) denied ∙ and_false (fits log row)) logs ∙ none_pass logs)
