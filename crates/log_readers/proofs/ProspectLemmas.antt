-- How many pairs there are and may yet be, and once a subscription or a log is there too.
use Rattle.std.proofs.Common.{◌≡◌, ℕ, ◌+◌, ℤ, Bool, true, false, cond, List, [], ◌∷◌, ◌++◌, map, length, refl, sym, ap, ◌∙◌, arith}
use Rattle.std.specs.Prelude.{filter}
use Rattle.std.specs.List.{flat_map, sum_by}
use Rattle.std.proofs.lemmas.Grind.{flat_map-append}
use Rattle.std.proofs.lemmas.List.{length-append, length-map}
use Rattle.std.proofs.lemmas.List.Elements.{filter-append}
use Rattle.std.proofs.lemmas.List.Sums.{sum_by-cons}
use Rattle.log_readers.specs.Prospects.{is_prospect_of, prospects_with}
use Rattle.log_readers.specs.Turnover.{pair_with}
use Rattle.log_readers.proofs.CountLemmas.{log_more, one_more}
use Rattle.stream_registry.specs.declared.row.LogRow.{LogRow}
use Rattle.stream_registry.specs.declared.row.Subscription.{Subscription}
use Rattle.stream_registry.specs.declared.wanted.Adding.TheVariants.{Join, Make}
use Rattle.stream_registry.specs.declared.wanted.ImageWanted.{ImageWanted}
use Rattle.stream_registry.specs.declared.wanted.Wanted.{Wanted}
use Rattle.stream_registry.specs.Adding.{added, log_of, subscribed}
use Rattle.stream_registry.specs.Images.{image_of, imaged}
use Rattle.stream_registry.specs.Pairs.{is_prospect, pair_of, prospects_at, prospects_of}
use Rattle.stream_registry.specs.Streams.{Streams}
use Rattle.channel_uri.specs.Channel.{Shape}
use Rattle.client_registry.specs.declared.client.Client.{Client}
use Rattle.policy_core.specs.RuleList.{Rules}

module _ (clients : List Client) (policy : Rules) (coming : List Rules) (epoch : ℕ) where
  -- nobody reads
  pub no_prospects : (logs : List LogRow) → length (flat_map (prospects_at clients policy coming epoch []) logs) ≡ 0
  no_prospects [] = refl
  no_prospects (log ∷ logs) = no_prospects logs

  -- a subscription brings its own
  pub prospects_with_row : (row : Subscription) (subs : List Subscription) (logs : List LogRow) →
      length (flat_map (prospects_at clients policy coming epoch (subs ++ row ∷ [])) logs)
      ≡ length (flat_map (prospects_at clients policy coming epoch subs) logs) + length (prospects_with clients policy coming epoch logs row)
  prospects_with_row row subs logs =
      one_more (is_prospect clients policy coming epoch) pair_of row subs logs
      ∙ ap (λ (n : ℕ). length (flat_map (prospects_at clients policy coming epoch subs) logs) + n)
      (sym (length-map (filter (is_prospect_of clients policy coming epoch row) logs) (pair_with row)))

  pub prospects_with_subscription : (s : Streams) (number client : ℕ) (channel : Shape) (stream : ℤ) →
      length (prospects_of (subscribed s number client channel stream) clients policy coming epoch)
      ≡ length (prospects_of s clients policy coming epoch)
      + length (prospects_with clients policy coming epoch s.sources
      (record { number = number; client = client; channel = channel; stream = stream }))
  unfolding subscribed prospects_of
  prospects_with_subscription s number client channel stream =
      prospects_with_row (record { number = number; client = client; channel = channel; stream = stream }) s.subscriptions s.sources

  -- and so does a log
  pub prospects_with_log : (s : Streams) (number client : ℕ) (wanted : Wanted) (place : ℕ) (session : ℤ) →
      length (prospects_of (added s number client wanted place (Make session)) clients policy coming epoch)
      ≡ length (prospects_of s clients policy coming epoch)
      + length (prospects_at clients policy coming epoch s.subscriptions (log_of s number wanted place session))
  unfolding prospects_of
  prospects_with_log s number client wanted place session =
      log_more (prospects_at clients policy coming epoch s.subscriptions) (log_of s number wanted place session) s.sources

  pub prospects_with_image : (s : Streams) (number : ℕ) (wanted : ImageWanted) (place : ℕ) →
      length (prospects_of (imaged s number wanted place) clients policy coming epoch)
      ≡ length (prospects_of s clients policy coming epoch)
      + length (prospects_at clients policy coming epoch s.subscriptions (image_of s number wanted place))
  unfolding prospects_of
  prospects_with_image s number wanted place =
      log_more (prospects_at clients policy coming epoch s.subscriptions) (image_of s number wanted place) s.sources

  -- a log that is joined has its own already
  pub prospects_joined : (s : Streams) (number client : ℕ) (wanted : Wanted) (place source : ℕ) (session : ℤ) →
      prospects_of (added s number client wanted place (Join source session)) clients policy coming epoch ≡ prospects_of s clients policy coming epoch
  unfolding prospects_of
  prospects_joined s number client wanted place source session = refl
