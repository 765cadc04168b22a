-- The readers of all logs, as the lists change.
use Rattle.std.proofs.Common.{◌≡◌, ℕ, ◌<◌, ℤ, true, cond, List, [], ◌∷◌, ◌++◌, map, filter, length, ap, ◌∙◌}
use Rattle.std.specs.Prelude.{All}
use Rattle.std.proofs.lemmas.Bool.{ltb-true}
use Rattle.std.proofs.lemmas.List.{length-map, map-append}
use Rattle.log_readers.specs.Numbering.{Rises, number_of}
use Rattle.log_readers.specs.Readers.{all_readers, beside, is_of_others, is_unlike, noted, readers_at}
use Rattle.stream_registry.specs.declared.row.Subscription.{Subscription}
use Rattle.stream_registry.specs.declared.wanted.Adding.TheVariants.{Make}
use Rattle.stream_registry.specs.declared.wanted.ImageWanted.{ImageWanted}
use Rattle.stream_registry.specs.declared.wanted.Wanted.{Wanted}
use Rattle.stream_registry.specs.Adding.{added, has_room_for_subscription, log_of, subscribed}
use Rattle.stream_registry.specs.Leaving.{has_subscription, left, unsubscribed}
use Rattle.stream_registry.specs.Images.{image_of, imaged, stays_beside, without_images}
use Rattle.stream_registry.specs.Lingering.{closed, stays_live}
use Rattle.stream_registry.specs.Pairs.{is_allowed}
use Rattle.stream_registry.specs.Streams.{Streams}
use Rattle.channel_uri.specs.Channel.{Shape}
use Rattle.client_registry.specs.declared.client.Client.{Client}
use Rattle.client_registry.specs.Clients.{ClientList, without}
use Rattle.policy_core.specs.RuleList.{Rules}
use Rattle.log_readers.proofs.BesideLemmas.{beside_mapped}
use Rattle.log_readers.proofs.NoteLemmas.{all_few, noted_more}
use Rattle.log_readers.proofs.PartLemmas.{readers_of_part}
use Rattle.log_readers.proofs.SameLemmas.{left_alike, left_alike_there, rest_of}
use Rattle.log_readers.proofs.TurnoverLemmas.{others_by_number, own_alone}

module _ (clients : List Client) (policy : Rules) (epoch : ℕ) where
  -- ---- how many

  pub as_many_as_logs : (s : Streams) → length (all_readers s clients policy epoch) ≡ length s.sources
  unfolding all_readers
  as_many_as_logs s = length-map s.sources (readers_at clients policy epoch s.subscriptions)

  pub has_room_for_number : (s : Streams) → has_room_for_subscription s ≡ true →
      All (λ (numbers : List ℕ). length numbers < 512) (all_readers s clients policy epoch)
  unfolding all_readers
  has_room_for_number s room =
      all_few clients policy epoch s.subscriptions s.sources 512 (ltb-true (length s.subscriptions) 512 room)

  -- ---- which

  -- the new subscription's number stands behind those of the logs that it reads
  pub subscribed_readers : (s : Streams) (number client : ℕ) (channel : Shape) (stream : ℤ) →
      all_readers (subscribed s number client channel stream) clients policy epoch
      ≡ cond (is_allowed clients policy epoch (record { number = number; client = client; channel = channel; stream = stream }))
      (noted (record { number = number; client = client; channel = channel; stream = stream }) s.sources
      (all_readers s clients policy epoch))
      (all_readers s clients policy epoch)
  unfolding all_readers subscribed
  subscribed_readers s number client channel stream =
      noted_more clients policy epoch s.subscriptions
      (record { number = number; client = client; channel = channel; stream = stream }) s.sources

  -- the number is gone from all logs
  pub unsubscribed_readers : (s : Streams) (client number low last : ℕ) → Rises number_of low last s.subscriptions →
      has_subscription s client number ≡ true →
      all_readers (unsubscribed s client number) clients policy epoch
      ≡ map (filter (is_unlike number)) (all_readers s clients policy epoch)
  unfolding all_readers unsubscribed
  unsubscribed_readers s client number low last up there =
      ap (λ (rest : List Subscription). map (readers_at clients policy epoch rest) s.sources)
      (own_alone client number low last s.subscriptions up there)
      ∙ readers_of_part clients policy epoch (is_unlike number) s.subscriptions s.sources

  -- the readers of a new log stand behind the others
  pub made_readers : (s : Streams) (number client : ℕ) (wanted : Wanted) (place : ℕ) (session : ℤ) →
      all_readers (added s number client wanted place (Make session)) clients policy epoch
      ≡ all_readers s clients policy epoch
      ++ readers_at clients policy epoch s.subscriptions (log_of s number wanted place session) ∷ []
  unfolding all_readers
  made_readers s number client wanted place session =
      map-append (readers_at clients policy epoch s.subscriptions) s.sources (log_of s number wanted place session ∷ [])

  -- so do those of a new image
  pub imaged_readers : (s : Streams) (number : ℕ) (wanted : ImageWanted) (place : ℕ) →
      all_readers (imaged s number wanted place) clients policy epoch
      ≡ all_readers s clients policy epoch
      ++ readers_at clients policy epoch s.subscriptions (image_of s number wanted place) ∷ []
  unfolding all_readers
  imaged_readers s number wanted place =
      map-append (readers_at clients policy epoch s.subscriptions) s.sources (image_of s number wanted place ∷ [])

  -- the readers of a log that closes go with it
  pub closed_readers : (s : Streams) (now : ℕ) (silent : List ℕ) →
      beside (stays_live now silent) s.sources (all_readers s clients policy epoch)
      ≡ all_readers (closed s now silent) clients policy epoch
  unfolding all_readers closed
  closed_readers s now silent =
      beside_mapped (stays_live now silent) (readers_at clients policy epoch s.subscriptions) s.sources

  -- and those of an image that goes
  pub without_images_readers : (s : Streams) (numbers : List ℕ) →
      beside (stays_beside numbers) s.sources (all_readers s clients policy epoch)
      ≡ all_readers (without_images s numbers) clients policy epoch
  unfolding all_readers without_images
  without_images_readers s numbers =
      beside_mapped (stays_beside numbers) (readers_at clients policy epoch s.subscriptions) s.sources

  rest_readers : (s : Streams) (client low last : ℕ) → Rises number_of low last s.subscriptions →
      all_readers (rest_of s client) clients policy epoch
      ≡ map (filter (is_of_others s client)) (all_readers s clients policy epoch)
  unfolding all_readers
  rest_readers s client low last up =
      ap (λ (rest : List Subscription). map (readers_at clients policy epoch rest) s.sources)
      (others_by_number s client low last up)
      ∙ readers_of_part clients policy epoch (is_of_others s client) s.subscriptions s.sources

  -- the numbers of a client that leaves are gone from all logs, where it is still there
  pub left_readers_there : (s : Streams) (client now low last : ℕ) → Rises number_of low last s.subscriptions →
      all_readers (left s client now) clients policy epoch
      ≡ map (filter (is_of_others s client)) (all_readers s clients policy epoch)
  left_readers_there s client now low last up =
      (left_alike_there policy epoch s clients client now).readers ∙ rest_readers s client low last up

-- and where it went
pub left_readers : (policy : Rules) (epoch : ℕ) (s : Streams) (clients : ClientList) (client now low last : ℕ) →
    Rises number_of low last s.subscriptions →
    all_readers (left s client now) (without clients client).rows policy epoch
    ≡ map (filter (is_of_others s client)) (all_readers s clients.rows policy epoch)
left_readers policy epoch s clients client now low last up =
    (left_alike policy epoch s clients client now).readers ∙ rest_readers clients.rows policy epoch s client low last up
