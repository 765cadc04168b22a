-- Each change of the lists keeps numbers rising and subscriptions owned.
use Rattle.std.proofs.Common.{◌≡◌, ℕ, ◌<◌, ◌≤◌, ℤ, ◌==◌, Bool, true, false, cond, List, filter, refl, arith}
use Rattle.std.proofs.lemmas.Bool.{not-true}
use Rattle.std.proofs.lemmas.List.Elements.{All-filter, All-nil, All-push, All-weaker, filter_passes}
use Rattle.log_readers.specs.Numbering.{AreInOrder, IsOwned, number_of, registered_as, source_of}
use Rattle.log_readers.specs.Unread.{is_kept, without_unread}
use Rattle.stream_registry.specs.declared.row.LogRow.{LogRow}
use Rattle.stream_registry.specs.declared.row.Subscription.{Subscription}
use Rattle.stream_registry.specs.declared.wanted.Adding.TheVariants.{Join, Make}
use Rattle.stream_registry.specs.declared.wanted.ImageWanted.{ImageWanted}
use Rattle.stream_registry.specs.declared.wanted.Wanted.{Wanted}
use Rattle.stream_registry.specs.Adding.{added, log_of, registration_of, subscribed}
use Rattle.stream_registry.specs.Leaving.{is_another_registration, is_another_subscription, is_registration_of_another, is_subscription_of_another, left, unregistered, unsubscribed}
use Rattle.stream_registry.specs.Images.{image_of, imaged, stays_beside, without_images}
use Rattle.stream_registry.specs.Lingering.{closed, is_used, left_alone, settled_one, settled, stays_live}
use Rattle.stream_registry.specs.Pairs.{pairs_of}
use Rattle.stream_registry.specs.Streams.{Streams, cleared}
use Rattle.channel_uri.specs.Channel.{Shape}
use Rattle.client_registry.specs.declared.client.Client.{Client}
use Rattle.client_registry.specs.Clients.{ClientList, admitted, is_other, touched, without}
use Rattle.policy_core.specs.RuleList.{Rules}
use Rattle.log_readers.proofs.FoundLemmas.{found_heard, found_left, found_with, owned_alike}
use Rattle.log_readers.proofs.RisingLemmas.{rises_kept, rises_mapped, rises_push, rises_up_to}

-- a later number was drawn
pub later_in_order : (s : Streams) (clients : List Client) (last next : ℕ) → AreInOrder s clients last → last ≤ next →
    AreInOrder s clients next
later_in_order s clients last next h more = record {
  sources = rises_up_to source_of 0 last next s.sources more h.sources;
  registered = rises_up_to registered_as 0 last next s.registrations more h.registered;
  numbers = rises_up_to number_of 0 last next s.subscriptions more h.numbers;
  owned = h.owned;
}

pub subscribed_in_order : (s : Streams) (clients : List Client) (last next number client : ℕ) (channel : Shape) (stream : ℤ) →
    AreInOrder s clients last → last < number → number ≤ next →
    IsOwned clients (record { number = number; client = client; channel = channel; stream = stream }) →
    AreInOrder (subscribed s number client channel stream) clients next
unfolding subscribed
subscribed_in_order s clients last next number client channel stream h above below owned =
    let row : Subscription = record { number = number; client = client; channel = channel; stream = stream } in
    record {
      sources = rises_up_to source_of 0 last next s.sources (omega (arith, above, below)) h.sources;
      registered = rises_up_to registered_as 0 last next s.registrations (omega (arith, above, below)) h.registered;
      numbers = rises_push number_of 0 last next s.subscriptions row h.numbers above below;
      owned = All-push (IsOwned clients) s.subscriptions row h.owned owned;
    }

pub made_in_order : (s : Streams) (clients : List Client) (last next number client : ℕ) (wanted : Wanted) (place : ℕ) (session : ℤ) →
    AreInOrder s clients last → last < number → number ≤ next →
    AreInOrder (added s number client wanted place (Make session)) clients next
made_in_order s clients last next number client wanted place session h above below = record {
  sources = rises_push source_of 0 last next s.sources (log_of s number wanted place session) h.sources above below;
  registered = rises_push registered_as 0 last next s.registrations (registration_of number client wanted number) h.registered above below;
  numbers = rises_up_to number_of 0 last next s.subscriptions (omega (arith, above, below)) h.numbers;
  owned = h.owned;
}

pub joined_in_order : (s : Streams) (clients : List Client) (last next number client : ℕ) (wanted : Wanted) (place source : ℕ) (session : ℤ) →
    AreInOrder s clients last → last < number → number ≤ next →
    AreInOrder (added s number client wanted place (Join source session)) clients next
joined_in_order s clients last next number client wanted place source session h above below = record {
  sources = rises_up_to source_of 0 last next s.sources (omega (arith, above, below)) h.sources;
  registered = rises_push registered_as 0 last next s.registrations (registration_of number client wanted source) h.registered above below;
  numbers = rises_up_to number_of 0 last next s.subscriptions (omega (arith, above, below)) h.numbers;
  owned = h.owned;
}

-- an image comes
pub imaged_in_order : (s : Streams) (clients : List Client) (last next number : ℕ) (wanted : ImageWanted) (place : ℕ) →
    AreInOrder s clients last → last < number → number ≤ next →
    AreInOrder (imaged s number wanted place) clients next
imaged_in_order s clients last next number wanted place h above below = record {
  sources = rises_push source_of 0 last next s.sources (image_of s number wanted place) h.sources above below;
  registered = rises_up_to registered_as 0 last next s.registrations (omega (arith, above, below)) h.registered;
  numbers = rises_up_to number_of 0 last next s.subscriptions (omega (arith, above, below)) h.numbers;
  owned = h.owned;
}

pub unsubscribed_in_order : (s : Streams) (clients : List Client) (last client number : ℕ) → AreInOrder s clients last →
    AreInOrder (unsubscribed s client number) clients last
unfolding unsubscribed
unsubscribed_in_order s clients last client number h = record {
  sources = h.sources;
  registered = h.registered;
  numbers = rises_kept number_of (is_another_subscription client number) 0 last s.subscriptions h.numbers;
  owned = All-filter (is_another_subscription client number) (IsOwned clients) s.subscriptions h.owned;
}

source_settled : (b : Bool) (now : ℕ) (log : LogRow) → source_of (cond b log (left_alone now log)) ≡ source_of log
source_settled true now log = refl
source_settled false now log = refl

pub settled_in_order : (s : Streams) (clients : List Client) (last now : ℕ) → AreInOrder s clients last →
    AreInOrder (settled s now) clients last
unfolding settled
settled_in_order s clients last now h = record {
  sources = rises_mapped source_of (settled_one s.registrations now) 0 last s.sources
      (λ log. source_settled (is_used s.registrations log.number) now log) h.sources;
  registered = h.registered;
  numbers = h.numbers;
  owned = h.owned;
}

pub unregistered_in_order : (s : Streams) (clients : List Client) (last client number now : ℕ) → AreInOrder s clients last →
    AreInOrder (unregistered s client number now) clients last
unfolding unregistered
unregistered_in_order s clients last client number now h =
    settled_in_order _ clients last now (record {
      sources = h.sources;
      registered = rises_kept registered_as (is_another_registration client number) 0 last s.registrations h.registered;
      numbers = h.numbers;
      owned = h.owned;
    })

-- a client leaves, and goes
pub left_in_order : (s : Streams) (clients : ClientList) (last client now : ℕ) → AreInOrder s clients.rows last →
    AreInOrder (left s client now) (without clients client).rows last
unfolding left without
left_in_order s clients last client now h =
    let subs : List Subscription = filter (is_subscription_of_another client) s.subscriptions in
    settled_in_order _ (filter (is_other client) clients.rows) last now (record {
      sources = h.sources;
      registered = rises_kept registered_as (is_registration_of_another client) 0 last s.registrations h.registered;
      numbers = rises_kept number_of (is_subscription_of_another client) 0 last s.subscriptions h.numbers;
      owned = owned_alike clients.rows (filter (is_other client) clients.rows) subs
          (found_left clients.rows client subs
          (All-weaker (λ row. is_subscription_of_another client row ≡ true) (λ row. (row.client == client) ≡ false)
          (λ row stays. not-true (row.client == client) stays) subs
          (filter_passes (is_subscription_of_another client) s.subscriptions)))
          (All-filter (is_subscription_of_another client) (IsOwned clients.rows) s.subscriptions h.owned);
    })

-- a part of the logs
kept_in_order : (s : Streams) (stays : LogRow → Bool) (clients : List Client) (last : ℕ) → AreInOrder s clients last →
    AreInOrder (record s { sources = filter stays s.sources }) clients last
kept_in_order s stays clients last h = record {
  sources = rises_kept source_of stays 0 last s.sources h.sources;
  registered = h.registered;
  numbers = h.numbers;
  owned = h.owned;
}

pub closed_in_order : (s : Streams) (clients : List Client) (last now : ℕ) (silent : List ℕ) → AreInOrder s clients last →
    AreInOrder (closed s now silent) clients last
unfolding closed
closed_in_order s clients last now silent h = kept_in_order s (stays_live now silent) clients last h

pub without_images_in_order : (s : Streams) (clients : List Client) (last : ℕ) (numbers : List ℕ) → AreInOrder s clients last →
    AreInOrder (without_images s numbers) clients last
unfolding without_images
without_images_in_order s clients last numbers h = kept_in_order s (stays_beside numbers) clients last h

pub unread_in_order : (s : Streams) (clients : List Client) (policy : Rules) (epoch last : ℕ) → AreInOrder s clients last →
    AreInOrder (without_unread s clients policy epoch) clients last
unfolding without_unread
unread_in_order s clients policy epoch last h = kept_in_order s (is_kept (pairs_of s clients policy epoch)) clients last h

-- all went, whoever is there
pub cleared_in_order : (s : Streams) (clients : List Client) (last : ℕ) → AreInOrder (cleared s) clients last
cleared_in_order s clients last =
    record { sources = omega arith; registered = omega arith; numbers = omega arith; owned = All-nil (IsOwned clients) }

pub admitted_in_order : (s : Streams) (clients : ClientList) (last principal now : ℕ) → AreInOrder s clients.rows last →
    AreInOrder s (admitted clients principal now).rows last
unfolding admitted
admitted_in_order s clients last principal now h = record {
  sources = h.sources;
  registered = h.registered;
  numbers = h.numbers;
  owned = owned_alike clients.rows (admitted clients principal now).rows s.subscriptions
      (found_with clients.rows _ s.subscriptions h.owned) h.owned;
}

pub touched_in_order : (s : Streams) (clients : ClientList) (last number now : ℕ) → AreInOrder s clients.rows last →
    AreInOrder s (touched clients number now).rows last
unfolding touched
touched_in_order s clients last number now h = record {
  sources = h.sources;
  registered = h.registered;
  numbers = h.numbers;
  owned = owned_alike clients.rows (touched clients number now).rows s.subscriptions
      (found_heard clients.rows number now s.subscriptions) h.owned;
}
