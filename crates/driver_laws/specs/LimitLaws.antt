-- Over every list of events: no list grows past its limit.
use Rattle.std.specs.Prelude.{◌≡◌, ℕ, ◌<◌, ◌≤◌, ℤ, true, length, filter, Ok, Err, ◌⊎◌}
use Rattle.driver_core.specs.Counting.{has_room_for_counter}
use Rattle.driver_core.specs.Pairs.{pairs_of, prospects_of}
use Rattle.driver_core.specs.Publishing.{has_room_for_publication, with_publication}
use Rattle.driver_core.specs.Reloading.{has_room_for_policy, in_force}
use Rattle.driver_core.specs.SettingUp.{has_room_for_setup, is_from, with_image}
use Rattle.driver_core.specs.State.{State}
use Rattle.driver_core.specs.Subscribing.{has_room_for_subscription, with_subscription}
use Rattle.driver_laws.specs.DestinationLaws.{HasPublication}
use Rattle.driver_laws.specs.Events.{AfterAnyEvents}
use Rattle.channel_uri.specs.declared.address.Address.{Address}
use Rattle.channel_uri.specs.Channel.{Shape}
use Rattle.client_registry.specs.Clients.{has_room}
use Rattle.destinations.specs.Destinations.{has_room as has_room_in, of}
use Rattle.policy_core.specs.RuleList.{Rules}
use Rattle.stream_registry.specs.declared.fault.StreamFault.TheVariants.{Full}
use Rattle.stream_registry.specs.declared.wanted.Adding.{Adding}
use Rattle.stream_registry.specs.declared.wanted.ImageWanted.{ImageWanted}
use Rattle.stream_registry.specs.declared.wanted.Wanted.{Wanted}
use Rattle.stream_registry.specs.Adding.{adding_of}
use Rattle.stream_registry.specs.Few.{AreFew}
use Rattle.stream_registry.specs.Origins.{is_published, is_remote}

-- ---- none is passed

-- at most 64 clients, 256 publications and 512 images, 1,024 registrations with publications, 512 subscriptions, 1,024
-- counters and 4,096 pairs, those counted that are not allowed yet and will be at a later moment; and of each source address
-- at most as many images as the settings say
pub record IsWithinLimits (s : State) : Type 0 where
  pub clients : length s.clients.rows ≤ 64
  pub sources : AreFew s.streams.sources
  pub registrations : length s.streams.registrations ≤ 1024
  pub subscriptions : length s.streams.subscriptions ≤ 512
  pub counters : length s.counters ≤ 1024
  pub pairs : length (pairs_of s) ≤ 4096
  pub prospects : length (prospects_of s) ≤ 4096
  pub images : (from : Address) → length (filter (is_from from) s.streams.sources) ≤ s.settings.images_per_source

abbrev pub LimitsAreKept : Type 0
LimitsAreKept = AfterAnyEvents IsWithinLimits

-- ---- nor is one kept too soon

-- the numbers that rows and policies draw have 64 bits
abbrev pub IsLeft : ℕ → Type 0
IsLeft last = last < 18446744073709551615

-- Where no limit would be passed, there is room: the lists of publications are full only at theirs, and all destinations
-- together where each publication has its 32.
pub record HasRoomBelow (s : State) : Type 0 where
  pub client : length s.clients.rows < 64 → IsLeft s.clients.last → has_room s.clients ≡ true
  pub subscription :
      (client : ℕ) (channel : Shape) (stream : ℤ) → IsLeft s.last_number → length s.streams.subscriptions < 512 →
      length (prospects_of (with_subscription s client channel stream)) ≤ 4096 →
      has_room_for_subscription s client channel stream ≡ true
  pub publication :
      (client : ℕ) (wanted : Wanted) (adding : Adding) → IsLeft s.last_number → IsLeft s.destinations.last →
      adding_of s.streams wanted ≡ Ok adding → length (prospects_of (with_publication s client wanted adding)) ≤ 4096 →
      has_room_for_publication s client wanted adding ≡ true
  pub destination :
      (source : ℕ) → HasPublication s.streams.sources source → IsLeft s.destinations.last →
      length (of s.destinations.rows source) < 32 → has_room_in s.destinations source ≡ true
  pub lists :
      (wanted : Wanted) → adding_of s.streams wanted ≡ Err Full →
      (1024 ≤ length s.streams.registrations) ⊎ (256 ≤ length (filter is_published s.streams.sources))
  pub image :
      (wanted : ImageWanted) → IsLeft s.last_number → length (filter is_remote s.streams.sources) < 512 →
      length (filter (is_from wanted.address) s.streams.sources) < s.settings.images_per_source →
      length (prospects_of (with_image s wanted)) ≤ 4096 → has_room_for_setup s wanted ≡ true
  pub counter : IsLeft s.last_number → length s.counters < 1024 → has_room_for_counter s ≡ true
  pub policy :
      (policy : Rules) → IsLeft s.epoch → length (prospects_of (in_force s policy)) ≤ 4096 →
      has_room_for_policy s policy ≡ true

abbrev pub RoomIsLeftBelowTheLimits : Type 0
RoomIsLeftBelowTheLimits = AfterAnyEvents HasRoomBelow
