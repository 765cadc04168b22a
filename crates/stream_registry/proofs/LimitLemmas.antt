-- No list grows past its limit.
use Rattle.std.proofs.Common.{◌≡◌, ℕ, ◌+◌, ◌<◌, ◌≤◌, ℤ, Bool, true, false, not, ◌&&◌, cond, List, [], ◌∷◌, ◌++◌, length, filter, Option, Some, None, refl, subst, arith}
use Rattle.std.specs.Prelude.{Result, Ok, Err}
use Rattle.std.proofs.lemmas.Bool.{ltb-true}
use Rattle.std.proofs.lemmas.List.{length-append}
use Rattle.std.proofs.lemmas.List.Filters.{length-filter_both}
use Rattle.stream_registry.specs.declared.fault.StreamFault.{StreamFault}
use Rattle.stream_registry.specs.declared.fault.StreamFault.TheVariants.{Conflict, Full}
use Rattle.stream_registry.specs.declared.row.LogRow.{LogRow}
use Rattle.stream_registry.specs.declared.wanted.Adding.{Adding}
use Rattle.stream_registry.specs.declared.wanted.Adding.TheVariants.{Join, Make}
use Rattle.stream_registry.specs.declared.wanted.ImageWanted.{ImageWanted}
use Rattle.stream_registry.specs.declared.wanted.Wanted.{Wanted}
use Rattle.stream_registry.specs.Adding.{adding_by, adding_of, added, has_room_for_log, has_room_for_registration, has_room_for_subscription, joining_of, log_of, making_of, registration_of, session_of, subscribed}
use Rattle.stream_registry.specs.Joining.{contradicts, joined_at}
use Rattle.stream_registry.specs.Images.{has_room_for_image, image_of, imaged, stays_beside, without_images}
use Rattle.stream_registry.specs.Leaving.{is_another_registration, is_another_subscription, is_registration_of_another, is_subscription_of_another, left, unregistered, unsubscribed}
use Rattle.stream_registry.specs.LimitLaws.{IsWithinLimits, StaysWithinLimits}
use Rattle.stream_registry.specs.Lingering.{closed, settled, stays_live}
use Rattle.stream_registry.specs.Origins.{is_published, is_remote}
use Rattle.stream_registry.specs.Sessions.{is_stated_again}
use Rattle.stream_registry.specs.Streams.{Streams}
use Rattle.channel_uri.specs.Channel.{Shape}
use Rattle.channel_uri.specs.Parameters.{stated_session_of}
use Rattle.stream_registry.proofs.FewLemmas.{imaged_few, kept_few, none_few, published_few, settled_few}

-- ---- what is granted finds room

abbrev HasRoom : Streams → Adding → Type 0
HasRoom s (Join source session) = has_room_for_registration s ≡ true
HasRoom s (Make session) = (has_room_for_registration s && has_room_for_log s) ≡ true

chosen : (conflicts room : Bool) (granted adding : Adding) →
    cond {A = Result Adding StreamFault} conflicts (Err Conflict) (cond room (Ok granted) (Err Full)) ≡ Ok adding →
    (room ≡ true) × (granted ≡ adding)
chosen true room granted adding is = absurd (cc)
chosen false true granted adding is = (refl, cc)
chosen false false granted adding is = absurd (cc)

joining_room : (s : Streams) (channel : Shape) (log : LogRow) (adding : Adding) → joining_of s channel log ≡ Ok adding → HasRoom s adding
unfolding joining_of
joining_room s channel log adding is =
    let both = chosen (contradicts s.defaults channel log) (has_room_for_registration s) (Join log.number log.session) adding is in
    subst (HasRoom s) both.1 both.0

making_room : (s : Streams) (wanted : Wanted) (adding : Adding) → making_of s wanted ≡ Ok adding → HasRoom s adding
unfolding making_of
making_room s wanted adding is =
    let both = chosen (is_stated_again s.sources wanted.channel.media wanted.stream (stated_session_of wanted.channel))
    (has_room_for_registration s && has_room_for_log s) (Make (session_of s wanted.channel)) adding is in
    subst (HasRoom s) both.1 both.0

by_room : (s : Streams) (wanted : Wanted) (adding : Adding) (found : Option LogRow) → adding_by s wanted found ≡ Ok adding →
    HasRoom s adding
by_room s wanted adding None is = making_room s wanted adding is
by_room s wanted adding (Some log) is = joining_room s wanted.channel log adding is

either_room : (s : Streams) (adding : Adding) (b : Bool) (one other : Result Adding StreamFault) → (one ≡ Ok adding → HasRoom s adding) →
    (other ≡ Ok adding → HasRoom s adding) → cond b one other ≡ Ok adding → HasRoom s adding
either_room s adding true one other first second is = first is
either_room s adding false one other first second is = second is

granted_room : (s : Streams) (wanted : Wanted) (adding : Adding) → adding_of s wanted ≡ Ok adding → HasRoom s adding
unfolding adding_of
granted_room s wanted adding is =
    either_room s adding wanted.exclusive (making_of s wanted) (adding_by s wanted (joined_at s.sources wanted.channel wanted.stream))
    (making_room s wanted adding) (by_room s wanted adding (joined_at s.sources wanted.channel wanted.stream)) is

first_of : (a b : Bool) → (a && b) ≡ true → a ≡ true
first_of true b is = refl
first_of false b is = absurd (cc)

second_of : (a b : Bool) → (a && b) ≡ true → b ≡ true
second_of true b is = is
second_of false b is = absurd (cc)

pub join_has_room : (s : Streams) (wanted : Wanted) (source : ℕ) (session : ℤ) → adding_of s wanted ≡ Ok (Join source session) →
    has_room_for_registration s ≡ true
join_has_room s wanted source session is = granted_room s wanted (Join source session) is

pub make_has_room_for_log : (s : Streams) (wanted : Wanted) (session : ℤ) → adding_of s wanted ≡ Ok (Make session) →
    has_room_for_log s ≡ true
make_has_room_for_log s wanted session is =
    second_of (has_room_for_registration s) (has_room_for_log s) (granted_room s wanted (Make session) is)

pub make_has_room : (s : Streams) (wanted : Wanted) (session : ℤ) → adding_of s wanted ≡ Ok (Make session) →
    has_room_for_registration s ≡ true
make_has_room s wanted session is =
    first_of (has_room_for_registration s) (has_room_for_log s) (granted_room s wanted (Make session) is)

-- ---- the lists

one_more : {A : Type 0} (rows : List A) (row : A) (limit : ℕ) → length rows < limit → length (rows ++ row ∷ []) ≤ limit
one_more rows row limit few =
    let more : length (rows ++ row ∷ []) ≡ length rows + 1 = length-append rows (row ∷ []) in
    omega (arith, more, few)

fewer : {A : Type 0} (stays : A → Bool) (rows : List A) (limit : ℕ) → length rows ≤ limit → length (filter stays rows) ≤ limit
fewer stays rows limit few =
    let both : length (filter stays rows) + length (filter (λ row. not (stays row)) rows) ≡ length rows =
    length-filter_both stays (λ row. not (stays row)) (λ row. refl) rows in
    omega (arith, both, few)

added_within : (s : Streams) (number client place : ℕ) (wanted : Wanted) (adding : Adding) → IsWithinLimits s → HasRoom s adding →
    IsWithinLimits (added s number client wanted place adding)
added_within s number client place wanted (Join source session) h room = record {
  logs = h.logs;
  registrations = one_more s.registrations (registration_of number client wanted source) 1024 (ltb-true (length s.registrations) 1024 room);
  subscriptions = h.subscriptions;
}
added_within s number client place wanted (Make session) h room = record {
  logs = published_few s.sources (log_of s number wanted place session) refl
      (ltb-true (length (filter is_published s.sources)) 256 (second_of (has_room_for_registration s) (has_room_for_log s) room)) h.logs;
  registrations = one_more s.registrations (registration_of number client wanted number) 1024
      (ltb-true (length s.registrations) 1024 (first_of (has_room_for_registration s) (has_room_for_log s) room));
  subscriptions = h.subscriptions;
}

imaged_within : (s : Streams) (number place : ℕ) (wanted : ImageWanted) → IsWithinLimits s → has_room_for_image s ≡ true →
    IsWithinLimits (imaged s number wanted place)
imaged_within s number place wanted h room = record {
  logs = imaged_few s.sources (image_of s number wanted place) refl (ltb-true (length (filter is_remote s.sources)) 512 room) h.logs;
  registrations = h.registrations;
  subscriptions = h.subscriptions;
}

subscribed_within : (s : Streams) (number client : ℕ) (channel : Shape) (stream : ℤ) → IsWithinLimits s →
    has_room_for_subscription s ≡ true → IsWithinLimits (subscribed s number client channel stream)
unfolding subscribed
subscribed_within s number client channel stream h room = record {
  logs = h.logs;
  registrations = h.registrations;
  subscriptions = one_more s.subscriptions _ 512 (ltb-true (length s.subscriptions) 512 room);
}

settled_within : (s : Streams) (now : ℕ) → IsWithinLimits s → IsWithinLimits (settled s now)
unfolding settled
settled_within s now h = record {
  logs = settled_few s.registrations now s.sources h.logs;
  registrations = h.registrations;
  subscriptions = h.subscriptions;
}

unregistered_within : (s : Streams) (client number now : ℕ) → IsWithinLimits s → IsWithinLimits (unregistered s client number now)
unfolding unregistered
unregistered_within s client number now h =
    settled_within (record s { registrations = filter (is_another_registration client number) s.registrations }) now (record {
      logs = h.logs;
      registrations = fewer (is_another_registration client number) s.registrations 1024 h.registrations;
      subscriptions = h.subscriptions;
    })

unsubscribed_within : (s : Streams) (client number : ℕ) → IsWithinLimits s → IsWithinLimits (unsubscribed s client number)
unfolding unsubscribed
unsubscribed_within s client number h = record {
  logs = h.logs;
  registrations = h.registrations;
  subscriptions = fewer (is_another_subscription client number) s.subscriptions 512 h.subscriptions;
}

left_within : (s : Streams) (client now : ℕ) → IsWithinLimits s → IsWithinLimits (left s client now)
unfolding left
left_within s client now h =
    settled_within (record s {
      registrations = filter (is_registration_of_another client) s.registrations;
      subscriptions = filter (is_subscription_of_another client) s.subscriptions;
    }) now (record {
      logs = h.logs;
      registrations = fewer (is_registration_of_another client) s.registrations 1024 h.registrations;
      subscriptions = fewer (is_subscription_of_another client) s.subscriptions 512 h.subscriptions;
    })

closed_within : (s : Streams) (now : ℕ) (silent : List ℕ) → IsWithinLimits s → IsWithinLimits (closed s now silent)
unfolding closed
closed_within s now silent h = record {
  logs = kept_few (stays_live now silent) s.sources h.logs;
  registrations = h.registrations;
  subscriptions = h.subscriptions;
}

without_within : (s : Streams) (numbers : List ℕ) → IsWithinLimits s → IsWithinLimits (without_images s numbers)
unfolding without_images
without_within s numbers h = record {
  logs = kept_few (stays_beside numbers) s.sources h.logs;
  registrations = h.registrations;
  subscriptions = h.subscriptions;
}

pub stays_within_limits : StaysWithinLimits
stays_within_limits = record {
  opened = λ defaults first. record { logs = none_few; registrations = omega arith; subscriptions = omega arith };
  added = λ s number client place wanted adding h is. added_within s number client place wanted adding h (granted_room s wanted adding is);
  imaged = imaged_within;
  subscribed = subscribed_within;
  unregistered = unregistered_within;
  unsubscribed = unsubscribed_within;
  left = left_within;
  closed = closed_within;
  without_images = without_within;
  cleared = λ s h. record { logs = none_few; registrations = omega arith; subscriptions = omega arith };
}
