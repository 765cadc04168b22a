-- There is room where no limit would be passed.
use Rattle.std.proofs.Common.{◌≡◌, ℕ, ◌+◌, ◌<◌, ◌≤◌, ◌==◌, ℤ, List, [], ◌∷◌, Bool, true, false, ◌&&◌, cond, filter, length, map, Option, Some, None, inl, inr, refl, ap, ◌⊎◌, arith}
use Rattle.std.specs.Prelude.{Result, Ok, Err, nat_lt}
use Rattle.std.specs.List.{AllByRecursion, Contains}
use Rattle.std.proofs.lemmas.Bool.{eq-eqb, le-leb, lt-ltb, ltb-false, ltb-true, ne_eqb, or_right}
use Rattle.std.proofs.lemmas.List.{length-map}
use Rattle.driver_core.specs.Pairs.{is_within_pairs, prospects_of}
use Rattle.driver_core.specs.Directing.{can_direct, has_room_for_sole, sole_address}
use Rattle.driver_core.specs.Publishing.{with_publication}
use Rattle.driver_core.specs.Reloading.{in_force}
use Rattle.driver_core.specs.SettingUp.{has_room_for_setup, is_from, is_within_source, with_image}
use Rattle.driver_core.specs.State.{State, has_number}
use Rattle.driver_core.specs.Subscribing.{has_room_for_subscription, with_subscription}
use Rattle.driver_laws.specs.DestinationLaws.{AreOfLive, HasPublication}
use Rattle.driver_laws.specs.LimitLaws.{HasRoomBelow, IsLeft}
use Rattle.driver_laws.specs.NumberLaws.{AreDrawn}
use Rattle.channel_uri.specs.declared.address.Address.{Address}
use Rattle.channel_uri.specs.Channel.{Shape}
use Rattle.channel_uri.specs.Parameters.{stated_session_of}
use Rattle.destinations.specs.declared.destination.Destination.{Destination}
use Rattle.destinations.specs.Destinations.{DestinationList, adding as naming, has, has_room as has_room_in, is_of, of}
use Rattle.destinations.specs.Laws.{IsAmong}
use Rattle.stream_registry.specs.declared.fault.StreamFault.{StreamFault}
use Rattle.stream_registry.specs.declared.fault.StreamFault.TheVariants.{Conflict, Full}
use Rattle.stream_registry.specs.declared.row.LogRow.{LogRow}
use Rattle.stream_registry.specs.declared.wanted.Adding.{Adding}
use Rattle.stream_registry.specs.declared.wanted.Adding.TheVariants.{Join, Make}
use Rattle.stream_registry.specs.declared.wanted.ImageWanted.{ImageWanted}
use Rattle.stream_registry.specs.declared.wanted.Wanted.{Wanted}
use Rattle.stream_registry.specs.Adding.{adding_by, adding_of, has_room_for_log, has_room_for_registration, has_room_for_subscription as has_room_for_one, joining_of, making_of, session_of}
use Rattle.stream_registry.specs.Joining.{contradicts, joined_at}
use Rattle.stream_registry.specs.Few.{AreFew}
use Rattle.stream_registry.specs.Images.{has_room_for_image}
use Rattle.stream_registry.specs.Origins.{is_published, is_remote}
use Rattle.stream_registry.specs.Sessions.{is_stated_again}
use Rattle.stream_registry.specs.Streams.{Streams}
use Rattle.stream_registry.proofs.LimitLemmas.{make_has_room_for_log}
use Rattle.destinations.proofs.RoomLemmas.{room_is_for_every_source}
use Rattle.driver_core.proofs.ListLemmas.{passes_are_left}
use Rattle.driver_laws.proofs.ClosingLemmas.{any_of}
use Rattle.driver_laws.proofs.DroppingLemmas.{first_there, later_there, none_pass}
use Rattle.driver_laws.proofs.LeftLemmas.{mapped}

-- ---- numbers and pairs

number_left : (s : State) → IsLeft s.last_number → has_number s ≡ true
unfolding has_number
number_left s left' = lt-ltb s.last_number 18446744073709551615 left'

few_pairs : (s : State) → length (prospects_of s) ≤ 4096 → is_within_pairs s ≡ true
unfolding is_within_pairs
few_pairs s few = le-leb (length (prospects_of s)) 4096 few

both_hold : (a b : Bool) → a ≡ true → b ≡ true → (a && b) ≡ true
both_hold a b first second = rw (first, second) refl

subscription_room : (s : State) (client : ℕ) (channel : Shape) (stream : ℤ) → IsLeft s.last_number →
    length s.streams.subscriptions < 512 → length (prospects_of (with_subscription s client channel stream)) ≤ 4096 →
    has_room_for_subscription s client channel stream ≡ true
unfolding has_room_for_subscription
subscription_room s client channel stream left' few pairs =
    both_hold (has_number s && has_room_for_one s.streams) (is_within_pairs (with_subscription s client channel stream))
    (both_hold (has_number s) (has_room_for_one s.streams) (number_left s left')
    (lt-ltb (length s.streams.subscriptions) 512 few))
    (few_pairs (with_subscription s client channel stream) pairs)

image_room : (s : State) (wanted : ImageWanted) → IsLeft s.last_number → length (filter is_remote s.streams.sources) < 512 →
    length (filter (is_from wanted.address) s.streams.sources) < s.settings.images_per_source →
    length (prospects_of (with_image s wanted)) ≤ 4096 → has_room_for_setup s wanted ≡ true
image_room s wanted left' few source pairs =
    both_hold (has_room_for_image s.streams) _
    (lt-ltb (length (filter is_remote s.streams.sources)) 512 few)
    (both_hold (is_within_source s wanted) (has_number s && is_within_pairs (with_image s wanted))
    (lt-ltb (length (filter (is_from wanted.address) s.streams.sources)) s.settings.images_per_source source)
    (both_hold (has_number s) (is_within_pairs (with_image s wanted)) (number_left s left')
    (few_pairs (with_image s wanted) pairs)))

-- ---- the lists of publications

without_room : (conflicts room : Bool) (granted : Adding) →
    cond {A = Result Adding StreamFault} conflicts (Err Conflict) (cond room (Ok granted) (Err Full)) ≡ Err Full →
    room ≡ false
without_room true room granted is = absurd (cc is)
without_room false true granted is = absurd (cc is)
without_room false false granted is = refl

either_full : (streams : Streams) (one other : Bool) → nat_lt (length streams.registrations) 1024 ≡ one →
    nat_lt (length (filter is_published streams.sources)) 256 ≡ other → (one && other) ≡ false →
    (1024 ≤ length streams.registrations) ⊎ (256 ≤ length (filter is_published streams.sources))
either_full streams false other one two is = inl (ltb-false (length streams.registrations) 1024 one)
either_full streams true false one two is = inr (ltb-false (length (filter is_published streams.sources)) 256 two)
either_full streams true true one two is = absurd (cc is)

making_full : (streams : Streams) (wanted : Wanted) → making_of streams wanted ≡ Err Full →
    (1024 ≤ length streams.registrations) ⊎ (256 ≤ length (filter is_published streams.sources))
unfolding making_of
making_full streams wanted is =
    either_full streams _ _ refl refl
    (without_room
    (is_stated_again streams.sources wanted.channel.media wanted.stream (stated_session_of wanted.channel))
    (has_room_for_registration streams && has_room_for_log streams) (Make (session_of streams wanted.channel)) is)

joining_full : (streams : Streams) (channel : Shape) (log : LogRow) → joining_of streams channel log ≡ Err Full →
    (1024 ≤ length streams.registrations) ⊎ (256 ≤ length (filter is_published streams.sources))
unfolding joining_of
joining_full streams channel log is =
    inl (ltb-false (length streams.registrations) 1024
    (without_room (contradicts streams.defaults channel log) (has_room_for_registration streams)
    (Join log.number log.session) is))

by_full : (streams : Streams) (wanted : Wanted) (found : Option LogRow) → adding_by streams wanted found ≡ Err Full →
    (1024 ≤ length streams.registrations) ⊎ (256 ≤ length (filter is_published streams.sources))
by_full streams wanted None is = making_full streams wanted is
by_full streams wanted (Some log) is = joining_full streams wanted.channel log is

which_full : (streams : Streams) (wanted : Wanted) (b : Bool) →
    cond b (making_of streams wanted) (adding_by streams wanted (joined_at streams.sources wanted.channel wanted.stream))
    ≡ Err Full →
    (1024 ≤ length streams.registrations) ⊎ (256 ≤ length (filter is_published streams.sources))
which_full streams wanted true is = making_full streams wanted is
which_full streams wanted false is =
    by_full streams wanted (joined_at streams.sources wanted.channel wanted.stream) is

lists_full : (streams : Streams) (wanted : Wanted) → adding_of streams wanted ≡ Err Full →
    (1024 ≤ length streams.registrations) ⊎ (256 ≤ length (filter is_published streams.sources))
unfolding adding_of
lists_full streams wanted is = which_full streams wanted wanted.exclusive is

-- ---- the one destination of a publication

none_at : (rows : List Destination) (source : ℕ) (address : Address) →
    ((destination : Destination) → Contains rows destination → (destination.source == source) ≡ false) →
    has rows source address ≡ false
none_at [] source address none = refl
none_at (row ∷ rows) source address none =
    rw (
      none row (first_there row rows),
      none_at rows source address (λ other there. none other (later_there row other rows there)),
    )
    refl

all_of : {X : Type 0} (P : X → Type 0) (rows : List X) → ((row : X) → Contains rows row → P row) → AllByRecursion P rows
all_of P [] each = tt
all_of P (row ∷ rows) each =
    (each row (first_there row rows), all_of P rows (λ other there. each other (later_there row other rows there)))

-- the numbers of the live publications
abbrev publications_of : List LogRow → List ℕ
publications_of logs = map (λ (log : LogRow). log.number) (filter is_published logs)

is_among : (logs : List LogRow) (source : ℕ) → HasPublication logs source → IsAmong (publications_of logs) source
is_among logs source was =
    any_of (λ (other : ℕ). other == source) (publications_of logs) was.log.number
    (mapped (λ (log : LogRow). log.number) (filter is_published logs) was.log
    (passes_are_left is_published logs was.log was.published was.stands))
    (eq-eqb was.log.number source was.source_is)

-- so it is where another source is among them
among_more : (source other : ℕ) (sources : List ℕ) → IsAmong sources other → IsAmong (source ∷ sources) other
among_more source other sources among = or_right (source == other) _ among

named_room : (destinations : DestinationList) (source : ℕ) → IsLeft destinations.last →
    length (of destinations.rows source) < 32 → length destinations.rows < 8192 → has_room_in destinations source ≡ true
named_room destinations source left' each all =
    both_hold _ _ (lt-ltb (length (of destinations.rows source)) 32 each)
    (both_hold _ _ (lt-ltb (length destinations.rows) 8192 all)
    (lt-ltb destinations.last 18446744073709551615 left'))

publications_count : (logs : List LogRow) → length (publications_of logs) ≡ length (filter is_published logs)
publications_count logs = length-map (filter is_published logs) (λ (log : LogRow). log.number)

live_room : (destinations : DestinationList) (logs : List LogRow) (source : ℕ) → AreOfLive destinations logs → AreFew logs →
    HasPublication logs source → IsLeft destinations.last → length (of destinations.rows source) < 32 →
    has_room_in destinations source ≡ true
live_room destinations logs source live few was left' each =
    let count = publications_count logs in
    let most = few.published in
    named_room destinations source left' each
    (room_is_for_every_source destinations (publications_of logs) source live.orderly (omega (arith, count, most))
    (all_of (λ (d : Destination). IsAmong (publications_of logs) d.source) destinations.rows
    (λ destination there. is_among logs destination.source (live.live destination there)))
    (is_among logs source was) each)

-- a source of which nothing is named yet
next_room : (destinations : DestinationList) (logs : List LogRow) (source : ℕ) → AreOfLive destinations logs →
    length (filter is_published logs) < 256 → IsLeft destinations.last → length (of destinations.rows source) ≡ 0 →
    has_room_in destinations source ≡ true
next_room destinations logs source live few left' none =
    let count = publications_count logs in
    let sources : List ℕ = source ∷ publications_of logs in
    named_room destinations source left' (omega (arith, none))
    (room_is_for_every_source destinations sources source live.orderly (omega (arith, count, few))
    (all_of (λ (d : Destination). IsAmong sources d.source) destinations.rows
    (λ destination there.
    among_more source destination.source (publications_of logs)
    (is_among logs destination.source (live.live destination there))))
    (any_of (λ (other : ℕ). other == source) sources source (first_there source (publications_of logs))
    (eq-eqb source source refl))
    (omega (arith, none)))

address_room : (destinations : DestinationList) (logs : List LogRow) (source : ℕ) (address : Option Address) →
    AreOfLive destinations logs → length (filter is_published logs) < 256 → IsLeft destinations.last →
    ((destination : Destination) → Contains destinations.rows destination → (destination.source == source) ≡ false) →
    can_direct destinations source address ≡ true
unfolding naming
address_room destinations logs source None live few left' none = refl
address_room destinations logs source (Some address) live few left' none =
    let nothing : of destinations.rows source ≡ [] = none_pass (is_of source) destinations.rows none in
    let room : has_room_in destinations source ≡ true =
    next_room destinations logs source live few left' (ap length nothing) in
    rw (none_at destinations.rows source address none, room) refl

-- a log that is yet to come has no destination
none_of_next : (s : State) → AreOfLive s.destinations s.streams.sources → AreDrawn s → (destination : Destination) →
    Contains s.destinations.rows destination → (destination.source == s.last_number + 1) ≡ false
none_of_next s named drawn destination has' =
    let was : HasPublication s.streams.sources destination.source = named.live destination has' in
    let at = was.source_is in
    let below = (drawn.sources was.log was.stands).below in
    ne_eqb destination.source (s.last_number + 1) (λ is. absurd (omega (arith, at, below, is)))

sole_room : (s : State) (wanted : Wanted) (adding : Adding) → AreOfLive s.destinations s.streams.sources → AreDrawn s →
    IsLeft s.destinations.last → adding_of s.streams wanted ≡ Ok adding → has_room_for_sole s wanted adding ≡ true
unfolding has_room_for_sole
sole_room s wanted (Join source session) named drawn left' is = refl
sole_room s wanted (Make session) named drawn left' is =
    let logs : List LogRow = s.streams.sources in
    let few : length (filter is_published logs) < 256 =
    ltb-true (length (filter is_published logs)) 256 (make_has_room_for_log s.streams wanted session is) in
    address_room s.destinations logs (s.last_number + 1) (sole_address wanted.channel) named few left'
    (none_of_next s named drawn)

-- ---- every registry

pub has_room_below : (s : State) → AreOfLive s.destinations s.streams.sources → AreFew s.streams.sources → AreDrawn s →
    HasRoomBelow s
has_room_below s named few drawn = record {
  client = λ fewer left'.
      both_hold _ _ (lt-ltb (length s.clients.rows) 64 fewer) (lt-ltb s.clients.last 18446744073709551615 left');
  subscription = subscription_room s;
  publication = λ client wanted adding left' named_left is pairs.
      both_hold _ _ (both_hold _ _ (number_left s left') (sole_room s wanted adding named drawn named_left is))
      (few_pairs (with_publication s client wanted adding) pairs);
  destination = λ source was left' each. live_room s.destinations s.streams.sources source named few was left' each;
  lists = λ wanted is. lists_full s.streams wanted is;
  image = image_room s;
  counter = λ left' fewer.
      both_hold _ _ (lt-ltb (length s.counters) 1024 fewer) (lt-ltb s.last_number 18446744073709551615 left');
  policy = λ policy left' pairs.
      both_hold _ _ (few_pairs (in_force s policy) pairs) (lt-ltb s.epoch 18446744073709551615 left');
}
