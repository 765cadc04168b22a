-- Which SETUP makes an image, and by which cause one is dropped.
use Rattle.std.proofs.Common.{◌≡◌, ℕ, ◌<◌, ◌≤◌, Bool, true, false, not, ◌&&◌, List, [], ◌∷◌, filter, length, Option, Some, None, Ok, Err, is_some, refl, sym, subst, ap, ◌∙◌, ⊎_elim, arith}
use Rattle.std.specs.List.{Contains, list_any}
use Rattle.std.proofs.lemmas.Bool.{and_parts, cases_Bool, cases_order, cond_both, le-leb, leb-true, lt-ltb, ltb-true, not-false, not-true}
use Rattle.driver_core.specs.declared.state.event.Event.TheVariants.{Setup}
use Rattle.driver_core.specs.declared.state.event.Inputs.{Inputs}
use Rattle.driver_core.specs.declared.state.setup_fault.SetupFault.{SetupFault}
use Rattle.driver_core.specs.declared.state.setup_fault.SetupFault.TheVariants.{BadSetup, Denied, Exists, Full, NoRoom, NoSubscription}
use Rattle.driver_core.specs.Conduct.{conduct, drafted}
use Rattle.driver_core.specs.Pairs.{is_within_pairs, prospects_of}
use Rattle.driver_core.specs.SettingUp.{allowed_for, fitting, has_room_for_setup, is_from, new_image, place_of_image, placing, room_for, set_up, setting_of, verdict_for, wanted_by, with_image}
use Rattle.driver_core.specs.Renewal.{renewed}
use Rattle.driver_core.specs.State.{State, at_moment, has_number, ruled}
use Rattle.driver_core.specs.Unread.{dropping}
use Rattle.driver_core.specs.Verdicts.{verdict_on}
use Rattle.driver_laws.specs.NumberLaws.{AreRising, Rises}
use Rattle.driver_laws.specs.OwnerLaws.{HaveTheirClients}
use Rattle.driver_laws.specs.SettingLaws.{FitsNone, HasRoom, IsAllowedToOne, IsCause, IsDecided, IsDeniedToAll, IsNew, IsSetExactly, IsThere, IsVacantFor, MayCome}
use Rattle.channel_uri.specs.declared.address.Address.{Address}
use Rattle.client_registry.specs.Clients.{principal_at}
use Rattle.frame_codec.specs.declared.setup.Setup.{Setup as SetupFrame}
use Rattle.policy_core.specs.declared.verdict.Verdict.{Verdict}
use Rattle.stream_registry.specs.declared.row.LogRow.{LogRow}
use Rattle.stream_registry.specs.declared.row.Subscription.{Subscription}
use Rattle.stream_registry.specs.declared.wanted.ImageWanted.{ImageWanted}
use Rattle.stream_registry.specs.Images.{image_at, is_image_at}
use Rattle.stream_registry.specs.Origins.{is_remote}
use Rattle.stream_registry.specs.Pairs.{fits, image_question, is_allowed, is_allowed_to}
use Rattle.stream_registry.proofs.PageLawLemmas.{all_least}
use Rattle.driver_core.proofs.CacheLemmas.{IsFound, found_in}
use Rattle.driver_core.proofs.ListLemmas.{contains_none, left_was_there, passes_are_left}
use Rattle.driver_laws.proofs.DroppingLemmas.{Found, first_there, found_of, is_any, none_found, none_pass, passes_test}
use Rattle.driver_laws.proofs.RisingLemmas.{rises_kept, rises_unique}
use Rattle.driver_laws.proofs.TurningLemmas.{owned_at, rising_at}
use Rattle.driver_laws.proofs.SettingUpLemmas.{IsDeniedIn, acts_for, bad_is, denied_to, dropped_change, found_one, image_change, is_lowest, set_is, verdict_of_first}

-- it is so, and it isn't
both_ways : {X : Type 0} (b : Bool) → b ≡ true → b ≡ false → X
both_ways b is lacks =
    let never : false ≡ true = sym lacks ∙ is in
    absurd (cc never)

-- ---- whether an image of it is there

there_is : (s : State) (wanted : ImageWanted) (found : Option LogRow) →
    image_at s.streams wanted.channel wanted.session wanted.stream ≡ found → is_some found ≡ true → IsThere s wanted
there_is s wanted None is some = absurd (cc some)
there_is s wanted (Some image) is some =
    let there : IsFound (is_image_at wanted.channel wanted.session wanted.stream) s.streams.sources image =
    found_in (is_image_at wanted.channel wanted.session wanted.stream) s.streams.sources image is in
    record { image = image; is_live = there.stands; is_of_it = there.passes }

abbrev is_there : State → ImageWanted → Bool
is_there s wanted = is_some (image_at s.streams wanted.channel wanted.session wanted.stream)

is_new : (s : State) (wanted : ImageWanted) → is_there s wanted ≡ false → IsNew s wanted
is_new s wanted none = none_found (is_image_at wanted.channel wanted.session wanted.stream) s.streams.sources none

there_found : (s : State) (wanted : ImageWanted) → IsThere s wanted → is_there s wanted ≡ true
there_found s wanted there =
    ⊎_elim (λ some. some)
    (λ none. both_ways _ there.is_of_it (is_new s wanted none there.image there.is_live))
    (cases_Bool (is_there s wanted))

new_found : (s : State) (wanted : ImageWanted) → IsNew s wanted → is_there s wanted ≡ false
new_found s wanted new =
    ⊎_elim
    (λ some.
    let there : IsThere s wanted = there_is s wanted _ refl some in
    both_ways _ there.is_of_it (new there.image there.is_live))
    (λ none. none)
    (cases_Bool (is_there s wanted))

-- ---- whether there is room

has_room : (s : State) (now : ℕ) (wanted : ImageWanted) → has_room_for_setup (at_moment s now) wanted ≡ true →
    HasRoom s now wanted
unfolding at_moment has_number is_within_pairs
has_room s now wanted room =
    let parts = and_parts _ _ room in
    let source = and_parts _ _ parts.1 in
    let rest = and_parts _ _ source.1 in
    record {
      images = ltb-true (length (filter is_remote s.streams.sources)) 512 parts.0;
      source = ltb-true (length (filter (is_from wanted.address) s.streams.sources)) s.settings.images_per_source source.0;
      number = ltb-true s.last_number 18446744073709551615 rest.0;
      pairs = leb-true (length (prospects_of (with_image (at_moment s now) wanted))) 4096 rest.1;
    }

all_four : (a b c d : Bool) → a ≡ true → b ≡ true → c ≡ true → d ≡ true → (a && (b && (c && d))) ≡ true
all_four a b c d one two three four = rw (one, two, three, four) refl

room_found : (s : State) (now : ℕ) (wanted : ImageWanted) → HasRoom s now wanted →
    has_room_for_setup (at_moment s now) wanted ≡ true
unfolding at_moment has_number is_within_pairs
room_found s now wanted room =
    all_four _ _ _ _ (lt-ltb (length (filter is_remote s.streams.sources)) 512 room.images)
    (lt-ltb (length (filter (is_from wanted.address) s.streams.sources)) s.settings.images_per_source room.source)
    (lt-ltb s.last_number 18446744073709551615 room.number)
    (le-leb (length (prospects_of (with_image (at_moment s now) wanted))) 4096 room.pairs)

room_lacks : (s : State) (now : ℕ) (wanted : ImageWanted) → ¬ HasRoom s now wanted →
    has_room_for_setup (at_moment s now) wanted ≡ false
room_lacks s now wanted lacks =
    ⊎_elim (λ room. absurd (lacks (has_room s now wanted room))) (λ none. none)
    (cases_Bool (has_room_for_setup (at_moment s now) wanted))

-- ---- where its log goes

none_vacant : (s : State) (now : ℕ) (wanted : ImageWanted) → place_of_image (at_moment s now) wanted ≡ None →
    (place : ℕ) → ¬ IsVacantFor s wanted place
unfolding at_moment
none_vacant s now wanted none place = all_least.none s.streams s.settings.arena_pages _ place none

is_vacant : (s : State) (now : ℕ) (wanted : ImageWanted) (place : ℕ) → place_of_image (at_moment s now) wanted ≡ Some place →
    IsVacantFor s wanted place
unfolding at_moment
is_vacant s now wanted place is = all_least.vacant s.streams s.settings.arena_pages _ place is

none_below : (s : State) (now : ℕ) (wanted : ImageWanted) (place : ℕ) → place_of_image (at_moment s now) wanted ≡ Some place →
    (lower : ℕ) → lower < place → ¬ IsVacantFor s wanted lower
unfolding at_moment
none_below s now wanted place is lower below = all_least.least s.streams s.settings.arena_pages _ place lower is below

no_place : (s : State) (now : ℕ) (wanted : ImageWanted) → ((place : ℕ) → ¬ IsVacantFor s wanted place) →
    (found : Option ℕ) → place_of_image (at_moment s now) wanted ≡ found → found ≡ None
no_place s now wanted none None is = refl
no_place s now wanted none (Some place) is = absurd (none place (is_vacant s now wanted place is))

least_place : (s : State) (now : ℕ) (wanted : ImageWanted) (place : ℕ) → MayCome s now wanted place →
    (found : Option ℕ) → place_of_image (at_moment s now) wanted ≡ found → found ≡ Some place
least_place s now wanted place may None is = absurd (none_vacant s now wanted is place may.vacant)
least_place s now wanted place may (Some other) is =
    ⊎_elim (λ same. ap Some same)
    (λ apart.
    ⊎_elim (λ below. absurd (may.least other below (is_vacant s now wanted other is)))
    (λ above. absurd (none_below s now wanted other is place above may.vacant))
    apart)
    (cases_order other place)

-- ---- whether it is allowed to one

abbrev allows : State → Subscription → Bool
allows s subscription = is_allowed s.clients.rows s.policy s.epoch subscription

any_allowed : (s : State) (now : ℕ) (wanted : ImageWanted) → IsAllowedToOne s now wanted →
    list_any (allows (at_moment s now)) (fitting (at_moment s now) wanted) ≡ true
unfolding at_moment is_allowed
any_allowed s now wanted one =
    let log : LogRow = new_image (at_moment s now) wanted in
    is_any (is_allowed s.clients.rows s.policy s.epoch) (filter (fits log) s.streams.subscriptions) one.subscription
    (passes_are_left (fits log) s.streams.subscriptions one.subscription one.fitting one.stands)
    (ap (is_allowed_to s.policy s.epoch one.subscription) one.attached ∙ one.allowed)

none_any : {X : Type 0} (test : X → Bool) (xs : List X) → ((x : X) → Contains xs x → test x ≡ false) →
    list_any test xs ≡ false
none_any test xs none =
    ⊎_elim
    (λ some.
    let found : Found test xs = found_of test xs some in
    both_ways _ found.passes (none found.one found.there))
    (λ fails. fails)
    (cases_Bool (list_any test xs))

none_allowed : (s : State) (now : ℕ) (wanted : ImageWanted) (verdict : Verdict) → HaveTheirClients s →
    IsDeniedToAll s now wanted verdict →
    list_any (allows (at_moment s now)) (fitting (at_moment s now) wanted) ≡ false
unfolding at_moment is_allowed
none_allowed s now wanted verdict owned all =
    let log : LogRow = new_image (at_moment s now) wanted in
    none_any (is_allowed s.clients.rows s.policy s.epoch) (filter (fits log) s.streams.subscriptions)
    (λ row has.
    let stands : Contains s.streams.subscriptions row = left_was_there (fits log) s.streams.subscriptions row has in
    let acts = acts_for s.clients.rows row.client (owned.subscriptions row stands) in
    ap (is_allowed_to s.policy s.epoch row) acts.1
    ∙ all.denies row acts.0 stands (passes_test (fits log) s.streams.subscriptions row has) acts.1)

-- ---- what is found of it holds

fits_none : (s : State) (now : ℕ) (wanted : ImageWanted) → fitting (at_moment s now) wanted ≡ [] → FitsNone s now wanted
unfolding at_moment
fits_none s now wanted none row stands =
    let log : LogRow = new_image (at_moment s now) wanted in
    ⊎_elim
    (λ fits'.
    let has : Contains (filter (fits log) s.streams.subscriptions) row =
    passes_are_left (fits log) s.streams.subscriptions row fits' stands in
    absurd (contains_none row (rw none at has)))
    (λ fails. fails)
    (cases_Bool (fits log row))

placing_decided : (s : State) (now : ℕ) (wanted : ImageWanted) → IsNew s wanted → IsAllowedToOne s now wanted →
    HasRoom s now wanted → (found : Option ℕ) → place_of_image (at_moment s now) wanted ≡ found →
    IsDecided s now wanted (placing found)
placing_decided s now wanted new one room None is = (new, (one, (room, none_vacant s now wanted is)))
placing_decided s now wanted new one room (Some place) is = record {
  new = new;
  allowed = one;
  room = room;
  vacant = is_vacant s now wanted place is;
  least = none_below s now wanted place is;
}

room_decided : (s : State) (now : ℕ) (wanted : ImageWanted) → IsNew s wanted → IsAllowedToOne s now wanted →
    IsDecided s now wanted (room_for (at_moment s now) wanted)
unfolding room_for
room_decided s now wanted new one =
    let room : Bool = has_room_for_setup (at_moment s now) wanted in
    cond_both (not room) _ _ (IsDecided s now wanted)
    (λ lacks. (new, (one, (λ has. both_ways room (room_found s now wanted has) (not-true room lacks)))))
    (λ has.
    placing_decided s now wanted new one (has_room s now wanted (not-false room has))
    (place_of_image (at_moment s now) wanted) refl)

rows_decided : (s : State) (now : ℕ) (wanted : ImageWanted) → AreRising s → HaveTheirClients s → IsNew s wanted →
    (rows : List Subscription) → fitting (at_moment s now) wanted ≡ rows →
    IsDecided s now wanted (allowed_for (at_moment s now) wanted rows)
rows_decided s now wanted rises owned new [] is = (new, fits_none s now wanted is)
rows_decided s now wanted rises owned new (first ∷ others) is =
    cond_both (list_any (allows (at_moment s now)) (first ∷ others)) _ _ (IsDecided s now wanted)
    (λ some. room_decided s now wanted new (found_one s now wanted (rw is some)))
    (λ none.
    let denied : IsDeniedIn (at_moment s now) (verdict_for (at_moment s now) first) (fitting (at_moment s now) wanted) =
    record { first = first; others = others; rows_are = is; verdict_is = refl; denies = rw is none } in
    (new, denied_to s now wanted _ rises owned denied))

decided_at : (s : State) (now : ℕ) (wanted : ImageWanted) → AreRising s → HaveTheirClients s →
    IsDecided s now wanted (setting_of (at_moment s now) wanted)
unfolding setting_of at_moment
decided_at s now wanted rises owned =
    cond_both (is_there s wanted) _ _ (IsDecided s now wanted)
    (λ some. there_is s wanted _ refl some)
    (λ none. rows_decided s now wanted rises owned (is_new s wanted none) _ refl)

-- ---- what holds of it is found

new_is : (s : State) (wanted : ImageWanted) → is_there s wanted ≡ false → setting_of s wanted ≡ allowed_for s wanted (fitting s wanted)
unfolding setting_of
new_is s wanted none = rw none refl

there_decides : (s : State) (wanted : ImageWanted) → is_there s wanted ≡ true → setting_of s wanted ≡ Err Exists
unfolding setting_of
there_decides s wanted some = rw some refl

-- as it is at another moment
there_later : (s : State) (now : ℕ) (wanted : ImageWanted) → is_there (at_moment s now) wanted ≡ is_there s wanted
unfolding at_moment
there_later s now wanted = refl

allowed_is : (s : State) (wanted : ImageWanted) (rows : List Subscription) → list_any (allows s) rows ≡ true →
    allowed_for s wanted rows ≡ room_for s wanted
allowed_is s wanted [] some = absurd (cc some)
allowed_is s wanted (first ∷ others) some = rw some refl

denied_is_told : (s : State) (wanted : ImageWanted) (first : Subscription) (others : List Subscription) →
    list_any (allows s) (first ∷ others) ≡ false →
    allowed_for s wanted (first ∷ others) ≡ Err (Denied (verdict_for s first))
denied_is_told s wanted first others none = rw none refl

full_is : (s : State) (wanted : ImageWanted) → has_room_for_setup s wanted ≡ false → room_for s wanted ≡ Err Full
unfolding room_for
full_is s wanted lacks = rw lacks refl

placed_is : (s : State) (wanted : ImageWanted) (found : Option ℕ) → has_room_for_setup s wanted ≡ true →
    place_of_image s wanted ≡ found → room_for s wanted ≡ placing found
unfolding room_for
placed_is s wanted found room is = rw (room, is) refl

new_decides : (s : State) (now : ℕ) (wanted : ImageWanted) → IsNew s wanted →
    setting_of (at_moment s now) wanted ≡ allowed_for (at_moment s now) wanted (fitting (at_moment s now) wanted)
new_decides s now wanted new =
    new_is (at_moment s now) wanted (there_later s now wanted ∙ new_found s wanted new)

allowed_decides : (s : State) (now : ℕ) (wanted : ImageWanted) → IsNew s wanted → IsAllowedToOne s now wanted →
    setting_of (at_moment s now) wanted ≡ room_for (at_moment s now) wanted
allowed_decides s now wanted new one =
    new_decides s now wanted new
    ∙ allowed_is (at_moment s now) wanted (fitting (at_moment s now) wanted) (any_allowed s now wanted one)

none_fit : (s : State) (now : ℕ) (wanted : ImageWanted) → FitsNone s now wanted → fitting (at_moment s now) wanted ≡ []
unfolding at_moment
none_fit s now wanted none = none_pass (fits (new_image (at_moment s now) wanted)) s.streams.subscriptions none

-- the first that it fits is the one of the lowest number
first_is : (s : State) (now : ℕ) (wanted : ImageWanted) (verdict : Verdict) (all : IsDeniedToAll s now wanted verdict)
    (first : Subscription) (others : List Subscription) → AreRising s →
    fitting (at_moment s now) wanted ≡ first ∷ others → first ≡ all.first
unfolding at_moment
first_is s now wanted verdict all first others rises is =
    let log : LogRow = new_image (at_moment s now) wanted in
    let rows : List Subscription = filter (fits log) s.streams.subscriptions in
    let has : Contains rows first = rw is (first_there first others) in
    let stands : Contains s.streams.subscriptions first = left_was_there (fits log) s.streams.subscriptions first has in
    let up : Rises (λ (row : Subscription). row.number) 0 s.last_number (first ∷ others) =
    subst (Rises (λ (row : Subscription). row.number) 0 s.last_number) is
    (rises_kept (λ (row : Subscription). row.number) (fits log) 0 s.last_number s.streams.subscriptions rises.subscriptions) in
    let low : first.number ≤ all.first.number =
    is_lowest s.last_number first others all.first up
    (subst (λ (all' : List Subscription). Contains all' all.first) is
    (passes_are_left (fits log) s.streams.subscriptions all.first all.fitting all.stands)) in
    let high : all.first.number ≤ first.number =
    all.lowest first stands (passes_test (fits log) s.streams.subscriptions first has) in
    rises_unique (λ (row : Subscription). row.number) 0 s.last_number s.streams.subscriptions first all.first
    rises.subscriptions stands all.stands (omega (arith, low, high))

denied_found : (s : State) (now : ℕ) (wanted : ImageWanted) (verdict : Verdict) → AreRising s → HaveTheirClients s →
    (all : IsDeniedToAll s now wanted verdict) → (rows : List Subscription) → fitting (at_moment s now) wanted ≡ rows →
    allowed_for (at_moment s now) wanted rows ≡ Err (Denied verdict)
denied_found s now wanted verdict rises owned all [] is =
    both_ways _ all.fitting (fits_none s now wanted is all.first all.stands)
denied_found s now wanted verdict rises owned all (first ∷ others) is =
    let same : first ≡ all.first = first_is s now wanted verdict all first others rises is in
    let attached = subst (λ (row : Subscription). principal_at s.clients.rows row.client ≡ Some all.principal) (sym same)
    all.attached in
    let told : verdict_for (at_moment s now) first ≡ verdict =
    verdict_of_first s now first all.principal attached
    ∙ ap (λ (row : Subscription). verdict_on s (image_question all.principal row)) same ∙ sym all.verdict_is in
    denied_is_told (at_moment s now) wanted first others (rw is at (none_allowed s now wanted verdict owned all))
    ∙ ap (λ (v : Verdict). Err (Denied v)) told

cause_decides : (s : State) (now : ℕ) (wanted : ImageWanted) (fault : SetupFault) → AreRising s → HaveTheirClients s →
    IsCause s now wanted fault → setting_of (at_moment s now) wanted ≡ Err fault
cause_decides s now wanted BadSetup rises owned cause = absurd cause
cause_decides s now wanted Exists rises owned cause =
    there_decides (at_moment s now) wanted (there_later s now wanted ∙ there_found s wanted cause)
cause_decides s now wanted NoSubscription rises owned cause =
    new_decides s now wanted cause.0 ∙ ap (allowed_for (at_moment s now) wanted) (none_fit s now wanted cause.1)
cause_decides s now wanted (Denied verdict) rises owned cause =
    new_decides s now wanted cause.0 ∙ denied_found s now wanted verdict rises owned cause.1 _ refl
cause_decides s now wanted Full rises owned cause =
    allowed_decides s now wanted cause.0 cause.1.0
    ∙ full_is (at_moment s now) wanted (room_lacks s now wanted cause.1.1)
cause_decides s now wanted NoRoom rises owned cause =
    allowed_decides s now wanted cause.0 cause.1.0
    ∙ placed_is (at_moment s now) wanted None (room_found s now wanted cause.1.1.0)
    (no_place s now wanted cause.1.1.1 (place_of_image (at_moment s now) wanted) refl)

coming_decides : (s : State) (now : ℕ) (wanted : ImageWanted) (place : ℕ) → MayCome s now wanted place →
    setting_of (at_moment s now) wanted ≡ Ok place
coming_decides s now wanted place may =
    allowed_decides s now wanted may.new may.allowed
    ∙ placed_is (at_moment s now) wanted (Some place) (room_found s now wanted may.room)
    (least_place s now wanted place may (place_of_image (at_moment s now) wanted) refl)

-- ---- exactly so

set_by_rule : (before s : State) → AreRising s → HaveTheirClients s → (now : ℕ) (local from : Address)
    (setup : SetupFrame) (inputs : Inputs) →
    IsSetExactly before s now local from setup inputs (
    dropping before (renewed before inputs (set_up (at_moment s now) local from setup)))
set_by_rule before s rises owned now local from setup inputs = record {
  bad = λ is. rw (bad_is (at_moment s now) local from setup is) (dropped_change before s now inputs BadSetup);
  made = λ join place is may.
      let set = coming_decides s now (wanted_by local from setup join) place may in
      rw (set_is (at_moment s now) local from setup join (Ok place) is set)
      (image_change before s now inputs (wanted_by local from setup join) place set);
  dropped = λ join fault is cause.
      let set = cause_decides s now (wanted_by local from setup join) fault rises owned cause in
      rw (set_is (at_moment s now) local from setup join (Err fault) is set) (dropped_change before s now inputs fault);
  decided = λ join is. decided_at s now (wanted_by local from setup join) rises owned;
}

pub set_exactly : (s : State) → AreRising s → HaveTheirClients s → (now : ℕ) (local from : Address)
    (setup : SetupFrame) (inputs : Inputs) →
    IsSetExactly s (ruled s now) now local from setup inputs (conduct s (Setup now local from setup) inputs)
unfolding conduct drafted
set_exactly s rises owned now local from setup inputs =
    set_by_rule s (ruled s now) (rising_at s now rises) (owned_at s now owned) now local from setup inputs
