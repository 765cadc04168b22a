-- A SETUP makes an image exactly where the policy in force allows it to some subscription and there is room, and is dropped
-- otherwise.
use Rattle.std.proofs.Common.{◌≡◌, ℕ, ◌≤◌, ◌==◌, ◌||◌, Bool, true, false, not, cond, List, [], ◌∷◌, filter, Option, Some, None, Result, Ok, Err, is_some, refl, sym, subst, ap, ◌∙◌, ⊎_elim, arith}
use Rattle.std.specs.Prelude.{unwrap_or}
use Rattle.std.specs.List.{Contains, list_any}
use Rattle.std.specs.Option.{option_map}
use Rattle.std.proofs.lemmas.Bool.{cases_Bool, cond_both}
use Rattle.std.proofs.lemmas.List.{append-nil}
use Rattle.std.proofs.lemmas.List.Elements.{Contains-append_cases, Contains-push}
use Rattle.driver_core.specs.declared.state.event.Inputs.{Inputs}
use Rattle.driver_core.specs.declared.state.outcome.Response.TheVariants.{Dropped}
use Rattle.driver_core.specs.declared.state.setup_fault.SetupFault.{SetupFault}
use Rattle.driver_core.specs.declared.state.setup_fault.SetupFault.TheVariants.{BadSetup, Denied}
use Rattle.driver_core.specs.Draft.{answered}
use Rattle.driver_core.specs.Pairs.{pairs_of}
use Rattle.driver_core.specs.Renewal.{renewed}
use Rattle.driver_core.specs.SettingUp.{allowed_for, fitting, has_room_for_setup, image_made, new_image, place_of_image, placing, room_for, set_by, set_up, set_up_by, setting_of, verdict_for, wanted_by, with_image}
use Rattle.driver_core.specs.State.{State, at_moment}
use Rattle.driver_core.specs.Unread.{dropping, without_unread}
use Rattle.driver_core.specs.Verdicts.{verdict_on}
use Rattle.driver_laws.specs.NumberLaws.{AreRising, Rises}
use Rattle.driver_laws.specs.OwnerLaws.{HaveTheirClients}
use Rattle.driver_laws.specs.SettingLaws.{IsAllowedToOne, IsDeniedToAll, IsDropped, IsImaged}
use Rattle.channel_uri.specs.declared.address.Address.{Address}
use Rattle.client_registry.specs.declared.client.Client.{Client}
use Rattle.client_registry.specs.Clients.{client_at, principal_at}
use Rattle.frame_codec.specs.declared.join.Join.{Join}
use Rattle.frame_codec.specs.declared.setup.Setup.{Setup as SetupFrame}
use Rattle.frame_codec.specs.Join.{join_of}
use Rattle.log_readers.specs.Unread.{is_kept, without_unread as without_unread_in}
use Rattle.policy_core.specs.declared.verdict.Verdict.{Verdict}
use Rattle.stream_registry.specs.declared.row.LogRow.{LogRow}
use Rattle.stream_registry.specs.declared.row.Subscription.{Subscription}
use Rattle.stream_registry.specs.declared.wanted.ImageWanted.{ImageWanted}
use Rattle.stream_registry.specs.Images.{image_at}
use Rattle.stream_registry.specs.Pairs.{fits, image_question, is_allowed, is_allowed_to}
use Rattle.driver_core.proofs.ListLemmas.{left_was_there, only_one, passes_are_left}
use Rattle.driver_core.proofs.SettingLemmas.{image_is_kept, is_set, place_is_set}
use Rattle.driver_core.proofs.VerdictLemmas.{by_policy}
use Rattle.driver_laws.proofs.DroppingLemmas.{Found, first_there, found_of, is_any, passes_test}
use Rattle.driver_laws.proofs.ImageLemmas.{allowed_to}
use Rattle.driver_laws.proofs.RisingLemmas.{between, rises_kept}
use Rattle.driver_laws.proofs.TurningLemmas.{turns_to}

-- ---- what the SETUP comes to

pub bad_is : (s : State) (local from : Address) (setup : SetupFrame) → join_of setup ≡ None →
    set_up s local from setup ≡ answered s (Dropped BadSetup)
unfolding set_up
bad_is s local from setup is = ap (set_up_by s local from setup) is

pub set_is : (s : State) (local from : Address) (setup : SetupFrame) (join : Join) (found : Result ℕ SetupFault) →
    join_of setup ≡ Some join → setting_of s (wanted_by local from setup join) ≡ found →
    set_up s local from setup ≡ set_by s (wanted_by local from setup join) found
unfolding set_up
set_is s local from setup join found is set =
    ap (set_up_by s local from setup) is ∙ ap (set_by s (wanted_by local from setup join)) set

-- ---- it is dropped

moment_pairs : (s : State) (now : ℕ) → pairs_of (at_moment s now) ≡ pairs_of s
unfolding at_moment pairs_of
moment_pairs s now = refl

pub dropped_change : (before s : State) (now : ℕ) (inputs : Inputs) (fault : SetupFault) →
    IsDropped before s now inputs fault (
    dropping before (renewed before inputs (answered (at_moment s now) (Dropped fault))))
unfolding dropping renewed answered
dropped_change before s now inputs fault = record {
  after_is = refl;
  response = refl;
  turns = turns_to before inputs (answered (at_moment s now) (Dropped fault)) s refl (moment_pairs s now);
  replies = append-nil _;
  decisions = refl;
  opens = refl;
}

-- ---- it is denied

room_never_denies : (s : State) (wanted : ImageWanted) (verdict : Verdict) → room_for s wanted ≡ Err (Denied verdict) → ⊥
unfolding room_for
room_never_denies s wanted verdict =
    cond_both (not (has_room_for_setup s wanted)) _ _
    (λ (answer : Result ℕ SetupFault). answer ≡ Err (Denied verdict) → ⊥)
    (λ full is. absurd (cc is))
    (λ room is. never (place_of_image s wanted) is)
  where
    never : (found : Option ℕ) → placing found ≡ Err (Denied verdict) → ⊥
    never None is = absurd (cc is)
    never (Some place) is = absurd (cc is)

-- the first that it fits, and none to which it is allowed
pub record IsDeniedIn (s : State) (verdict : Verdict) (rows : List Subscription) : Type 0 where
  pub first : Subscription
  pub others : List Subscription
  pub rows_are : rows ≡ first ∷ others
  pub verdict_is : verdict ≡ verdict_for s first
  pub denies : list_any (is_allowed s.clients.rows s.policy s.epoch) rows ≡ false

denied_in : (s : State) (wanted : ImageWanted) (verdict : Verdict) (rows : List Subscription) →
    allowed_for s wanted rows ≡ Err (Denied verdict) → IsDeniedIn s verdict rows
denied_in s wanted verdict [] = λ is. absurd (cc is)
denied_in s wanted verdict (first ∷ others) =
    cond_both (list_any (is_allowed s.clients.rows s.policy s.epoch) (first ∷ others)) _ _
    (λ (answer : Result ℕ SetupFault). answer ≡ Err (Denied verdict) → IsDeniedIn s verdict (first ∷ others))
    (λ allows is. absurd (room_never_denies s wanted verdict is))
    (λ denies is.
    record { first = first; others = others; rows_are = refl; verdict_is = cc is; denies = denies })

pub denied_is : (s : State) (wanted : ImageWanted) (verdict : Verdict) → setting_of s wanted ≡ Err (Denied verdict) →
    IsDeniedIn s verdict (fitting s wanted)
unfolding setting_of
denied_is s wanted verdict =
    cond_both (is_some (image_at s.streams wanted.channel wanted.session wanted.stream)) _ _
    (λ (answer : Result ℕ SetupFault). answer ≡ Err (Denied verdict) → IsDeniedIn s verdict (fitting s wanted))
    (λ exists is. absurd (cc is))
    (λ new is. denied_in s wanted verdict (fitting s wanted) is)

-- the first of rising rows has the lowest number
pub is_lowest : (last : ℕ) (first : Subscription) (others : List Subscription) (other : Subscription) →
    Rises (λ (row : Subscription). row.number) 0 last (first ∷ others) → Contains (first ∷ others) other →
    first.number ≤ other.number
is_lowest last first others other up has =
    ⊎_elim
    (λ one.
    let same : first.number ≡ other.number = ap (λ (row : Subscription). row.number) (only_one first other one) in
    omega (arith, same))
    (λ later.
    let above = (between (λ (row : Subscription). row.number) first.number last others other up.1 later).0 in
    omega (arith, above))
    (Contains-append_cases (first ∷ []) others other has)

-- whose subscription it is acts for somebody
one_found : (b : Bool) (row : Client) (rest : Option Client) (later : Bool) →
    (later ≡ true → (of : ℕ) × (option_map (λ (client : Client). client.principal) rest ≡ Some of)) → (b || later) ≡ true →
    (of : ℕ) × (option_map (λ (client : Client). client.principal) (cond b (Some row) rest) ≡ Some of)
one_found true row rest later more there = (row.principal, refl)
one_found false row rest later more there = more there

pub acts_for : (rows : List Client) (number : ℕ) → list_any (λ (row : Client). row.number == number) rows ≡ true →
    (of : ℕ) × (principal_at rows number ≡ Some of)
acts_for [] number there = absurd (cc there)
acts_for (row ∷ rows) number there =
    one_found (row.number == number) row (client_at rows number) _ (acts_for rows number) there

pub verdict_of_first : (s : State) (now : ℕ) (row : Subscription) (of : ℕ) →
    principal_at s.clients.rows row.client ≡ Some of →
    verdict_for (at_moment s now) row ≡ verdict_on s (image_question of row)
unfolding at_moment
verdict_of_first s now row of acting = rw acting refl

pub denied_to : (s : State) (now : ℕ) (wanted : ImageWanted) (verdict : Verdict) → AreRising s → HaveTheirClients s →
    IsDeniedIn (at_moment s now) verdict (fitting (at_moment s now) wanted) → IsDeniedToAll s now wanted verdict
unfolding at_moment is_allowed
denied_to s now wanted verdict rises owned denied =
    let log : LogRow = new_image (at_moment s now) wanted in
    let rows : List Subscription = fitting (at_moment s now) wanted in
    let first : Subscription = denied.first in
    let has : Contains rows first = rw denied.rows_are (first_there first denied.others) in
    let stands : Contains s.streams.subscriptions first = left_was_there (fits log) s.streams.subscriptions first has in
    let acts = acts_for s.clients.rows first.client (owned.subscriptions first stands) in
    let is : verdict ≡ verdict_on s (image_question acts.0 first) =
    denied.verdict_is ∙ verdict_of_first s now first acts.0 acts.1 in
    let up : Rises (λ (row : Subscription). row.number) 0 s.last_number (first ∷ denied.others) =
    subst (Rises (λ (row : Subscription). row.number) 0 s.last_number) denied.rows_are
    (rises_kept (λ (row : Subscription). row.number) (fits log) 0 s.last_number s.streams.subscriptions rises.subscriptions) in
    record {
      first = first;
      principal = acts.0;
      stands = stands;
      fitting = passes_test (fits log) s.streams.subscriptions first has;
      lowest = λ other there fitting.
          is_lowest s.last_number first denied.others other up
          (subst (λ (all : List Subscription). Contains all other) denied.rows_are
          (passes_are_left (fits log) s.streams.subscriptions other fitting there));
      attached = acts.1;
      by = rw is (by_policy s (image_question acts.0 first));
      verdict_is = is;
      denies = λ other of there fitting attached.
          sym (ap (is_allowed_to s.policy s.epoch other) attached)
          ∙ each_denied (is_allowed s.clients.rows s.policy s.epoch) rows other
          (passes_are_left (fits log) s.streams.subscriptions other fitting there) denied.denies;
    }
  where
    each_denied : (test : Subscription → Bool) (all : List Subscription) (row : Subscription) → Contains all row →
        list_any test all ≡ false → test row ≡ false
    each_denied test all row there none =
        ⊎_elim
        (λ passes.
        let never : false ≡ true = sym none ∙ is_any test all row there passes in
        absurd (cc never))
        (λ fails. fails)
        (cases_Bool (test row))

-- ---- an image is made

pub found_one : (s : State) (now : ℕ) (wanted : ImageWanted) →
    list_any (is_allowed (at_moment s now).clients.rows (at_moment s now).policy (at_moment s now).epoch)
    (fitting (at_moment s now) wanted)
    ≡ true →
    IsAllowedToOne s now wanted
unfolding at_moment is_allowed
found_one s now wanted any =
    let log : LogRow = new_image (at_moment s now) wanted in
    let found : Found (is_allowed s.clients.rows s.policy s.epoch) (filter (fits log) s.streams.subscriptions) =
    found_of (is_allowed s.clients.rows s.policy s.epoch) (filter (fits log) s.streams.subscriptions) any in
    let allowed = allowed_to s.policy s.epoch found.one (principal_at s.clients.rows found.one.client) found.passes in
    record {
      subscription = found.one;
      principal = allowed.principal;
      stands = left_was_there (fits log) s.streams.subscriptions found.one found.there;
      fitting = passes_test (fits log) s.streams.subscriptions found.one found.there;
      attached = allowed.attached;
      by = by_policy s (image_question allowed.principal found.one);
      allowed = allowed.allows;
    }

allowed_one : (s : State) (now : ℕ) (wanted : ImageWanted) (place : ℕ) → setting_of (at_moment s now) wanted ≡ Ok place →
    IsAllowedToOne s now wanted
allowed_one s now wanted place set = found_one s now wanted (is_set (at_moment s now) wanted place set).allowed

image_place : (s : State) (wanted : ImageWanted) (place : ℕ) → setting_of s wanted ≡ Ok place →
    (new_image s wanted).place ≡ place
image_place s wanted place set = ap (λ (found : Option ℕ). unwrap_or found 0) (place_is_set s wanted place set)

image_is_last : (s : State) (wanted : ImageWanted) → Contains (with_image s wanted).streams.sources (new_image s wanted)
unfolding with_image
image_is_last s wanted = Contains-push s.streams.sources (new_image s wanted)

-- some subscription reads it, so that it is not among those that close
image_stays : (s : State) (wanted : ImageWanted) (place : ℕ) → setting_of s wanted ≡ Ok place →
    Contains (without_unread (with_image s wanted)).streams.sources (new_image s wanted)
unfolding without_unread without_unread_in pairs_of
image_stays s wanted place set =
    passes_are_left (is_kept (pairs_of (with_image s wanted))) (with_image s wanted).streams.sources (new_image s wanted)
    (image_is_kept s wanted place set) (image_is_last s wanted)

imaged : (before s : State) (now : ℕ) (inputs : Inputs) (wanted : ImageWanted) (place : ℕ) →
    setting_of (at_moment s now) wanted ≡ Ok place →
    (new_image (at_moment s now) wanted).place ≡ place → IsAllowedToOne s now wanted →
    IsImaged before s now inputs wanted place (
    dropping before (renewed before inputs (image_made (at_moment s now) wanted place)))
unfolding dropping renewed image_made answered at_moment
imaged before s now inputs wanted place set placed allowed = record {
  after_is = refl;
  response = refl;
  opens = refl;
  placed = placed;
  live = image_stays (at_moment s now) wanted place set;
  allowed = allowed;
  turns = turns_to before inputs (image_made (at_moment s now) wanted place) (with_image (at_moment s now) wanted) refl refl;
  replies = append-nil _;
  decisions = refl;
}

pub image_change : (before s : State) (now : ℕ) (inputs : Inputs) (wanted : ImageWanted) (place : ℕ) →
    setting_of (at_moment s now) wanted ≡ Ok place →
    IsImaged before s now inputs wanted place (
    dropping before (renewed before inputs (image_made (at_moment s now) wanted place)))
image_change before s now inputs wanted place set =
    imaged before s now inputs wanted place set (image_place (at_moment s now) wanted place set)
    (allowed_one s now wanted place set)
