-- Which SETUP makes an image, where its log goes, and that the image is read.
use Rattle.std.proofs.Common.{◌≡◌, ℕ, ◌==◌, Bool, true, false, not, ◌&&◌, cond, List, [], ◌∷◌, ◌++◌, map, filter, Option, Some, None, Result, Ok, Err, is_some, if◌then◌else◌, zero, suc, ◌<◌, length, drop, get_or, arith, refl, sym, ap, ◌∙◌, eq-eqb}
use Rattle.std.specs.Prelude.{◌||◌, is_none}
use Rattle.std.specs.List.{flat_map, list_any}
use Rattle.std.proofs.lemmas.Bool.{cond_both, not-false}
use Rattle.std.proofs.lemmas.List.Elements.{filter_agree}
use Rattle.driver_core.specs.declared.state.setup_fault.SetupFault.{SetupFault}
use Rattle.driver_core.specs.declared.state.setup_fault.SetupFault.TheVariants.{Denied}
use Rattle.driver_core.specs.Pairs.{is_within_pairs, pairs_of}
use Rattle.driver_core.specs.SettingUp.{allowed_for, fitting, has_room_for_setup, is_within_source, new_image, place_of_image, placing, room_for, setting_of, verdict_for, verdict_to, with_image}
use Rattle.driver_core.specs.State.{State, has_number}
use Rattle.client_registry.specs.Clients.{principal_at}
use Rattle.log_readers.specs.Unread.{is_kept, is_of_source}
use Rattle.policy_core.specs.declared.verdict.Verdict.{Verdict}
use Rattle.stream_registry.specs.declared.pairs.Pair.{Pair}
use Rattle.stream_registry.specs.declared.row.LogRow.{LogRow}
use Rattle.stream_registry.specs.declared.row.Subscription.{Subscription}
use Rattle.stream_registry.specs.declared.wanted.ImageWanted.{ImageWanted}
use Rattle.stream_registry.specs.Images.{has_room_for_image, image_at, image_of}
use Rattle.stream_registry.specs.Pairs.{fits, is_allowed, is_allowed_to, is_pair, pair_of, pairs_at, pairs_of as pairs_on, reaches}

-- why the image is made, at that place
pub record IsSet (s : State) (wanted : ImageWanted) (place : ℕ) : Type 0 where
  pub new : is_some (image_at s.streams wanted.channel wanted.session wanted.stream) ≡ false
  pub allowed : list_any (is_allowed s.clients.rows s.policy s.epoch) (fitting s wanted) ≡ true
  pub room : has_room_for_setup s wanted ≡ true
  pub placed : place_of_image s wanted ≡ Some place

placing_is : (found : Option ℕ) (place : ℕ) → placing found ≡ Ok place → found ≡ Some place
placing_is None place is = absurd (cc)
placing_is (Some there) place is = cc

room_is : (s : State) (wanted : ImageWanted) (place : ℕ) → room_for s wanted ≡ Ok place →
    (has_room_for_setup s wanted ≡ true) × (place_of_image s wanted ≡ Some place)
unfolding room_for
room_is s wanted place =
    let room : Bool = has_room_for_setup s wanted in
    cond_both (not room) _ _
    (λ (answer : Result ℕ SetupFault). answer ≡ Ok place → (room ≡ true) × (place_of_image s wanted ≡ Some place))
    (λ lacks is. absurd (cc))
    (λ has is. (not-false room has, placing_is (place_of_image s wanted) place is))

allowed_is : (s : State) (wanted : ImageWanted) (place : ℕ) (rows : List Subscription) →
    allowed_for s wanted rows ≡ Ok place →
    (list_any (is_allowed s.clients.rows s.policy s.epoch) rows ≡ true) × (room_for s wanted ≡ Ok place)
allowed_is s wanted place [] = λ is. absurd (cc)
allowed_is s wanted place (first ∷ others) =
    let allowed : Bool = list_any (is_allowed s.clients.rows s.policy s.epoch) (first ∷ others) in
    cond_both allowed _ _
    (λ (answer : Result ℕ SetupFault). answer ≡ Ok place → (allowed ≡ true) × (room_for s wanted ≡ Ok place))
    (λ allows is. (allows, is))
    (λ denies is. absurd (cc))

pub is_set : (s : State) (wanted : ImageWanted) (place : ℕ) → setting_of s wanted ≡ Ok place → IsSet s wanted place
unfolding setting_of
is_set s wanted place =
    let there : Bool = is_some (image_at s.streams wanted.channel wanted.session wanted.stream) in
    cond_both there _ _ (λ (answer : Result ℕ SetupFault). answer ≡ Ok place → IsSet s wanted place)
    (λ exists is. absurd (cc))
    (λ none is.
    let allowed = allowed_is s wanted place (fitting s wanted) is in
    let room = room_is s wanted place allowed.1 in
    record { new = none; allowed = allowed.0; room = room.0; placed = room.1 })

-- ---- a pair of it comes

any_behind : (source : ℕ) (first second : List Pair) → list_any (is_of_source source) second ≡ true →
    list_any (is_of_source source) (first ++ second) ≡ true
any_behind source [] second has = has
any_behind source (pair ∷ first) second has =
    ap (λ (b : Bool). (pair.source == source) || b) (any_behind source first second has) ∙ or_true (pair.source == source)
  where
    or_true : (b : Bool) → (b || true) ≡ true
    or_true true = refl
    or_true false = refl

one_or_rest : (b c d : Bool) → (c ≡ true → d ≡ true) → (b || c) ≡ true → (b || d) ≡ true
one_or_rest true c d more has = refl
one_or_rest false c d more has = more has

any_before : (source : ℕ) (first second : List Pair) → list_any (is_of_source source) first ≡ true →
    list_any (is_of_source source) (first ++ second) ≡ true
any_before source [] second has = absurd (cc)
any_before source (pair ∷ first) second has =
    one_or_rest (pair.source == source) (list_any (is_of_source source) first) (list_any (is_of_source source) (first ++ second))
    (any_before source first second) has

module _ (s : State) (log : LogRow) where
  abbrev reading : List Subscription → List Subscription
  reading rows = filter (is_pair s.clients.rows s.policy s.epoch log) rows

  one_read : (b c rest : Bool) (row : Subscription) (rows : List Subscription) →
      is_allowed s.clients.rows s.policy s.epoch row ≡ c →
      (list_any (is_allowed s.clients.rows s.policy s.epoch) rows ≡ true → rest ≡ true) → (read : List Subscription) →
      list_any (is_of_source log.number) (map (pair_of log) read) ≡ rest →
      list_any (is_allowed s.clients.rows s.policy s.epoch) (cond b (row ∷ rows) rows) ≡ true →
      list_any (is_of_source log.number) (map (pair_of log) (cond (b && c) (row ∷ read) read)) ≡ true
  one_read true true rest row rows allow more read is has = rw (eq-eqb log.number log.number refl) refl
  one_read true false rest row rows allow more read is has =
      is ∙ more (sym (ap (λ (d : Bool). d || list_any (is_allowed s.clients.rows s.policy s.epoch) rows) allow) ∙ has)
  one_read false c rest row rows allow more read is has = is ∙ more has

  is_read : (rows : List Subscription) →
      list_any (is_allowed s.clients.rows s.policy s.epoch) (filter (fits log) rows) ≡ true →
      list_any (is_of_source log.number) (map (pair_of log) (filter (is_pair s.clients.rows s.policy s.epoch log) rows)) ≡ true
  is_read [] has = absurd (cc)
  is_read (row ∷ rows) has =
      one_read (fits log row) (is_allowed s.clients.rows s.policy s.epoch row)
      (list_any (is_of_source log.number) (map (pair_of log) (reading rows))) row (filter (fits log) rows) refl (is_read rows)
      (reading rows) refl has

  any_of_last : (logs : List LogRow) →
      list_any (is_of_source log.number) (pairs_at s.clients.rows s.policy s.epoch s.streams.subscriptions log) ≡ true →
      list_any (is_of_source log.number)
      (flat_map (pairs_at s.clients.rows s.policy s.epoch s.streams.subscriptions) (logs ++ log ∷ []))
      ≡ true
  any_of_last [] has = any_before log.number _ [] has
  any_of_last (one ∷ logs) has =
      any_behind log.number (pairs_at s.clients.rows s.policy s.epoch s.streams.subscriptions one) _ (any_of_last logs has)

-- the image is read
pub image_is_kept : (s : State) (wanted : ImageWanted) (place : ℕ) → setting_of s wanted ≡ Ok place →
    is_kept (pairs_of (with_image s wanted)) (new_image s wanted) ≡ true
unfolding pairs_of pairs_on with_image
image_is_kept s wanted place set =
    let log : LogRow = new_image s wanted in
    let read = any_of_last s log s.streams.sources (is_read s log s.streams.subscriptions (is_set s wanted place set).allowed) in
    ap (λ (b : Bool). not (not b)) read

both_parts : (b c : Bool) → (b && c) ≡ true → (b ≡ true) × (c ≡ true)
both_parts true true is = (refl, refl)
both_parts true false is = absurd (cc)
both_parts false c is = absurd (cc)

-- there is room for it in the list, and a number
pub has_its_room : (s : State) (wanted : ImageWanted) (place : ℕ) → setting_of s wanted ≡ Ok place →
    (has_room_for_image s.streams ≡ true) × (has_number s ≡ true)
has_its_room s wanted place set =
    let room = both_parts (has_room_for_image s.streams) _ (is_set s wanted place set).room in
    let source = both_parts (is_within_source s wanted) (has_number s && is_within_pairs (with_image s wanted)) room.1 in
    (room.0, (both_parts (has_number s) (is_within_pairs (with_image s wanted)) source.1).0)

-- its log goes there
pub place_is_set : (s : State) (wanted : ImageWanted) (place : ℕ) → setting_of s wanted ≡ Ok place →
    place_of_image s wanted ≡ Some place
place_is_set s wanted place set = (is_set s wanted place set).placed

-- ---- one subscription after another

-- the subscription at this place, where it passes, and then those behind it
pub passing_step : (test : Subscription → Bool) (rows : List Subscription) (i : ℕ) (row : Subscription) → i < length rows →
    row ≡ get_or rows i row →
    filter test (drop i rows) ≡ cond (test row) (row ∷ filter test (drop (suc i) rows)) (filter test (drop (suc i) rows))
passing_step test [] i row below is = absurd (omega (arith, below))
passing_step test (first ∷ rows) zero row below is = rw is refl
passing_step test (first ∷ rows) (suc i) row below is = passing_step test rows i row (omega (arith, below)) is

-- what is answered where the verdict for the first that it fits was this denial, if there was one, and these are left
abbrev pub allowed_by : State → ImageWanted → Option Verdict → List Subscription → Result ℕ SetupFault
allowed_by s wanted None rows = allowed_for s wanted rows
allowed_by s wanted (Some verdict) rows =
    if list_any (is_allowed s.clients.rows s.policy s.epoch) rows then room_for s wanted else Err (Denied verdict)

allow_by : (s : State) (row : Subscription) (principal : Option ℕ) →
    (verdict_to s row principal).allow ≡ is_allowed_to s.policy s.epoch row principal
allow_by s row None = refl
allow_by s row (Some principal) = refl

pub allow_is : (s : State) (row : Subscription) →
    (verdict_for s row).allow ≡ is_allowed s.clients.rows s.policy s.epoch row
unfolding is_allowed
allow_is s row = allow_by s row (principal_at s.clients.rows row.client)

-- neither number nor place says what an image fits
pub fits_alike : (s : State) (wanted : ImageWanted) (row : Subscription) →
    fits (image_of s.streams 0 wanted 0) row ≡ fits (new_image s wanted) row
unfolding fits reaches
fits_alike s wanted row = refl

pub fitting_alike : (s : State) (wanted : ImageWanted) (rows : List Subscription) →
    filter (fits (image_of s.streams 0 wanted 0)) rows ≡ filter (fits (new_image s wanted)) rows
fitting_alike s wanted rows =
    filter_agree (fits (image_of s.streams 0 wanted 0)) (fits (new_image s wanted)) (fits_alike s wanted) rows

-- one that is allowed decides
pub allowed_now : (s : State) (wanted : ImageWanted) (found : Option Verdict) (row : Subscription) (rows : List Subscription) →
    is_allowed s.clients.rows s.policy s.epoch row ≡ true → allowed_by s wanted found (row ∷ rows) ≡ room_for s wanted
allowed_now s wanted None row rows allow = rw allow refl
allowed_now s wanted (Some verdict) row rows allow = rw allow refl

-- one that is denied is told where it is the first
denied_first : (s : State) (wanted : ImageWanted) (row : Subscription) (rows : List Subscription) →
    is_allowed s.clients.rows s.policy s.epoch row ≡ false →
    allowed_by s wanted None (row ∷ rows) ≡ allowed_by s wanted (Some (verdict_for s row)) rows
denied_first s wanted row rows allow = rw allow refl

denied_later : (s : State) (wanted : ImageWanted) (verdict : Verdict) (row : Subscription) (rows : List Subscription) →
    is_allowed s.clients.rows s.policy s.epoch row ≡ false →
    allowed_by s wanted (Some verdict) (row ∷ rows) ≡ allowed_by s wanted (Some verdict) rows
denied_later s wanted verdict row rows allow = rw allow refl

pub denied_none : (s : State) (wanted : ImageWanted) (found : Option Verdict) (row : Subscription) (rows : List Subscription) →
    is_none found ≡ true → is_allowed s.clients.rows s.policy s.epoch row ≡ false →
    allowed_by s wanted found (row ∷ rows) ≡ allowed_by s wanted (Some (verdict_for s row)) rows
denied_none s wanted None row rows none denies = denied_first s wanted row rows denies
denied_none s wanted (Some verdict) row rows none denies = absurd (cc)

pub denied_some : (s : State) (wanted : ImageWanted) (found : Option Verdict) (row : Subscription) (rows : List Subscription) →
    is_none found ≡ false → is_allowed s.clients.rows s.policy s.epoch row ≡ false →
    allowed_by s wanted found (row ∷ rows) ≡ allowed_by s wanted found rows
denied_some s wanted None row rows some denies = absurd (cc)
denied_some s wanted (Some verdict) row rows some denies = denied_later s wanted verdict row rows denies
