-- A SETUP that makes an image brings the image's pairs alone, and one that is dropped brings none.
use Rattle.std.proofs.Common.{arith, ◌≡◌, ℕ, ◌+◌, List, [], ◌∷◌, get_or, Some, None, Result, Ok, Err, is_some, if◌then◌else◌, refl, ap, ◌∙◌}
use Rattle.std.proofs.lemmas.List.Elements.{All-filter}
use Rattle.std.specs.Prelude.{unwrap_or}
use Rattle.driver_core.specs.declared.state.event.Inputs.{Inputs}
use Rattle.driver_core.specs.declared.state.outcome.Response.TheVariants.{Dropped, Imaged}
use Rattle.driver_core.specs.declared.state.setup_fault.SetupFault.{SetupFault}
use Rattle.driver_core.specs.declared.state.setup_fault.SetupFault.TheVariants.{BadSetup, Exists}
use Rattle.driver_core.specs.Draft.{answered}
use Rattle.driver_core.specs.Pairs.{is_within_pairs, pairs_of, prospects_of}
use Rattle.driver_core.specs.Renewal.{available_for, available_from, decided_from, decided_on, outcome_by, outcome_kept, outcome_opening, reading}
use Rattle.driver_core.specs.SettingUp.{allowed_for, fitting, image_made, new_image, place_of_image, room_for, set_by, set_up, set_up_by, setting_of, wanted_by, with_image}
use Rattle.driver_core.specs.State.{State, at_moment, has_number}
use Rattle.driver_core.specs.Report.{tells_answer}
use Rattle.driver_core.proofs.ComingLemmas.{found_last}
use Rattle.driver_core.proofs.OpeningLemmas.{Opens, available_alike, by_parts, decisions_alike, found_each, told_alike}
use Rattle.driver_core.proofs.PairLemmas.{kept}
use Rattle.channel_uri.specs.declared.address.Address.{Address}
use Rattle.frame_codec.specs.declared.join.Join.{Join}
use Rattle.frame_codec.specs.declared.setup.Setup.{Setup}
use Rattle.frame_codec.specs.Join.{join_of}
use Rattle.log_readers.specs.Numbering.{AreInOrder, number_of, source_of}
use Rattle.log_readers.proofs.TurnoverLemmas.{imaged_turnover}
use Rattle.stream_registry.specs.declared.row.LogRow.{LogRow}
use Rattle.stream_registry.specs.declared.row.Subscription.{Subscription}
use Rattle.stream_registry.specs.declared.wanted.ImageWanted.{ImageWanted}
use Rattle.stream_registry.specs.Images.{image_at}
use Rattle.stream_registry.specs.Lingering.{place_of}
use Rattle.stream_registry.specs.Pairs.{is_pair, pair_of}

-- ---- moments are nothing to it

allowed_later : (s : State) (now : ℕ) (wanted : ImageWanted) (rows : List Subscription) →
    allowed_for (at_moment s now) wanted rows ≡ allowed_for s wanted rows
unfolding room_for is_within_pairs with_image at_moment prospects_of has_number
allowed_later s now wanted [] = refl
allowed_later s now wanted (first ∷ others) = refl

abbrev setting_by : State → ImageWanted → Result ℕ SetupFault → Result ℕ SetupFault
setting_by s wanted allowed =
    if is_some (image_at s.streams wanted.channel wanted.session wanted.stream) then Err Exists else allowed

by_setting : (s : State) (now : ℕ) (wanted : ImageWanted) →
    setting_of (at_moment s now) wanted
    ≡ setting_by s wanted (allowed_for (at_moment s now) wanted (fitting (at_moment s now) wanted))
unfolding setting_of at_moment
by_setting s now wanted = refl

set_back : (s : State) (wanted : ImageWanted) →
    setting_by s wanted (allowed_for s wanted (fitting s wanted)) ≡ setting_of s wanted
unfolding setting_of
set_back s wanted = refl

same_rows : (s : State) (now : ℕ) (wanted : ImageWanted) →
    allowed_for (at_moment s now) wanted (fitting (at_moment s now) wanted) ≡ allowed_for (at_moment s now) wanted (fitting s wanted)
unfolding at_moment
same_rows s now wanted = refl

fitting_later : (s : State) (now : ℕ) (wanted : ImageWanted) →
    allowed_for (at_moment s now) wanted (fitting (at_moment s now) wanted) ≡ allowed_for s wanted (fitting s wanted)
fitting_later s now wanted = same_rows s now wanted ∙ allowed_later s now wanted (fitting s wanted)

pub setting_later : (s : State) (now : ℕ) (wanted : ImageWanted) →
    setting_of (at_moment s now) wanted ≡ setting_of s wanted
setting_later s now wanted = by_setting s now wanted ∙ ap (setting_by s wanted) (fitting_later s now wanted) ∙ set_back s wanted

-- ---- a SETUP that is dropped

pub dropped_outcome : (s : State) (now : ℕ) (inputs : Inputs) (fault : SetupFault) →
    outcome_by s inputs (answered (at_moment s now) (Dropped fault)) ≡ outcome_kept (tells_answer (Dropped fault))
unfolding answered at_moment pairs_of
dropped_outcome s now inputs fault = kept s inputs (answered (at_moment s now) (Dropped fault)) refl

pub bad_setup : (s : State) (local from : Address) (setup : Setup) → join_of setup ≡ None →
    set_up s local from setup ≡ answered s (Dropped BadSetup)
unfolding set_up
bad_setup s local from setup is = ap (set_up_by s local from setup) is

pub setup_dropped : (s : State) (local from : Address) (setup : Setup) (join : Join) (fault : SetupFault) →
    join_of setup ≡ Some join → setting_of s (wanted_by local from setup join) ≡ Err fault →
    set_up s local from setup ≡ answered s (Dropped fault)
unfolding set_up
setup_dropped s local from setup join fault is set =
    ap (set_up_by s local from setup) is ∙ ap (set_by s (wanted_by local from setup join)) set

pub setup_made : (s : State) (local from : Address) (setup : Setup) (join : Join) (place : ℕ) →
    join_of setup ≡ Some join → setting_of s (wanted_by local from setup join) ≡ Ok place →
    set_up s local from setup ≡ image_made s (wanted_by local from setup join) place
unfolding set_up
setup_made s local from setup join place is set =
    ap (set_up_by s local from setup) is ∙ ap (set_by s (wanted_by local from setup join)) set

-- ---- an image that comes

image_opens : (s : State) (now : ℕ) (inputs : Inputs) (wanted : ImageWanted) →
    AreInOrder s.streams s.clients.rows s.last_number →
    Opens s (with_image (at_moment s now) wanted) inputs (new_image s wanted)
unfolding with_image at_moment pairs_of
image_opens s now inputs wanted order =
    let log : LogRow = new_image s wanted in
    let after : State = with_image (at_moment s now) wanted in
    let rows : List Subscription = s.streams.subscriptions in
    let turn = imaged_turnover s.clients.rows s.policy s.epoch s.streams (s.last_number + 1) wanted (unwrap_or (place_of_image s wanted) 0) 0 s.last_number order.sources (omega arith) in
    let log_found = found_last source_of 0 s.last_number s.streams.sources log order.sources (omega arith) in
    let found = found_each number_of 0 s.last_number rows order.numbers in
    let pass = is_pair s.clients.rows s.policy s.epoch log in
    record {
      gone = turn.gone;
      come = turn.come;
      available = told_alike (available_for after inputs.ends) (available_from inputs.ends log) log (reading s log rows)
          (All-filter pass (λ row. available_for after inputs.ends (pair_of log row) ≡ available_from inputs.ends log row) rows
          (λ k d within. available_alike after inputs.ends log (get_or rows k d) log_found (found k d within)));
      decided = told_alike (decided_on after) (decided_from s) log (reading s log rows)
          (All-filter pass (λ row. decided_on after (pair_of log row) ≡ decided_from s row) rows
          (λ k d within. decisions_alike s after log (get_or rows k d) log_found (found k d within) refl refl refl));
    }

made_told : (s : State) (now : ℕ) (inputs : Inputs) (wanted : ImageWanted) (place : ℕ) →
    AreInOrder s.streams s.clients.rows s.last_number →
    outcome_by s inputs (image_made (at_moment s now) wanted place)
    ≡ outcome_opening s inputs
    (record (tells_answer (Imaged (s.last_number + 1))) {
      opens = Some (record { source = s.last_number + 1; place = place });
    })
    (new_image s wanted)
unfolding image_made answered with_image at_moment
made_told s now inputs wanted place order =
    by_parts s inputs (image_made (at_moment s now) wanted place) (new_image s wanted) refl (image_opens s now inputs wanted order)

pub image_outcome : (s : State) (now : ℕ) (inputs : Inputs) (wanted : ImageWanted) (place : ℕ) →
    AreInOrder s.streams s.clients.rows s.last_number → place_of_image s wanted ≡ Some place →
    outcome_by s inputs (image_made (at_moment s now) wanted place)
    ≡ outcome_opening s inputs
    (record (tells_answer (Imaged (s.last_number + 1))) { opens = Some (place_of (new_image s wanted)) })
    (new_image s wanted)
image_outcome s now inputs wanted place order there =
    let same : place ≡ unwrap_or (place_of_image s wanted) 0 = rw there refl in
    made_told s now inputs wanted place order
    ∙ ap (λ (at : ℕ).
    outcome_opening s inputs
    (record (tells_answer (Imaged (s.last_number + 1))) { opens = Some (record { source = s.last_number + 1; place = at }) })
    (new_image s wanted)) same
