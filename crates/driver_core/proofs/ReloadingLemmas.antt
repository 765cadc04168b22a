-- What a policy that is to be in force tells, by the registry as it stands.
use Rattle.std.proofs.Common.{◌≡◌, ℕ, ◌+◌, Bool, true, false, [], ◌++◌, None, if◌then◌else◌, max, refl, ap, ◌∙◌}
use Rattle.driver_core.specs.declared.state.event.Inputs.{Inputs}
use Rattle.driver_core.specs.declared.state.outcome.Response.TheVariants.{PolicyFull, PolicyInForce}
use Rattle.driver_core.specs.Draft.{answered}
use Rattle.driver_core.specs.Pairs.{pairs_of}
use Rattle.driver_core.specs.Reloading.{has_room_for_policy, in_force, reload, reloaded}
use Rattle.driver_core.specs.Renewal.{available_for, come_to, decided_on, gone_from, images_decided, images_told, outcome_by, outcome_kept, renewed, unavailable_for, under}
use Rattle.driver_core.specs.State.{State, at_moment}
use Rattle.driver_core.specs.Report.{tells_answer}
use Rattle.driver_core.proofs.PairLemmas.{kept}
use Rattle.policy_core.specs.Moments.{at}
use Rattle.policy_core.specs.RuleList.{Rules}

-- no list changes: only the verdicts are of the new policy
pub reloaded_outcome : (s : State) (now : ℕ) (inputs : Inputs) (policy : Rules) →
    outcome_by s inputs (reloaded (at_moment s now) policy)
    ≡ record {
      response = PolicyInForce (s.epoch + 1);
      replies = [] ++ (images_told s inputs (gone_from s (in_force (at_moment s now) policy)) (come_to s (in_force (at_moment s now) policy)) ++ []);
      decisions = []
          ++ images_decided (under s (at policy (max s.moment now)) (s.epoch + 1)) (gone_from s (in_force (at_moment s now) policy)) (come_to s (in_force (at_moment s now) policy));
      opens = None;
      closes = [];
      gone = gone_from s (in_force (at_moment s now) policy);
      come = come_to s (in_force (at_moment s now) policy);
    }
unfolding reloaded in_force answered renewed at_moment images_told images_decided available_for unavailable_for decided_on pairs_of
reloaded_outcome s now inputs policy = refl

-- ---- by whether there is room

pub reload_granted : (s : State) (now : ℕ) (policy : Rules) → has_room_for_policy (at_moment s now) policy ≡ true →
    reload (at_moment s now) policy ≡ reloaded (at_moment s now) policy
unfolding reload
reload_granted s now policy room =
    ap (λ (b : Bool). if b then reloaded (at_moment s now) policy else answered (at_moment s now) PolicyFull)
    room

full_outcome : (s : State) (now : ℕ) (inputs : Inputs) →
    outcome_by s inputs (answered (at_moment s now) PolicyFull) ≡ outcome_kept (tells_answer PolicyFull)
unfolding answered at_moment pairs_of
full_outcome s now inputs = kept s inputs (answered (at_moment s now) PolicyFull) refl

pub reload_refused : (s : State) (now : ℕ) (inputs : Inputs) (policy : Rules) → has_room_for_policy (at_moment s now) policy ≡ false →
    outcome_by s inputs (reload (at_moment s now) policy) ≡ outcome_kept (tells_answer PolicyFull)
unfolding reload
reload_refused s now inputs policy room =
    ap (λ (b : Bool).
    outcome_by s inputs (if b then reloaded (at_moment s now) policy else answered (at_moment s now) PolicyFull))
    room
    ∙ full_outcome s now inputs
