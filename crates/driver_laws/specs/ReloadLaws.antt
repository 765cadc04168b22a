-- Over every list of events: which policy is in force, and what a reload closes.
use Rattle.std.specs.Prelude.{◌≡◌, ℕ, ◌+◌, max, true, false, [], map, filter, None, if◌then◌else◌}
use Rattle.driver_core.specs.Change.{Change}
use Rattle.driver_core.specs.declared.state.event.Event.{Event}
use Rattle.driver_core.specs.declared.state.event.Event.TheVariants.{Reload}
use Rattle.driver_core.specs.declared.state.event.Inputs.{Inputs}
use Rattle.driver_core.specs.declared.state.outcome.Response.TheVariants.{PolicyInForce, PolicyFull}
use Rattle.driver_core.specs.Conduct.{conduct, state_after}
use Rattle.driver_core.specs.Pairs.{pairs_of, lacking}
use Rattle.driver_core.specs.Reloading.{has_room_for_policy}
use Rattle.driver_core.specs.Renewal.{images_told, images_decided}
use Rattle.driver_core.specs.State.{State, at_moment, ruled}
use Rattle.driver_core.specs.Unread.{without_unread}
use Rattle.driver_laws.specs.Events.{AfterAnyEvents}
use Rattle.driver_laws.specs.Turning.{TurnsTo}
use Rattle.log_readers.specs.Unread.{is_unread}
use Rattle.policy_core.specs.Moments.{at, coming}
use Rattle.policy_core.specs.RuleList.{Rules}
use Rattle.stream_registry.specs.Lingering.{place_of}

-- ---- a reload closes exactly

-- the policy is in force under the next number, as it is at the registry's moment, and all lists are as they were
abbrev pub reloaded_from : State → ℕ → Rules → State
reloaded_from s now policy = record s {
  moment = max s.moment now;
  given = policy;
  policy = at policy (max s.moment now);
  prospects = coming policy (max s.moment now);
  epoch = s.epoch + 1;
}

-- The pairs that go are those by the old policy at the moment before that those by the new one at the moment of the event lack, and
-- the pairs that it gains come; this is reported, and nothing else. No log opens, and those close that are images of which no pair
-- is left.
pub record ClosesExactly (s : State) (now : ℕ) (policy : Rules) (inputs : Inputs) (change : Change) : Type 0 where
  pub after_is : change.after ≡ without_unread (reloaded_from s now policy)
  pub told : change.outcome.response ≡ PolicyInForce (s.epoch + 1)
  pub gone : change.outcome.gone ≡ lacking (pairs_of s) (pairs_of change.after)
  pub come : change.outcome.come ≡ lacking (pairs_of change.after) (pairs_of s)
  pub replies :
      change.outcome.replies ≡ images_told (reloaded_from s now policy) inputs change.outcome.gone change.outcome.come
  pub decisions :
      change.outcome.decisions ≡ images_decided (reloaded_from s now policy) change.outcome.gone change.outcome.come
  pub opens : change.outcome.opens ≡ None
  pub closes :
      change.outcome.closes ≡ map place_of (filter (is_unread (pairs_of change.after)) s.streams.sources)

-- a reload that is refused closes nothing but what the moment does
pub record ClosesByMoment (s : State) (now : ℕ) (inputs : Inputs) (change : Change) : Type 0 where
  pub after_is : change.after ≡ without_unread (at_moment (ruled s now) now)
  pub told : change.outcome.response ≡ PolicyFull
  pub turns : TurnsTo s (ruled s now) change
  pub replies :
      change.outcome.replies ≡ images_told (at_moment (ruled s now) now) inputs change.outcome.gone change.outcome.come
  pub decisions :
      change.outcome.decisions ≡ images_decided (at_moment (ruled s now) now) change.outcome.gone change.outcome.come
  pub opens : change.outcome.opens ≡ None

-- and nothing at all where the policy is at that moment what it was
pub record ClosesNothing (s : State) (now : ℕ) (change : Change) : Type 0 where
  pub after_is : change.after ≡ at_moment s now
  pub told : change.outcome.response ≡ PolicyFull
  pub gone : change.outcome.gone ≡ []
  pub come : change.outcome.come ≡ []
  pub replies : change.outcome.replies ≡ []
  pub decisions : change.outcome.decisions ≡ []
  pub opens : change.outcome.opens ≡ None
  pub closes : change.outcome.closes ≡ []

-- it is refused where a limit would be broken at the moment of the event
pub record IsReloadedExactly (s : State) (now : ℕ) (policy : Rules) (inputs : Inputs) (change : Change) : Type 0 where
  pub granted : has_room_for_policy (at_moment s now) policy ≡ true → ClosesExactly s now policy inputs change
  pub refused : has_room_for_policy (at_moment s now) policy ≡ false → ClosesByMoment s now inputs change
  pub refused_so :
      has_room_for_policy (at_moment s now) policy ≡ false → ruled s now ≡ s → ClosesNothing s now change

abbrev pub ReloadsCloseExactly : Type 0
ReloadsCloseExactly =
    AfterAnyEvents (λ s.
    (now : ℕ) (policy : Rules) (inputs : Inputs) →
    IsReloadedExactly s now policy inputs (conduct s (Reload now policy) inputs))

-- ---- the newest policy is in force

-- a policy, as its text has it, with its number
pub record Numbered : Type 0 where
  pub given : Rules
  pub epoch : ℕ

abbrev pub in_force_at : State → Numbered
in_force_at s = record { given = s.given; epoch = s.epoch }

-- a reload that is not refused brings the next policy, and nothing else does
abbrev pub newest_after : State → Event → Numbered
newest_after s (Reload now policy) =
    if has_room_for_policy (at_moment s now) policy
    then record { given = policy; epoch = s.epoch + 1 }
    else in_force_at s
newest_after s event = in_force_at s

abbrev pub NewestPolicyIsInForce : Type 0
NewestPolicyIsInForce =
    AfterAnyEvents (λ s.
    (event : Event) (inputs : Inputs) → in_force_at (state_after s event inputs) ≡ newest_after s event)
