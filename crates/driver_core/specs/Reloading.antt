-- A policy is put in force.
use Rattle.std.specs.Prelude.{◌+◌, Bool, ◌&&◌, nat_lt, if◌then◌else◌}
use Rattle.driver_core.specs.Draft.{Draft}
use Rattle.driver_core.specs.declared.state.outcome.Response.TheVariants.{PolicyInForce, PolicyFull}
use Rattle.driver_core.specs.Draft.{answered}
use Rattle.driver_core.specs.Pairs.{is_within_pairs}
use Rattle.driver_core.specs.State.{State}
use Rattle.policy_core.specs.Moments.{at, coming}
use Rattle.policy_core.specs.RuleList.{Rules}

-- under the next number, as it is at the moment; all else stays as it is
unfoldable pub in_force : State → Rules → State
in_force s policy = record s {
  given = policy;
  policy = at policy s.moment;
  prospects = coming policy s.moment;
  epoch = s.epoch + 1;
}

-- its number is the answer
unfoldable pub reloaded : State → Rules → Draft
reloaded s policy = answered (in_force s policy) (PolicyInForce (s.epoch + 1))

-- there are at most 4,096 pairs, and no number is used again
abbrev pub has_room_for_policy : State → Rules → Bool
has_room_for_policy s policy =
    is_within_pairs (in_force s policy) && nat_lt s.epoch 18446744073709551615

unfoldable pub reload : State → Rules → Draft
reload s policy = if has_room_for_policy s policy then reloaded s policy else answered s PolicyFull
