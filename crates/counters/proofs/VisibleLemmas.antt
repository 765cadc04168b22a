-- A verdict's word does not depend on the policy's number.
use Rattle.std.proofs.Common.{◌≡◌, ℕ, Option, Some, None, position, refl}
use Rattle.counters.specs.declared.counter.Counter.{Counter}
use Rattle.counters.specs.Counters.{is_visible, question_for}
use Rattle.policy_core.specs.Rule.{matches}
use Rattle.policy_core.specs.RuleList.{Rules}
use Rattle.policy_core.specs.Rules.{verdict_at, verdict_of}

any : (policy : Rules) (one other : ℕ) (index : Option ℕ) →
    (verdict_at policy one index).allow ≡ (verdict_at policy other index).allow
any policy one other (Some index) = refl
any policy one other None = refl

pub any_number : (policy : Rules) (epoch principal : ℕ) (counter : Counter) →
    (verdict_of policy epoch (question_for principal counter)).allow ≡ is_visible policy principal counter
unfolding is_visible verdict_of
any_number policy epoch principal counter =
    any policy epoch 1 (position (λ rule. matches rule (question_for principal counter)) policy.rules)
