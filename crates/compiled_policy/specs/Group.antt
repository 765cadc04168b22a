-- Groups of principals.
use Rattle.std.specs.Prelude.{ℕ, ◌%◌, ◌==◌, Bool, true}
use Rattle.policy_core.specs.declared.rule.Principals.{Principals}
use Rattle.policy_core.specs.declared.rule.Principals.TheVariants.{Any, One}
use Rattle.policy_core.specs.declared.rule.Rule.{Rule}

-- the group of a principal; those that are equal by 64 share one
abbrev pub group_of : ℕ → ℕ
group_of principal = principal % 64

-- everybody is spoken of, or one of this group
abbrev pub include : ℕ → Principals → Bool
include group Any = true
include group (One principal) = group == group_of principal

-- the rule may speak of one of this group
abbrev pub is_of : ℕ → Rule → Bool
is_of group rule = include group rule.principals
