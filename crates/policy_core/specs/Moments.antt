-- Rules that stand for a time, and what a policy is at a moment.
use Rattle.std.specs.Prelude.{ℕ, Bool, true, ◌&&◌, ◌||◌, List, [], ◌∷◌, ◌++◌, map, filter, Option, Some, None, if◌then◌else◌, nat_le, nat_lt}
use Rattle.std.specs.List.{flat_map, list_any}
use Rattle.policy_core.specs.declared.rule.Rule.{Rule}
use Rattle.policy_core.specs.Acts.{no_act_held}
use Rattle.policy_core.specs.Question.{Question}
use Rattle.policy_core.specs.RuleList.{Rules}
use Rattle.policy_core.specs.Rules.{verdict_of}

abbrev pub has_begun : Option ℕ → ℕ → Bool
has_begun None moment = true
has_begun (Some from) moment = nat_le from moment

abbrev pub is_not_over : Option ℕ → ℕ → Bool
is_not_over None moment = true
is_not_over (Some until) moment = nat_lt moment until

-- the rule stands at this moment: from its first one on, and before its end; an absent bound is none
abbrev pub stands_at : Rule → ℕ → Bool
stands_at rule moment = has_begun rule.from moment && is_not_over rule.until moment

-- what the rule is at this moment, without bounds: one that does not stand speaks of nothing
unfoldable pub as_of : ℕ → Rule → Rule
as_of moment rule =
    record rule {
      acts = if stands_at rule moment then rule.acts else no_act_held;
      from = None;
      until = None;
    }

-- what the policy is at this moment: the same rules in their order, each as it is then
unfoldable pub at : Rules → ℕ → Rules
at policy moment = record policy { rules = map (as_of moment) policy.rules }

-- ---- what it becomes

abbrev pub bound_of : Option ℕ → List ℕ
bound_of None = []
bound_of (Some bound) = bound ∷ []

-- the moments at which the rule begins and ends
abbrev pub bounds_of : Rule → List ℕ
bounds_of rule = bound_of rule.from ++ bound_of rule.until

-- those of all rules
abbrev pub bounds : List Rule → List ℕ
bounds rules = flat_map bounds_of rules

-- what the policy becomes after this moment, at one bound of a rule after another
unfoldable pub coming : Rules → ℕ → List Rules
coming policy moment = map (at policy) (filter (nat_lt moment) (bounds policy.rules))

-- one of these policies allows it
abbrev pub is_allowed_by_any : Question → List Rules → Bool
is_allowed_by_any question policies = list_any (λ policy. (verdict_of policy 0 question).allow) policies

-- it is allowed at this moment or at a later one
unfoldable pub ever : Rules → ℕ → Question → Bool
ever policy moment question =
    (verdict_of (at policy moment) 0 question).allow || is_allowed_by_any question (coming policy moment)

-- the sooner of two moments, where the second one is after `moment`
abbrev pub sooner : ℕ → Option ℕ → ℕ → Option ℕ
sooner moment None bound = if nat_lt moment bound then Some bound else None
sooner moment (Some found) bound = if nat_lt moment bound && nat_lt bound found then Some bound else Some found

-- the least of these bounds after the moment, or what was found before
abbrev pub least_of : ℕ → Option ℕ → List ℕ → Option ℕ
least_of moment found [] = found
least_of moment found (bound ∷ others) = least_of moment (sooner moment found bound) others

-- the least bound of a rule after the moment: up to it, and not at it, the policy is what it is at the moment
unfoldable pub steady_until : Rules → ℕ → Option ℕ
steady_until policy moment = least_of moment None (bounds policy.rules)
