-- What decides the requests of a scope.
use Rattle.std.specs.Prelude.{◌≡◌, ◌<◌, ◌&&◌, ℕ, Bool, true, List, Option, Some, None, position, slice_get}
use Rattle.channel_uri.specs.Channel.{Shape}
use Rattle.channel_uri.specs.Pattern.{covers}
use Rattle.policy_core.specs.Question.{Question}
use Rattle.policy_core.specs.Rule.{matches}
use Rattle.policy_core.specs.RuleList.{Rules}
use Rattle.policy_core.specs.declared.rule.Rule.{Rule}
use Rattle.policy_diff.specs.Diff.{rule_of}
use Rattle.policy_diff.specs.Examples.{asked_by}
use Rattle.policy_diff.specs.Scope.{IsIn, may_reach, reaches_each}
use Rattle.policy_diff.specs.declared.examples.Example.{Example}
use Rattle.policy_diff.specs.declared.pairs.Deciders.{Deciders}
use Rattle.policy_diff.specs.declared.scope.Scope.{Scope}

-- the first rules that match are these two; `None` where none does
pub record IsDecidedBy (old new : Rules) (question : Question) (deciders : Deciders) : Type 0 where
  pub by_old : position (λ rule. matches rule question) old.rules ≡ deciders.old
  pub by_new : position (λ rule. matches rule question) new.rules ≡ deciders.new

-- ---- on one channel

-- some request of the scope on that channel may match the rule
abbrev pub may_match : Rule → Scope → Shape → Bool
may_match rule scope channel = may_reach rule scope && covers rule.channel channel

-- this rule is the first one that any request of the scope on the channel may match, and each does
pub record DecidesEach (policy : Rules) (decider : Option ℕ) (scope : Scope) (channel : Shape) : Type 0 where
  pub first : position (λ rule. may_match rule scope channel) policy.rules ≡ decider
  pub reaches : (rule : Rule) → rule_of policy decider ≡ Some rule → reaches_each rule scope ≡ true

-- the example is a request of the scope, and so is what decides on its channel
pub record IsExample (old new : Rules) (deciders : Deciders) (scope : Scope) (example : Example) : Type 0 where
  pub within : IsIn old new scope (asked_by example)
  pub by_old : DecidesEach old deciders.old scope example.channel
  pub by_new : DecidesEach new deciders.new scope example.channel

-- ---- on every channel

-- the channel is covered by the pattern of the rule, where one decides
abbrev pub IsCovered : Rules → Option ℕ → Shape → Type 0
IsCovered policy decider channel = (rule : Rule) → rule_of policy decider ≡ Some rule → covers rule.channel channel ≡ true

-- each request of the scope on a channel that both that decide cover matches the rule
pub record Takes (old new : Rules) (deciders : Deciders) (scope : Scope) (rule : Rule) : Type 0 where
  pub each : (question : Question) → IsIn old new scope question → IsCovered old deciders.old question.channel
      → IsCovered new deciders.new question.channel → matches rule question ≡ true

-- the place is before what decides; the default stands after all rules
abbrev pub IsBefore : ℕ → Option ℕ → Type 0
IsBefore at None = Unit {0}
IsBefore at (Some decider) = at < decider

-- a rule of these, before what decides, takes each request from it
pub record IsTaken (old new : Rules) (deciders : Deciders) (scope : Scope) (rules : List Rule) (decider : Option ℕ) : Type 0 where
  pub at : ℕ
  pub rule : Rule
  pub stands : slice_get rules at ≡ Some rule
  pub before : IsBefore at decider
  pub takes : Takes old new deciders scope rule
