-- Which requests a row speaks of: whose, of which acts, and on which streams.
use Rattle.std.specs.Prelude.{◌≡◌, ◌≢◌, ℕ, ℤ, pos, negsuc, ◌≤ℤ◌, Bool, true, false, not, ◌==◌, ◌&&◌, ◌||◌, List, int_le}
use Rattle.std.specs.List.{list_all, list_any}
use Rattle.policy_core.specs.Act.{every_act}
use Rattle.policy_core.specs.Acts.{holds}
use Rattle.policy_core.specs.Question.{Question}
use Rattle.policy_core.specs.RuleList.{Rules}
use Rattle.policy_core.specs.declared.acts.Acts.{Acts}
use Rattle.policy_core.specs.declared.rule.Principals.{Principals}
use Rattle.policy_core.specs.declared.rule.Principals.TheVariants.{Any, One as Only}
use Rattle.policy_core.specs.declared.rule.Rule.{Rule}
use Rattle.policy_diff.specs.declared.scope.Asker.{Asker}
use Rattle.policy_diff.specs.declared.scope.Asker.TheVariants.{But, Every, One, Others}
use Rattle.policy_diff.specs.declared.scope.Scope.{Scope}

-- the principal is named, and not spoken of with everybody
abbrev pub names : ℕ → Principals → Bool
names principal Any = false
names principal (Only one) = one == principal

-- some rule names the principal
abbrev pub is_named : List Rule → ℕ → Bool
is_named rules principal = list_any (λ rule. names principal rule.principals) rules

-- the principal is one of the asker's: anybody; that one; anybody else; or somebody whom no rule of either policy names
abbrev pub IsAsker : Rules → Rules → Asker → ℕ → Type 0
IsAsker old new Every principal = Unit {0}
IsAsker old new (One one) principal = one ≡ principal
IsAsker old new (But one) principal = one ≢ principal
IsAsker old new Others principal = (is_named old.rules principal ≡ false) × (is_named new.rules principal ≡ false)

-- what is asked is of the scope, on whatever channel
pub record IsIn (old new : Rules) (scope : Scope) (question : Question) : Type 0 where
  pub asker : IsAsker old new scope.asker question.principal
  pub act : holds scope.acts question.act ≡ true
  pub low : scope.low ≤ℤ question.stream
  pub high : question.stream ≤ℤ scope.high

-- the stream is one of 32 bits
pub record IsStream (stream : ℤ) : Type 0 where
  pub low : negsuc 2147483647 ≤ℤ stream
  pub high : stream ≤ℤ pos 2147483647

-- ---- rules and scopes

-- some of the asker's principals may be spoken of
abbrev pub may_speak : Principals → Asker → Bool
may_speak Any asker = true
may_speak (Only one) Every = true
may_speak (Only one) (One number) = one == number
may_speak (Only one) (But number) = not (one == number)
may_speak (Only one) Others = false

-- each of them is
abbrev pub speaks : Principals → Asker → Bool
speaks Any asker = true
speaks (Only one) Every = false
speaks (Only one) (One number) = one == number
speaks (Only one) (But number) = false
speaks (Only one) Others = false

-- both hold some act
unfoldable pub share_act : Acts → Acts → Bool
share_act one other = list_any (λ act. holds one act && holds other act) every_act

-- the wide ones hold each act of the narrow ones
unfoldable pub covers_acts : Acts → Acts → Bool
covers_acts wide narrow = list_all (λ act. not (holds narrow act) || holds wide act) every_act

-- some request of the scope may match the rule, channels apart
unfoldable pub may_reach : Rule → Scope → Bool
may_reach rule scope =
    may_speak rule.principals scope.asker
    && share_act rule.acts scope.acts
    && int_le rule.low scope.high
    && int_le scope.low rule.high

-- each request of the scope matches the rule, channels apart
unfoldable pub reaches_each : Rule → Scope → Bool
reaches_each rule scope =
    speaks rule.principals scope.asker
    && covers_acts rule.acts scope.acts
    && int_le rule.low scope.low
    && int_le scope.high rule.high
