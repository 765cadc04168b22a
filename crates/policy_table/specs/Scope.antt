-- Which requests a row speaks of: whose, of which act, and on which streams.
use Rattle.std.specs.Prelude.{◌≡◌, ℕ, ◌≤◌, ℤ, pos, negsuc, Bool, true, false, not, ◌==◌, ◌&&◌, ◌||◌, List, int_le}
use Rattle.std.specs.List.{count_by, list_any}
use Rattle.policy_core.specs.Act.{act_number}
use Rattle.policy_core.specs.Acts.{holds}
use Rattle.policy_core.specs.Question.{Question}
use Rattle.policy_core.specs.declared.act.Act.{Act}
use Rattle.policy_core.specs.declared.rule.Principals.{Principals}
use Rattle.policy_core.specs.declared.rule.Principals.TheVariants.{Any, One as Only}
use Rattle.policy_core.specs.declared.rule.Rule.{Rule}
use Rattle.policy_table.specs.declared.scope.Asker.{Asker}
use Rattle.policy_table.specs.declared.scope.Asker.TheVariants.{One, Others}
use Rattle.policy_table.specs.declared.scope.Scope.{Scope}

-- the principal is named, and not spoken of with everybody
abbrev pub names : ℕ → Principals → Bool
names principal Any = false
names principal (Only one) = one == principal

-- some rule names the principal
abbrev pub is_named : List Rule → ℕ → Bool
is_named rules principal = list_any (λ rule. names principal rule.principals) rules

-- the principal is the asker; among the others is each that no rule names
abbrev pub is_asker : List Rule → Asker → ℕ → Bool
is_asker rules (One one) principal = one == principal
is_asker rules Others principal = not (is_named rules principal)

-- the number is one of these
abbrev pub is_among : List ℕ → ℕ → Bool
is_among numbers number = list_any (λ other. other == number) numbers

-- the chosen numbers are put among the others, each once
pub record AddsNamed (old new : List ℕ) (chosen : ℕ → Bool) : Type 0 where
  pub all : (number : ℕ) → is_among new number ≡ (is_among old number || chosen number)
  pub once : (number : ℕ) → count_by (λ other. other == number) old ≤ 1 → count_by (λ other. other == number) new ≤ 1

-- the stream is one of 32 bits
abbrev pub is_stream : ℤ → Bool
is_stream stream = int_le (negsuc 2147483647) stream && int_le stream (pos 2147483647)

-- the stream is from the low one to the high one
abbrev pub is_within : ℤ → ℤ → ℤ → Bool
is_within low high stream = int_le low stream && int_le stream high

-- what is asked is of the scope: its principal is the asker, its act is that act, and its stream is one of those
abbrev pub is_in : List Rule → Scope → Question → Bool
is_in rules scope question =
    is_asker rules scope.asker question.principal
    && (act_number scope.act == act_number question.act)
    && is_within scope.low scope.high question.stream

-- ---- which rules speak of a scope

-- the asker is among those spoken of
abbrev pub is_spoken_to : Principals → Asker → Bool
is_spoken_to Any asker = true
is_spoken_to (Only one) (One number) = one == number
is_spoken_to (Only one) Others = false

-- the rule speaks of the asker and the act
abbrev pub speaks_to : Rule → Asker → Act → Bool
speaks_to rule asker act = is_spoken_to rule.principals asker && holds rule.acts act
