-- What a case wants of a policy, and what is reported of cases.
use Rattle.std.specs.Prelude.{◌≡◌, ℕ, zero, suc, ◌+◌, ◌-◌, ℤ, pos, ◌+ℤ◌, Bool, true, false, not, ◌&&◌, ◌==◌, List, [], ◌∷◌, Option, Some, None, count_by, filter_map, find, length, is_none, slice_get, if◌then◌else◌}
use Rattle.std.specs.Bool.{beq}
use Rattle.std.specs.Int.{int_gap}
use Rattle.std.specs.Option.{option_or}
use Rattle.std.specs.Ordering.{int_eq}
use Rattle.std.specs.Str.{bytes_eq}
use Rattle.channel_uri.specs.Channel.{Shape}
use Rattle.policy_core.specs.RuleList.{Rules}
use Rattle.policy_core.specs.Rules.{verdict_of}
use Rattle.policy_core.specs.declared.act.Act.{Act}
use Rattle.policy_core.specs.declared.rule.Rule.{Rule as RuleOf}
use Rattle.policy_core.specs.declared.verdict.Verdict.{Verdict}
use Rattle.policy_tools.specs.declared.cases.By.{By}
use Rattle.policy_tools.specs.declared.cases.By.TheVariants.{Any, Default, Rule, Name}
use Rattle.policy_tools.specs.declared.cases.Failure.{Failure}

-- a case: in which line it stands, who ask what, on which channel and from which stream to which, and what is wanted of each
-- question
pub record Wanted : Type 0 where
  pub line : ℕ
  pub text : List ℕ
  pub principals : List (List ℕ × ℕ)
  pub acts : List Act
  pub channel : Shape
  pub low : ℤ
  pub high : ℤ
  pub allow : Bool
  pub by : By

abbrev pub has_name : List ℕ → Option RuleOf → Bool
has_name name None = false
has_name name (Some rule) = bytes_eq name rule.name

-- the rule of this number, counted from 1, has that name
abbrev pub is_named : List RuleOf → List ℕ → ℕ → Bool
is_named rules name number = if number == 0 then false else has_name name (slice_get rules (number - 1))

-- the one of these rules that decided, or the default, is the one that is wanted; rules count from 1
abbrev pub is_by : List RuleOf → By → Option ℕ → Bool
is_by rules Any decided = true
is_by rules Default None = true
is_by rules Default (Some rule) = false
is_by rules (Rule wanted) None = false
is_by rules (Rule wanted) (Some rule) = wanted == rule
is_by rules (Name name) None = false
is_by rules (Name name) (Some rule) = is_named rules name rule

-- the verdict has the wanted word, and is by the wanted one
abbrev pub agrees : List RuleOf → Bool → By → Verdict → Bool
agrees rules allow by verdict = beq allow verdict.allow && is_by rules by verdict.rule

-- the verdict of the policy, as policy 1, on a question of the case
abbrev pub decided : Rules → Wanted → ℕ → Act → ℤ → Verdict
decided policy case principal act stream =
    verdict_of policy 1 (record { principal = principal; act = act; channel = case.channel; stream = stream })

-- that verdict is the one that the case wants
abbrev pub is_wanted : Rules → Wanted → ℕ → Act → ℤ → Bool
is_wanted policy case principal act stream = agrees policy.rules case.allow case.by (decided policy case principal act stream)

-- so many streams from this one on
abbrev pub streams_from : ℤ → ℕ → List ℤ
streams_from low zero = []
streams_from low (suc count) = low ∷ streams_from (low +ℤ pos 1) count

-- each stream from one to another
abbrev pub streams : ℤ → ℤ → List ℤ
streams low high = streams_from low (int_gap low high + 1)

-- the first stream from one to another on which the principal's act is not decided as the case wants
unfoldable pub failing_from : Rules → Wanted → ℕ → Act → ℤ → ℤ → Option ℤ
failing_from policy case principal act low high = find (λ stream. not (is_wanted policy case principal act stream)) (streams low high)

-- of the streams of the case
abbrev pub failing_stream : Rules → Wanted → ℕ → Act → Option ℤ
failing_stream policy case principal act = failing_from policy case principal act case.low case.high

abbrev pub with_act : Act → Option ℤ → Option (Act × ℤ)
with_act act None = None
with_act act (Some stream) = Some (act, stream)

-- the first of these acts that is not, and that stream
abbrev pub failing_act : Rules → Wanted → ℕ → List Act → Option (Act × ℤ)
failing_act policy case principal [] = None
failing_act policy case principal (act ∷ acts) =
    option_or (with_act act (failing_stream policy case principal act)) (failing_act policy case principal acts)

-- the case asks one question
abbrev pub is_single : Wanted → Bool
is_single case = length case.principals == 1 && length case.acts == 1 && int_eq case.low case.high

-- what is reported of a case that fails: its line, the question, and what was decided
abbrev pub failure_at : Rules → Wanted → List ℕ → ℕ → Option (Act × ℤ) → Option Failure
failure_at policy case name principal None = None
failure_at policy case name principal (Some (act, stream)) = Some (record {
  line = case.line;
  text = case.text;
  is_single = is_single case;
  principal = name;
  act = act;
  stream = stream;
  verdict = decided policy case principal act stream;
})

abbrev pub failure_from : Rules → Wanted → List (List ℕ × ℕ) → Option Failure
failure_from policy case [] = None
failure_from policy case ((name, principal) ∷ principals) =
    option_or (failure_at policy case name principal (failing_act policy case principal case.acts)) (failure_from policy case principals)

-- what is reported of a case: its first question that is not decided as it wants. Its principals are asked for one after the other,
-- for each its acts, and for each of these its streams from the lowest on
unfoldable pub failure_of : Rules → Wanted → Option Failure
failure_of policy case = failure_from policy case case.principals

-- each question of the case is decided as it wants
abbrev pub passes : Rules → Wanted → Bool
passes policy case = is_none (failure_of policy case)

-- the cases that fail are reported in their order, and the others are counted
pub record IsReport (policy : Rules) (cases : List Wanted) (failures : List Failure) (passed : ℕ) : Type 0 where
  pub failures_are : failures ≡ filter_map (failure_of policy) cases
  pub passed_are : passed ≡ count_by (passes policy) cases
