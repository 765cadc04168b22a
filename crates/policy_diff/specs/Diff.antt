-- The difference of two policies: the requests that they decide with different words.
use Rattle.std.specs.Prelude.{◌≡◌, ◌≢◌, IfSome, position, ◌&&◌, ◌<◌, ◌++◌, ◌∷◌, [], not, ℕ, Bool, true, List, Option, Some, None, length, map, filter, flat_map, slice_get}
use Rattle.std.specs.Bool.{beq}
use Rattle.std.specs.List.{All, Contains, range_with_len}
use Rattle.policy_core.specs.Question.{Question}
use Rattle.policy_core.specs.Rule.{matches}
use Rattle.policy_core.specs.RuleList.{Rules}
use Rattle.policy_core.specs.Rules.{verdict_at, verdict_of, word_at}
use Rattle.policy_core.specs.declared.rule.Rule.{Rule}
use Rattle.policy_diff.specs.Reach.{is_upto, reach_of}
use Rattle.policy_tools.specs.Sharing.{may_meet}
use Rattle.policy_diff.specs.declared.reach.Reach.{Reach}
use Rattle.policy_diff.specs.Examples.{asked_by}
use Rattle.policy_diff.specs.Scope.{IsIn, IsStream}
use Rattle.policy_diff.specs.declared.examples.Example.{Example}
use Rattle.policy_diff.specs.declared.pairs.Deciders.{Deciders}
use Rattle.policy_diff.specs.declared.diff_rows.Row.{Row}
use Rattle.policy_diff.specs.declared.scope.Scope.{Scope}

-- all that may decide: the rules of a policy with so many, by their places, and the default
abbrev pub deciders : ℕ → List (Option ℕ)
deciders count = map (λ at. Some at) (range_with_len 0 count) ++ None ∷ []

-- it is one of the policy's
abbrev pub IsDecider : Rules → Option ℕ → Type 0
IsDecider policy (Some at) = at < length policy.rules
IsDecider policy None = Unit {0}

-- its word
abbrev pub word_of : Rules → Option ℕ → Bool
word_of policy (Some at) = word_at policy.rules at
word_of policy None = policy.default_allows

-- the rule, where it is one
abbrev pub rule_of : Rules → Option ℕ → Option Rule
rule_of policy (Some at) = slice_get policy.rules at
rule_of policy None = None

-- where the requests of the rule are all decided; those of the default may be decided anywhere
abbrev pub reach_from : Rules → Rules → Option Rule → Reach
reach_from old new None = record { old = None; new = None }
reach_from old new (Some rule) = reach_of old new rule

-- both stand where those requests are decided
abbrev pub is_within : Deciders → Reach → Bool
is_within row reach = is_upto row.old reach.old && is_upto row.new reach.new

-- some request may match both; the default may meet each
abbrev pub meet_from : Option Rule → Option Rule → Bool
meet_from None other = true
meet_from (Some one) None = true
meet_from (Some one) (Some other) = may_meet one other

abbrev pub meet : Rules → Rules → Deciders → Bool
meet old new row = meet_from (rule_of old row.old) (rule_of new row.new)

-- the words differ, no rule before either takes all requests of one of the two, and these may meet
abbrev pub is_pair : Rules → Rules → Deciders → Bool
is_pair old new row =
    not (beq (word_of old row.old) (word_of new row.new))
    && is_within row (reach_from old new (rule_of old row.old))
    && is_within row (reach_from old new (rule_of new row.new))
    && meet old new row

-- the pairs with what decides in the old policy, in the order of what decides in the new one
abbrev pub pairs_from : Rules → Rules → Option ℕ → List Deciders
pairs_from old new decider =
    filter (is_pair old new) (map (λ other. record { old = decider; new = other }) (deciders (length new.rules)))

-- all pairs, in the order of what decides in the old policy
abbrev pub all_pairs : Rules → Rules → List Deciders
all_pairs old new = flat_map (pairs_from old new) (deciders (length old.rules))

-- ---- what a row says

-- the request is decided by these two, the one in the old policy and the other in the new one
pub record IsOf (old new : Rules) (question : Question) (deciders : Deciders) : Type 0 where
  pub by_old : (epoch : ℕ) → verdict_of old epoch question ≡ verdict_at old epoch deciders.old
  pub by_new : (epoch : ℕ) → verdict_of new epoch question ≡ verdict_at new epoch deciders.new

-- the policies give the request different words
abbrev pub AreApart : Rules → Rules → Question → Type 0
AreApart old new question = (verdict_of old 1 question).allow ≢ (verdict_of new 1 question).allow

-- the example is a request of the row; and each request of the row on the example's channel, whoever of the row's principals asks,
-- whichever of its acts, and on whichever of its streams, is decided by the row's two, with different words
pub record IsShown (old new : Rules) (row : Row) (example : Example) : Type 0 where
  pub within : IsIn old new row.scope (asked_by example)
  pub decided : (question : Question) → IsIn old new row.scope question → question.channel ≡ example.channel → IsOf old new question row.deciders
  pub apart : (question : Question) → IsIn old new row.scope question → question.channel ≡ example.channel → AreApart old new question

-- a row that has an example is shown by it
abbrev pub IsSound : Rules → Rules → Row → Type 0
IsSound old new row = IfSome row.example (IsShown old new row)

-- the row speaks of the request, and of what decides it
pub record SpeaksOf (old new : Rules) (row : Row) (question : Question) : Type 0 where
  pub within : IsIn old new row.scope question
  pub decided : IsOf old new question row.deciders

-- each row with an example is shown by it, and of each request with different words a row speaks
pub record IsDiff (old new : Rules) (rows : List Row) : Type 0 where
  pub sound : All (IsSound old new) rows
  pub complete : (question : Question) → IsStream question.stream → AreApart old new question
      → (row : Row) × Contains rows row × SpeaksOf old new row question
