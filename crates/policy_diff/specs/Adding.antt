-- Rows that are added, one after the other.
use Rattle.std.specs.Prelude.{◌≡◌, ◌≢◌, ℕ, true, false, List, Some, slice_get}
use Rattle.std.specs.List.{All, Contains}
use Rattle.policy_core.specs.Acts.{holds}
use Rattle.policy_core.specs.Question.{Question}
use Rattle.policy_core.specs.RuleList.{Rules}
use Rattle.policy_core.specs.declared.acts.Acts.{Acts}
use Rattle.policy_diff.specs.Deciding.{IsDecidedBy}
use Rattle.policy_diff.specs.Diff.{AreApart, IsSound, word_of}
use Rattle.policy_diff.specs.Askers.{is_among}
use Rattle.policy_diff.specs.Scope.{IsIn, IsStream, is_named}
use Rattle.policy_diff.specs.declared.diff_rows.Pair.{Pair}
use Rattle.policy_diff.specs.declared.pairs.Deciders.{Deciders}
use Rattle.policy_diff.specs.declared.diff_rows.Row.{Row}
use Rattle.policy_diff.specs.declared.scope.Scope.{Scope}

-- one of the rows has the request in its scope, and what decides it
pub record IsFound (old new : Rules) (rows : List Row) (question : Question) : Type 0 where
  pub row : Row
  pub listed : Contains rows row
  pub within : IsIn old new row.scope question
  pub decided : IsDecidedBy old new question row.deciders

-- the rows are still sound, each request that was found still is, and so is each chosen one
pub record Adds (old new : Rules) (chosen : Question → Type 0) (before after : List Row) : Type 0 where
  pub sound : All (IsSound old new) before → All (IsSound old new) after
  pub kept : (question : Question) → IsFound old new before question → IsFound old new after question
  pub found : (question : Question) → chosen question → IsFound old new after question

-- a request that the two decide, with different words
pub record IsOfPair (old new : Rules) (deciders : Deciders) (question : Question) : Type 0 where
  pub apart : AreApart old new question
  pub decided : IsDecidedBy old new question deciders

-- one on a stream of 32 bits
pub record IsWholePair (old new : Rules) (deciders : Deciders) (question : Question) : Type 0 where
  pub stream : IsStream question.stream
  pub pair : IsOfPair old new deciders question

-- one of the two at some place
pub record IsOfOne (old new : Rules) (pairs : List Deciders) (question : Question) : Type 0 where
  pub at : ℕ
  pub deciders : Deciders
  pub stands : slice_get pairs at ≡ Some deciders
  pub whole : IsWholePair old new deciders question

-- one of the scope
pub record IsOfScope (old new : Rules) (deciders : Deciders) (scope : Scope) (question : Question) : Type 0 where
  pub pair : IsOfPair old new deciders question
  pub within : IsIn old new scope question

-- one of the scope whose act is one of these, and none of those
pub record IsTakenOff (old new : Rules) (deciders : Deciders) (scope : Scope) (left acts : Acts) (question : Question) : Type 0 where
  pub inside : IsOfScope old new deciders scope question
  pub before : holds left question.act ≡ true
  pub after : holds acts question.act ≡ false

-- the rows of the scope are added
abbrev pub AddsScope : Rules → Rules → Deciders → Scope → List Row → List Row → Type 0
AddsScope old new deciders scope before after = Adds old new (IsOfScope old new deciders scope) before after

-- no request of the scope is decided by the two
abbrev pub NoneIsLeft : Rules → Rules → Deciders → Scope → Type 0
NoneIsLeft old new deciders scope = (question : Question) → IsIn old new scope question → IsDecidedBy old new question deciders → ⊥

-- the two have different words
abbrev pub AreWordsApart : Rules → Rules → Deciders → Type 0
AreWordsApart old new deciders = word_of old deciders.old ≢ word_of new deciders.new

-- whoever is named by a rule is one of these
abbrev pub AreNamed : Rules → Rules → List ℕ → Type 0
AreNamed old new named =
    (principal : ℕ) → is_among named principal ≡ false → (is_named old.rules principal ≡ false) × (is_named new.rules principal ≡ false)

-- it is of these policies, and of the two
pub record IsPairOf (old new : Rules) (deciders : Deciders) (pair : Pair) : Type 0 where
  pub old_is : pair.before.now.policy ≡ old
  pub new_is : pair.after.now.policy ≡ new
  pub deciders_are : pair.deciders ≡ deciders
