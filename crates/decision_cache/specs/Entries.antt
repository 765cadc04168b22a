-- The entries of a cache of verdicts.
use Rattle.std.specs.Prelude.{◌≡◌, ◌⊎◌, ◌-◌, ℕ, List, Some, Contains, slice_get}
use Rattle.policy_core.specs.declared.verdict.Verdict.{Verdict}
use Rattle.policy_core.specs.Moments.{at}
use Rattle.policy_core.specs.Question.{Question}
use Rattle.policy_core.specs.RuleList.{Rules}
use Rattle.policy_core.specs.Rules.{verdict_of}
use Rattle.decision_cache.specs.declared.key.Key.{Key}

-- what the verdict on this question is kept under
abbrev pub key_of : ℕ → ℕ → ℕ → Question → Key
key_of epoch moment subject question =
    record { epoch = epoch; moment = moment; subject = subject; principal = question.principal; act = question.act }

-- an entry under the key of this question has the verdict on it of this policy as of that moment; its number is `epoch`
abbrev pub IsSoundAt : List (Key × Verdict) → Rules → ℕ → ℕ → ℕ → Question → Type 0
IsSoundAt entries policy epoch moment subject question =
    (verdict : Verdict) → Contains entries (key_of epoch moment subject question, verdict)
    → verdict ≡ verdict_of (at policy moment) epoch question

-- each entry was there, or is this one
abbrev pub AddsAtMost : List (Key × Verdict) → List (Key × Verdict) → Key → Verdict → Type 0
AddsAtMost old new key verdict = (entry : Key × Verdict) → Contains new entry → Contains old entry ⊎ (entry ≡ (key, verdict))

-- the policy is the one of this number among these, which count from 1
abbrev pub IsAmong : List Rules → Rules → ℕ → Type 0
IsAmong policies policy epoch = slice_get policies (epoch - 1) ≡ Some policy

-- the entry is the verdict on the question of its key, by the policy of its key's number among these, as of its moment
abbrev pub IsDecided : List Rules → (Key → Question) → Key × Verdict → Type 0
IsDecided policies question entry =
    (policy : Rules) × IsAmong policies policy entry.0.epoch × (entry.1 ≡ verdict_of (at policy entry.0.moment) entry.0.epoch (question entry.0))

-- each entry is so
pub record IsSoundIn (policies : List Rules) (question : Key → Question) (entries : List (Key × Verdict)) : Type 0 where
  pub each : (entry : Key × Verdict) → Contains entries entry → IsDecided policies question entry
