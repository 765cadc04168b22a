-- What a desk holds, and what it answers.
use Rattle.std.specs.Prelude.{ℕ, zero, suc, pos, List, Option, None, option_map, slice_get}
use Rattle.channel_uri.specs.Channel.{Shape}
use Rattle.policy_core.specs.declared.act.Act.{Act}
use Rattle.policy_core.specs.declared.verdict.Verdict.{Verdict}
use Rattle.policy_core.specs.Moments.{at}
use Rattle.policy_core.specs.Question.{Question}
use Rattle.policy_core.specs.RuleList.{Rules}
use Rattle.policy_core.specs.Rules.{verdict_of}
use Rattle.decision_cache.specs.declared.key.Key.{Key}

-- the channel whose streams are asked about, the policies in the order of their numbers, and the verdicts that are kept
pub record Held : Type 0 where
  pub channel : Shape
  pub policies : List Rules
  pub verdicts : List (Key × Verdict)

-- what is asked of a subject, which is the stream of that number on the channel
abbrev pub asked : Shape → ℕ → ℕ → Act → Question
asked channel subject principal act = record { principal = principal; act = act; channel = channel; stream = pos subject }

-- what a key asks
abbrev pub question_on : Shape → Key → Question
question_on channel key = asked channel key.subject key.principal key.act

-- the policy of this number, if there is one; they count from 1
abbrev pub policy_of : List Rules → ℕ → Option Rules
policy_of policies zero = None
policy_of policies (suc place) = slice_get policies place

-- what the policy of this number decides at that moment, if there is one
abbrev pub answer_of : Held → ℕ → ℕ → Question → Option Verdict
answer_of held number moment question =
    option_map (λ policy. verdict_of (at policy moment) number question) (policy_of held.policies number)
