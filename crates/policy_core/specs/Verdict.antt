-- A verdict in words.
use Rattle.std.specs.Prelude.{ℕ, Bool, true, false, List, ◌++◌, Option, Some, None, codes}
use Rattle.std.specs.Fmt.{decimal}
use Rattle.policy_core.specs.declared.verdict.Verdict.{Verdict}

abbrev pub text_from : Bool → Option ℕ → ℕ → List ℕ
text_from true (Some rule) epoch = codes "allowed by rule " ++ (decimal rule ++ (codes " in policy " ++ decimal epoch))
text_from true None epoch = codes "allowed by default in policy " ++ decimal epoch
text_from false (Some rule) epoch = codes "denied by rule " ++ (decimal rule ++ (codes " in policy " ++ decimal epoch))
text_from false None epoch = codes "denied by default in policy " ++ decimal epoch

-- the word, the rule that gave it or the default, and the policy
unfoldable pub verdict_text : Verdict → List ℕ
verdict_text verdict = text_from verdict.allow verdict.rule verdict.epoch
