-- A rule stands at no moment from its end on.
use Rattle.std.proofs.Common.{◌≡◌, ◌≤◌, ◌&&◌, ◌∙◌, ◌++◌, ◌∷◌, ◌+◌, ◌<◌, [], ℕ, Bool, append_assoc, drop, get_or, length, true, false, List, Option, Some, None, ap, refl, sym, arith, slice_get, subst}
use Rattle.std.specs.List.{All}
use Rattle.std.proofs.lemmas.Bool.Decides.{nat_tests}
use Rattle.std.proofs.lemmas.List.{drop_more}
use Rattle.std.proofs.lemmas.List.Elements.{All-push, All-weaker}
use Rattle.std.specs.Prelude.{nat_le, nat_lt}
use Rattle.policy_core.specs.declared.rule.Rule.{Rule}
use Rattle.policy_core.specs.Moments.{has_begun, is_not_over, stands_at}
use Rattle.policy_lint.specs.declared.ending.Ended.{Ended}
use Rattle.policy_lint.specs.declared.ending.Ends.TheVariants.{Past, Soon}
use Rattle.policy_lint.specs.Ending.{IsEnd, IsGone, ended_by, ended_from, is_among}

never_and : (b : Bool) → (b && false) ≡ false
never_and true = refl
never_and false = refl

over_by : (until later : ℕ) → until ≤ later → nat_lt later until ≡ false
over_by until later after = grind (arith, nat_tests)

passed : (until moment : ℕ) → nat_le until moment ≡ true → until ≤ moment
passed until moment test = grind (arith, nat_tests)

not_standing : (rule : Rule) (until later : ℕ) → rule.until ≡ Some until → until ≤ later → stands_at rule later ≡ false
not_standing rule until later end after =
    ap (λ (u : Option ℕ). has_begun rule.from later && is_not_over u later) end
    ∙ (ap (λ (b : Bool). has_begun rule.from later && b) (over_by until later after) ∙ never_and (has_begun rule.from later))

gone_by : (rules : List Rule) (moment : ℕ) (ended : Ended) → IsEnd rules (is_among (Past moment)) ended → IsGone rules moment ended.at
gone_by rules moment ended is = λ later rule after found.
    let before : ended.until ≤ moment = passed ended.until moment is.passes in
    not_standing rule ended.until later (is.end rule found) (omega arith)

gone_from_end : (rules : List Rule) (test : ℕ → Bool) (ended : Ended) → IsEnd rules test ended → IsGone rules ended.until ended.at
gone_from_end rules test ended is = λ later rule after found. not_standing rule ended.until later (is.end rule found) after

-- rules whose end has come
pub gone_each : (rules : List Rule) (moment : ℕ) (found : List Ended) → All (IsEnd rules (is_among (Past moment))) found →
    All (λ ended. IsGone rules moment ended.at) found
gone_each rules moment found all = All-weaker (IsEnd rules (is_among (Past moment))) (λ ended. IsGone rules moment ended.at) (gone_by rules moment) found all

-- rules that have one
pub gone_each_from_end : (rules : List Rule) (test : ℕ → Bool) (found : List Ended) → All (IsEnd rules test) found →
    All (λ ended. IsGone rules ended.until ended.at) found
gone_each_from_end rules test found all =
    All-weaker (IsEnd rules test) (λ ended. IsGone rules ended.until ended.at) (gone_from_end rules test) found all

-- one more, whose end is that of the rule at its place
pub end_pushed : (rules : List Rule) (test : ℕ → Bool) (at until : ℕ) (rule : Rule) (before after : List Ended) →
    after ≡ before ++ record { at = at; until = until } ∷ [] → slice_get rules at ≡ Some rule → rule.until ≡ Some until → test until ≡ true →
    All (IsEnd rules test) before → All (IsEnd rules test) after
end_pushed rules test at until rule before after is found end passes known =
    subst (λ (all : List Ended). All (IsEnd rules test) all) (sym is)
    (All-push (IsEnd rules test) before (record { at = at; until = until }) known (record {
      end = λ other there.
          let same : other ≡ rule = cc in
          ap (λ (r : Rule). r.until) same ∙ end;
      passes = passes;
    }))

-- the rule at a place, and then those after it
pub ended_more : (test : ℕ → Bool) (rules : List Rule) (at : ℕ) (rule : Rule) (before after : List Ended) → at < length rules → rule ≡ get_or rules at rule →
    after ≡ before ++ ended_by at test rule.until → before ++ ended_from at test (drop at rules) ≡ ended_from 0 test rules →
    after ++ ended_from (at + 1) test (drop (at + 1) rules) ≡ ended_from 0 test rules
ended_more test rules at rule before after within there is known =
    let next : drop at rules ≡ rule ∷ drop (at + 1) rules =
    drop_more rules at rule within ∙ ap (λ (r : Rule). r ∷ drop (at + 1) rules) (sym there) in
    ap (λ (found : List Ended). found ++ ended_from (at + 1) test (drop (at + 1) rules)) is
    ∙ (append_assoc before (ended_by at test rule.until) (ended_from (at + 1) test (drop (at + 1) rules))
    ∙ (ap (λ (left : List Rule). before ++ ended_from at test left) (sym next) ∙ known))
