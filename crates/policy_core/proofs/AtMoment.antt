-- What rules and a policy are at a moment.
use Rattle.std.proofs.Common.{◌≡◌, ℕ, ◌+◌, Bool, true, false, cond, not, ◌&&◌, List, [], ◌∷◌, Option, Some, None, refl, ap, ap₂, sym, ◌∙◌, length, map, slice_get, slice_index_or, position, option_map, nat_lt, true≢false}
use Rattle.std.specs.List.{position_or_len}
use Rattle.std.proofs.lemmas.Option.{slice_get-map}
use Rattle.std.proofs.lemmas.List.{length-map}
use Rattle.policy_core.specs.declared.act.Act.{Act}
use Rattle.policy_core.specs.declared.act.Act.TheVariants.{Publish, PublishExclusive, Subscribe, Spy, Destination, Counter, Terminate, Offer, Image, Receive, Send, Retransmit, List as ListOf, Join}
use Rattle.policy_core.specs.declared.rule.Rule.{Rule}
use Rattle.policy_core.specs.Acts.{holds, no_act_held}
use Rattle.policy_core.specs.Moments.{as_of, at, stands_at}
use Rattle.policy_core.specs.Question.{Question}
use Rattle.policy_core.specs.Rule.{matches, speaks_of}
use Rattle.policy_core.specs.RuleList.{Rules}
use Rattle.policy_core.specs.Rules.{verdict_of, verdict_at, word_at, ruled}

none_held : (act : Act) → holds no_act_held act ≡ false
none_held Publish = refl
none_held PublishExclusive = refl
none_held Subscribe = refl
none_held Spy = refl
none_held Destination = refl
none_held Counter = refl
none_held Terminate = refl
none_held Offer = refl
none_held Image = refl
none_held Receive = refl
none_held Send = refl
none_held Retransmit = refl
none_held ListOf = refl
none_held Join = refl

second_fails : (a b c d e : Bool) → b ≡ false → (a && b && c && d && e) ≡ false
second_fails false b c d e h = refl
second_fails true false c d e h = refl
second_fails true true c d e h = absurd (true≢false h)

-- a rule that does not stand matches nothing
pub as_of_matches : (moment : ℕ) (rule : Rule) (question : Question) → matches (as_of moment rule) question ≡ (stands_at rule moment && matches rule question)
unfolding matches as_of
as_of_matches moment rule question = by (stands_at rule moment)
  where
    by : (stands : Bool) → matches (record rule { acts = cond stands rule.acts no_act_held; from = None; until = None }) question ≡ (stands && matches rule question)
    by true = refl
    by false = second_fails (speaks_of rule.principals question.principal) _ _ _ _ (none_held question.act)

-- the word of a rule is the same at each moment
pub as_of_allow : (moment : ℕ) (rule : Rule) → (as_of moment rule).allow ≡ rule.allow
unfolding as_of
as_of_allow moment rule = refl

pub at_length : (policy : Rules) (moment : ℕ) → length (at policy moment).rules ≡ length policy.rules
unfolding at
at_length policy moment = length-map policy.rules (as_of moment)

pub at_get : (policy : Rules) (moment place : ℕ) → slice_get (at policy moment).rules place ≡ option_map (as_of moment) (slice_get policy.rules place)
unfolding at
at_get policy moment place = slice_get-map (as_of moment) policy.rules place

-- what stands at a place is what the rule there is at the moment
pub at_place : (policy : Rules) (moment place : ℕ) (found rule : Rule) → slice_get policy.rules place ≡ Some found
    → slice_get (at policy moment).rules place ≡ Some rule → as_of moment found ≡ rule
at_place policy moment place found rule there stands =
    let both : Some (as_of moment found) ≡ Some rule =
    sym (ap (option_map (as_of moment)) there) ∙ (sym (at_get policy moment place) ∙ stands) in
    cc

-- ---- the first rule that stands and matches

first_is : (moment : ℕ) (question : Question) (rules : List Rule) →
    position_or_len (λ rule. matches rule question) (map (as_of moment) rules)
    ≡ position_or_len (λ rule. stands_at rule moment && matches rule question) rules
first_is moment question [] = refl
first_is moment question (rule ∷ rules) =
    ap₂ (λ (b : Bool) (n : ℕ). cond (not b) (1 + n) 0) (as_of_matches moment rule question) (first_is moment question rules)

pub position_is : (policy : Rules) (moment : ℕ) (question : Question) →
    position (λ rule. stands_at rule moment && matches rule question) policy.rules
    ≡ position (λ rule. matches rule question) (at policy moment).rules
unfolding at
position_is policy moment question =
    sym (ap₂ (λ (n l : ℕ). cond (nat_lt n l) (Some n) None) (first_is moment question policy.rules) (length-map policy.rules (as_of moment)))

words_same : (moment : ℕ) (rules : List Rule) → map (λ rule. rule.allow) (map (as_of moment) rules) ≡ map (λ rule. rule.allow) rules
words_same moment [] = refl
words_same moment (rule ∷ rules) = ap₂ (λ (b : Bool) (l : List Bool). b ∷ l) (as_of_allow moment rule) (words_same moment rules)

pub word_at-same : (policy : Rules) (moment index : ℕ) → word_at (at policy moment).rules index ≡ word_at policy.rules index
unfolding at
word_at-same policy moment index =
    ap (λ (l : List Bool). slice_index_or l index false) (words_same moment policy.rules)

-- the verdict at the moment, by the first rule that stands and matches
pub verdict_by : (policy : Rules) (moment epoch : ℕ) (question : Question) (found : Option ℕ) →
    found ≡ position (λ rule. stands_at rule moment && matches rule question) policy.rules →
    verdict_at policy epoch found ≡ verdict_of (at policy moment) epoch question
unfolding verdict_of at
verdict_by policy moment epoch question found is =
    same found ∙ ap (verdict_at (at policy moment) epoch) (is ∙ position_is policy moment question)
  where
    same : (found : Option ℕ) → verdict_at policy epoch found ≡ verdict_at (at policy moment) epoch found
    same None = refl
    same (Some index) = ap (λ (word : Bool). ruled word index epoch) (sym (word_at-same policy moment index))
