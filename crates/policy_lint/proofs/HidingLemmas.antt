-- Rules that hide another one take each request from it.
use Rattle.std.proofs.Common.{◌≡◌, ℕ, ◌+◌, ◌<◌, true, ◌&&◌, List, Option, Some, None, option_map, ℤ, ◌≤ℤ◌, ap, ◌∙◌, sym, subst, get_or, slice_get, position, arith, ⊎_elim, true≢false, refl}
use Rattle.std.specs.Prelude.{int_le}
use Rattle.std.specs.List.{position_or_len}
use Rattle.std.proofs.lemmas.Bool.{and_from, and_parts, cases_lt, cond-true, cond-false, lt-ltb, le-ltb}
use Rattle.std.proofs.lemmas.Int.{ints}
use Rattle.std.proofs.lemmas.List.Sums.{fails_before_first, passes_at_first}
use Rattle.std.proofs.lemmas.Option.{get_or_from_slice_get, slice_get_cases}
use Rattle.channel_uri.specs.Pattern.{covers}
use Rattle.policy_core.specs.declared.act.Act.{Act}
use Rattle.policy_core.specs.declared.act.Act.TheVariants.{Publish, PublishExclusive, Subscribe, Spy, Destination, Counter, Terminate, Offer, Image, Receive, Send, Retransmit, Join, List as ListOf}
use Rattle.policy_core.specs.declared.rule.Rule.{Rule}
use Rattle.policy_core.specs.Act.{act_number, every_act}
use Rattle.policy_core.specs.Acts.{holds}
use Rattle.policy_core.specs.Moments.{as_of, at, stands_at}
use Rattle.policy_core.proofs.AtMoment.{as_of_matches, at_get}
use Rattle.policy_core.specs.Question.{Question}
use Rattle.policy_core.specs.Rule.{matches, speaks_of}
use Rattle.policy_core.specs.RuleList.{Rules}
use Rattle.policy_core.specs.Rules.{verdict_at, verdict_of}
use Rattle.policy_lint.specs.Hiding.{ActIsHeld, AreOver, Holds, IsHeld, IsHiddenBy, IsTaken, NeverDecides, AreBefore}

-- ---- a hidden rule is no verdict's

-- one of the rules at these places matches the request, whenever it stands
pub record Takes (rules : List Rule) (places : List ℕ) (question : Question) : Type 0 where
  pub index : ℕ
  pub taker : ℕ
  pub rule : Rule
  pub listed : slice_get places index ≡ Some taker
  pub found : slice_get rules taker ≡ Some rule
  pub is_match : matches rule question ≡ true

-- so it is of whatever the rule at that place matches, and these places are before it
pub record IsHiddenThen (rules : List Rule) (place : ℕ) (places : List ℕ) : Type 0 where
  pub before : AreBefore places place
  pub taken : (question : Question) (rule : Rule) → slice_get rules place ≡ Some rule → matches rule question ≡ true → Takes rules places question

mapped : {A B : Type 0} (f : A → B) (found : Option A) (value : B) → option_map f found ≡ Some value → (of : A) × (found ≡ Some of) × (f of ≡ value)
mapped f None value is = absurd (cc)
mapped f (Some of) value is = (of, refl, cc)

takes_then : (policy : Rules) (moment : ℕ) (places : List ℕ) (question : Question) → IsTaken policy.rules places moment question → Takes (at policy moment).rules places question
takes_then policy moment places question taken = record {
  index = taken.index;
  taker = taken.place;
  rule = as_of moment taken.rule;
  listed = taken.listed;
  found = at_get policy moment taken.place ∙ ap (option_map (as_of moment)) taken.found;
  is_match = as_of_matches moment taken.rule question ∙ and_from _ _ taken.stands taken.is_match;
}

-- what the policy is at a moment
hidden_then : (policy : Rules) (moment place : ℕ) (places : List ℕ) → IsHiddenBy policy.rules place places → IsHiddenThen (at policy moment).rules place places
hidden_then policy moment place places hidden = record {
  before = hidden.before;
  taken = λ question rule found is_match.
      let of = mapped (as_of moment) (slice_get policy.rules place) rule (sym (at_get policy moment place) ∙ found) in
      let both : (stands_at of.0 moment && matches of.0 question) ≡ true =
      sym (as_of_matches moment of.0 question) ∙ (ap (λ r. matches r question) of.2 ∙ is_match) in
      let parts = and_parts (stands_at of.0 moment) (matches of.0 question) both in
      takes_then policy moment places question (hidden.taken moment question of.0 of.1 parts.0 parts.1);
}

-- a rule that matches before the first one that does
none_before : (rules : List Rule) (question : Question) (place : ℕ) (rule : Rule) → slice_get rules place ≡ Some rule →
    place < position_or_len (λ r. matches r question) rules → matches rule question ≡ true → ⊥
none_before rules question place rule stands before is_match =
    true≢false (
    sym is_match ∙ ap (λ r. matches r question) (sym (get_or_from_slice_get rules place rule rule stands))
    ∙ fails_before_first (λ r. matches r question) rules place rule before)

taken_before : (rules : List Rule) (question : Question) (place : ℕ) (places : List ℕ) (rule : Rule) → IsHiddenThen rules place places →
    slice_get rules place ≡ Some rule → place ≡ position_or_len (λ r. matches r question) rules → matches rule question ≡ true → ⊥
taken_before rules question place places rule hidden stands first is_match =
    let taken : Takes rules places question = hidden.taken question rule stands is_match in
    let before : taken.taker < place = hidden.before taken.index taken.taker taken.listed in
    none_before rules question taken.taker taken.rule taken.found (omega arith) taken.is_match

never_then : (policy : Rules) (place : ℕ) (places : List ℕ) → IsHiddenThen policy.rules place places → (epoch : ℕ) (question : Question) →
    (verdict_of policy epoch question).rule ≡ Some (place + 1) → ⊥
unfolding verdict_of
never_then policy place places hidden epoch question by =
    ⊎_elim
    (λ found.
    let first : position (λ r. matches r question) policy.rules ≡ Some (position_or_len (λ r. matches r question) policy.rules) =
    cond-true _ _ _ (lt-ltb _ _ found.1) in
    let decided : Some (position_or_len (λ r. matches r question) policy.rules + 1) ≡ Some (place + 1) =
    ap (λ o. (verdict_at policy epoch o).rule) (sym first) ∙ by in
    let next : position_or_len (λ r. matches r question) policy.rules + 1 ≡ place + 1 = cc in
    let same : place ≡ position_or_len (λ r. matches r question) policy.rules = omega arith in
    taken_before policy.rules question place places found.0 hidden
    (ap (slice_get policy.rules) same ∙ found.2)
    same
    (ap (λ r. matches r question) (sym found.3) ∙ passes_at_first (λ r. matches r question) policy.rules found.0 found.1))
    (λ past.
    let none : position (λ r. matches r question) policy.rules ≡ None = cond-false _ _ _ (le-ltb _ _ past.0) in
    let decided : None ≡ Some (place + 1) = ap (λ o. (verdict_at policy epoch o).rule) (sym none) ∙ by in
    absurd (cc))
    (slice_get_cases policy.rules (position_or_len (λ r. matches r question) policy.rules)).1

pub never : (policy : Rules) (place : ℕ) (places : List ℕ) → IsHiddenBy policy.rules place places → NeverDecides policy (place + 1)
never policy place places hidden = record {
  never = λ moment epoch question by. never_then (at policy moment) place places (hidden_then policy moment place places hidden) epoch question by;
}

-- ---- what is found hides

le_from_test : (a b : ℤ) → int_le a b ≡ true → a ≤ℤ b
le_from_test a b h = grind (arith, ints)

test_from_le : (a b : ℤ) → a ≤ℤ b → int_le a b ≡ true
test_from_le a b h = grind (arith, ints)

-- a rule that is over another one, and holds the act and the stream of a request that this one matches, matches it
over_matches : (wide narrow : Rule) (question : Question) → speaks_of wide.principals question.principal ≡ true → covers wide.channel question.channel ≡ true →
    Holds wide question.act question.stream → matches wide question ≡ true
unfolding matches
over_matches wide narrow question speaks covered held =
    and_from _ _
    (and_from _ _ (and_from _ _ (and_from _ _ speaks held.act_held) covered) (test_from_le _ _ held.low))
    (test_from_le _ _ held.high)

-- what a rule that matches holds
pub record Parts (rule : Rule) (question : Question) : Type 0 where
  pub speaks : speaks_of rule.principals question.principal ≡ true
  pub act_held : holds rule.acts question.act ≡ true
  pub covered : covers rule.channel question.channel ≡ true
  pub low : rule.low ≤ℤ question.stream
  pub high : question.stream ≤ℤ rule.high

parts_of : (rule : Rule) (question : Question) → matches rule question ≡ true → Parts rule question
unfolding matches
parts_of rule question is_match =
    let all = and_parts (speaks_of rule.principals question.principal && holds rule.acts question.act && covers rule.channel question.channel && int_le rule.low question.stream) (int_le question.stream rule.high) is_match in
    let four = and_parts (speaks_of rule.principals question.principal && holds rule.acts question.act && covers rule.channel question.channel) (int_le rule.low question.stream) all.0 in
    let three = and_parts (speaks_of rule.principals question.principal && holds rule.acts question.act) (covers rule.channel question.channel) four.0 in
    let two = and_parts (speaks_of rule.principals question.principal) (holds rule.acts question.act) three.0 in
    record {
      speaks = two.0;
      act_held = two.1;
      covered = three.1;
      low = le_from_test _ _ four.1;
      high = le_from_test _ _ all.1;
    }

taken_from : (rules : List Rule) (places : List ℕ) (place moment : ℕ) (question : Question) (rule : Rule) → AreOver rules places place → slice_get rules place ≡ Some rule →
    stands_at rule moment ≡ true → Parts rule question → IsHeld rules places question.act question.stream → IsTaken rules places moment question
taken_from rules places place moment question rule over found stands parts held =
    let above = over.over held.index held.place held.listed held.rule rule held.stands found in
    record {
      index = held.index;
      place = held.place;
      rule = held.rule;
      listed = held.listed;
      found = held.stands;
      stands = above.moments moment stands;
      is_match =
          over_matches held.rule rule question (above.principals question.principal parts.speaks)
          (above.channels.covered question.channel parts.covered) held.held;
    }

pub hidden_from : (rules : List Rule) (places : List ℕ) (place : ℕ) → AreOver rules places place → ((act : Act) → ActIsHeld rules places place act) →
    IsHiddenBy rules place places
hidden_from rules places place over held = record {
  before = over.before;
  taken = λ moment question rule found stands is_match.
      let parts : Parts rule question = parts_of rule question is_match in
      taken_from rules places place moment question rule over found stands parts
      (held question.act rule question.stream found parts.act_held parts.low parts.high);
}

-- ---- act by act

act_at : (act : Act) → get_or every_act (act_number act) Publish ≡ act
act_at Publish = refl
act_at PublishExclusive = refl
act_at Subscribe = refl
act_at Spy = refl
act_at Destination = refl
act_at Counter = refl
act_at Terminate = refl
act_at Offer = refl
act_at Image = refl
act_at Receive = refl
act_at Send = refl
act_at Retransmit = refl
act_at Join = refl
act_at ListOf = refl

pub act_below : (act : Act) → act_number act < 14
act_below Publish = omega arith
act_below PublishExclusive = omega arith
act_below Subscribe = omega arith
act_below Spy = omega arith
act_below Destination = omega arith
act_below Counter = omega arith
act_below Terminate = omega arith
act_below Offer = omega arith
act_below Image = omega arith
act_below Receive = omega arith
act_below Send = omega arith
act_below Retransmit = omega arith
act_below Join = omega arith
act_below ListOf = omega arith

-- what holds of the acts below a number, and of the act of that number, holds of those up to it
pub acts_more : (P : Act → Type 0) (n : ℕ) → ((act : Act) → act_number act < n → P act) → P (get_or every_act n Publish) →
    (act : Act) → act_number act < n + 1 → P act
acts_more P n below here act within =
    ⊎_elim
    (λ less. below act less)
    (λ more.
    let same : n ≡ act_number act = omega arith in
    subst P (ap (λ k. get_or every_act k Publish) same ∙ act_at act) here)
    (cases_lt (act_number act) n)
