-- Two rules that match one request, and a rule that is over another one.
use Rattle.std.proofs.Common.{◌≡◌, ℕ, ◌<◌, Bool, true, ◌&&◌, ◌||◌, not, ℤ, ◌≤ℤ◌, refl, sym, ap, ◌∙◌, get_or, arith, ⊎_elim}
use Rattle.std.specs.Prelude.{int_le}
use Rattle.std.specs.List.{list_all, list_any}
use Rattle.std.proofs.lemmas.Bool.{and_from, and_parts, eq-eqb, eqb-true, false≢true, not_from_true, or_cases}
use Rattle.std.proofs.lemmas.Int.{ints}
use Rattle.std.proofs.lemmas.List.Folds.{list_any_at, list_all_at}
use Rattle.std.proofs.lemmas.Bool.{true_from_ne_false, true≢false}
use Rattle.channel_uri.specs.Pattern.{covers}
use Rattle.policy_core.specs.Act.{act_number, every_act}
use Rattle.policy_core.specs.Acts.{holds}
use Rattle.policy_core.specs.Question.{Question}
use Rattle.policy_core.specs.Rule.{matches, speaks_of}
use Rattle.policy_core.specs.declared.act.Act.{Act}
use Rattle.policy_core.specs.declared.act.Act.TheVariants.{Publish, PublishExclusive, Subscribe, Spy, Destination, Counter, Terminate, Offer, Image, Receive, Send, Retransmit, Join, List as ListOf}
use Rattle.policy_core.specs.declared.acts.Acts.{Acts}
use Rattle.policy_core.specs.declared.rule.Principals.{Principals}
use Rattle.policy_core.specs.declared.rule.Principals.TheVariants.{Any, One}
use Rattle.policy_core.specs.declared.rule.Rule.{Rule}
use Rattle.policy_tools.specs.Patterns.{patterns_pass}
use Rattle.policy_tools.specs.Sharing.{covers_acts, covers_principals, covers_streams, is_over, may_meet, share_act, share_principal}
use Rattle.policy_tools.specs.declared.patterns.Relation.TheVariants.{Covers}
use Rattle.policy_tools.proofs.PatternLemmas.{patterns_cover, patterns_meet}

le_from_test : (a b : ℤ) → int_le a b ≡ true → a ≤ℤ b
le_from_test a b h = grind (arith, ints)

test_from_le : (a b : ℤ) → a ≤ℤ b → int_le a b ≡ true
test_from_le a b h = grind (arith, ints)

between : (a b c : ℤ) → int_le a b ≡ true → int_le b c ≡ true → int_le a c ≡ true
between a b c first second =
    let one = le_from_test a b first in
    let two = le_from_test b c second in
    test_from_le a c (omega (arith, ints))

-- ---- what a rule that matches holds

pub record Parts (rule : Rule) (question : Question) : Type 0 where
  pub speaks : speaks_of rule.principals question.principal ≡ true
  pub act_held : holds rule.acts question.act ≡ true
  pub covered : covers rule.channel question.channel ≡ true
  pub low : int_le rule.low question.stream ≡ true
  pub high : int_le question.stream rule.high ≡ true

parts_of : (rule : Rule) (question : Question) → matches rule question ≡ true → Parts rule question
unfolding matches
parts_of rule question is_match =
    let all = and_parts (speaks_of rule.principals question.principal && holds rule.acts question.act && covers rule.channel question.channel && int_le rule.low question.stream) (int_le question.stream rule.high) is_match in
    let four = and_parts (speaks_of rule.principals question.principal && holds rule.acts question.act && covers rule.channel question.channel) (int_le rule.low question.stream) all.0 in
    let three = and_parts (speaks_of rule.principals question.principal && holds rule.acts question.act) (covers rule.channel question.channel) four.0 in
    let two = and_parts (speaks_of rule.principals question.principal) (holds rule.acts question.act) three.0 in
    record { speaks = two.0; act_held = two.1; covered = three.1; low = four.1; high = all.1 }

of_parts : (rule : Rule) (question : Question) → Parts rule question → matches rule question ≡ true
unfolding matches
of_parts rule question parts =
    and_from _ _ (and_from _ _ (and_from _ _ (and_from _ _ parts.speaks parts.act_held) parts.covered) parts.low) parts.high

-- ---- principals

principals_meet : (one other : Principals) (principal : ℕ) → speaks_of one principal ≡ true → speaks_of other principal ≡ true → share_principal one other ≡ true
principals_meet Any other principal first second = refl
principals_meet (One number) Any principal first second = refl
principals_meet (One number) (One another) principal first second = eq-eqb number another (eqb-true number principal first ∙ sym (eqb-true another principal second))

principals_cover : (wide narrow : Principals) (principal : ℕ) → covers_principals wide narrow ≡ true → speaks_of narrow principal ≡ true → speaks_of wide principal ≡ true
principals_cover Any narrow principal covered speaks = refl
principals_cover (One number) Any principal covered speaks = absurd (false≢true covered)
principals_cover (One number) (One another) principal covered speaks = eq-eqb number principal (eqb-true number another covered ∙ eqb-true another principal speaks)

-- ---- acts

act_at : (act : Act) → get_or every_act (act_number act) Publish ≡ act
act_at Publish = refl
act_at PublishExclusive = refl
act_at Subscribe = refl
act_at Spy = refl
act_at Destination = refl
act_at Counter = refl
act_at Terminate = refl
act_at Offer = refl
act_at Image = refl
act_at Receive = refl
act_at Send = refl
act_at Retransmit = refl
act_at Join = refl
act_at ListOf = refl

act_below : (act : Act) → act_number act < 14
act_below Publish = omega arith
act_below PublishExclusive = omega arith
act_below Subscribe = omega arith
act_below Spy = omega arith
act_below Destination = omega arith
act_below Counter = omega arith
act_below Terminate = omega arith
act_below Offer = omega arith
act_below Image = omega arith
act_below Receive = omega arith
act_below Send = omega arith
act_below Retransmit = omega arith
act_below Join = omega arith
act_below ListOf = omega arith

some_act : (test : Act → Bool) (act : Act) → test act ≡ true → list_any test every_act ≡ true
some_act test act is = list_any_at test every_act (act_number act) Publish (act_below act) (ap test (act_at act) ∙ is)

each_act : (test : Act → Bool) (act : Act) → list_all test every_act ≡ true → test act ≡ true
each_act test act all =
    true_from_ne_false (test act) (λ fails. true≢false (sym all ∙ list_all_at test every_act (act_number act) Publish (act_below act) (ap test (act_at act) ∙ fails)))

acts_meet : (one other : Acts) (act : Act) → holds one act ≡ true → holds other act ≡ true → share_act one other ≡ true
unfolding share_act
acts_meet one other act first second = some_act (λ a. holds one a && holds other a) act (and_from _ _ first second)

acts_cover : (wide narrow : Acts) (act : Act) → covers_acts wide narrow ≡ true → holds narrow act ≡ true → holds wide act ≡ true
unfolding covers_acts
acts_cover wide narrow act covered held =
    ⊎_elim
    (λ missing. absurd (false≢true (sym (not_from_true (holds narrow act) held) ∙ missing)))
    (λ is. is)
    (or_cases (not (holds narrow act)) (holds wide act) (each_act (λ a. not (holds narrow a) || holds wide a) act covered))

-- ---- rules

-- two rules that match one request may meet
pub met : (one other : Rule) (question : Question) → matches one question ≡ true → matches other question ≡ true → may_meet one other ≡ true
unfolding may_meet
met one other question first second =
    let a = parts_of one question first in
    let b = parts_of other question second in
    and_from _ _
    (and_from _ _
    (and_from _ _
    (principals_meet one.principals other.principals question.principal a.speaks b.speaks)
    (and_from _ _ (between one.low question.stream other.high a.low b.high) (between other.low question.stream one.high b.low a.high)))
    (acts_meet one.acts other.acts question.act a.act_held b.act_held))
    (patterns_meet one.channel other.channel question.channel a.covered b.covered)

-- a rule that is over another one matches what this one matches
pub taken : (wide narrow : Rule) (question : Question) → is_over wide narrow ≡ true → matches narrow question ≡ true → matches wide question ≡ true
unfolding is_over
taken wide narrow question over is_match =
    let parts = parts_of narrow question is_match in
    let four = and_parts (covers_principals wide.principals narrow.principals && covers_streams wide narrow && covers_acts wide.acts narrow.acts) (patterns_pass Covers wide.channel narrow.channel) over in
    let three = and_parts (covers_principals wide.principals narrow.principals && covers_streams wide narrow) (covers_acts wide.acts narrow.acts) four.0 in
    let two = and_parts (covers_principals wide.principals narrow.principals) (covers_streams wide narrow) three.0 in
    let ends = and_parts (int_le wide.low narrow.low) (int_le narrow.high wide.high) two.1 in
    of_parts wide question (record {
      speaks = principals_cover wide.principals narrow.principals question.principal two.0 parts.speaks;
      act_held = acts_cover wide.acts narrow.acts question.act three.1 parts.act_held;
      covered = patterns_cover wide.channel narrow.channel question.channel four.1 parts.covered;
      low = between wide.low narrow.low question.stream ends.0 parts.low;
      high = between question.stream narrow.high wide.high parts.high ends.1;
    })
