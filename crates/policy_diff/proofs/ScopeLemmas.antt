-- Rules and the requests of a scope.
use Rattle.std.proofs.Common.{◌≡◌, ℕ, ◌<◌, Bool, true, false, ◌&&◌, ◌||◌, not, ℤ, ◌≤ℤ◌, List, refl, sym, ap, ◌∙◌, get_or, length, subst, arith, ⊎_elim, inl, inr}
use Rattle.std.specs.Bool.{beq}
use Rattle.std.specs.List.{list_all, list_any}
use Rattle.std.specs.Prelude.{◌⊎◌, int_le}
use Rattle.std.proofs.lemmas.Bool.{and_from, and_parts, eq-eqb, eqb-true, false≢true, ne_eqb, not_from_true, or_cases, true_from_ne_false, true≢false}
use Rattle.std.proofs.lemmas.Int.{ints}
use Rattle.std.proofs.lemmas.List.Folds.{list_any_at, list_all_at}
use Rattle.channel_uri.specs.Channel.{Shape}
use Rattle.channel_uri.specs.Pattern.{covers}
use Rattle.channel_uri.specs.declared.pattern.Pattern.{Pattern}
use Rattle.channel_uri.specs.declared.pattern.Pattern.TheVariants.{Any as AnyChannel}
use Rattle.policy_core.specs.Act.{act_number, every_act}
use Rattle.policy_core.specs.Acts.{holds}
use Rattle.policy_core.specs.Question.{Question}
use Rattle.policy_core.specs.Rule.{matches, speaks_of}
use Rattle.policy_core.specs.RuleList.{Rules}
use Rattle.policy_core.specs.declared.act.Act.{Act}
use Rattle.policy_core.specs.declared.act.Act.TheVariants.{Publish, PublishExclusive, Subscribe, Spy, Destination, Counter, Terminate, Offer, Image, Receive, Send, Retransmit, Join, List as ListOf}
use Rattle.policy_core.specs.declared.acts.Acts.{Acts}
use Rattle.policy_core.specs.declared.rule.Principals.{Principals}
use Rattle.policy_core.specs.declared.rule.Principals.TheVariants.{Any, One as Only}
use Rattle.policy_core.specs.declared.rule.Rule.{Rule}
use Rattle.policy_diff.specs.Deciding.{may_match}
use Rattle.policy_diff.specs.Scope.{IsAsker, IsIn, covers_acts, is_named, may_reach, may_speak, names, reaches_each, share_act, speaks}
use Rattle.policy_diff.specs.declared.scope.Asker.{Asker}
use Rattle.policy_diff.specs.declared.scope.Asker.TheVariants.{But, Every, One, Others}
use Rattle.policy_diff.specs.declared.scope.Scope.{Scope}

pub le_from_test : (a b : ℤ) → int_le a b ≡ true → a ≤ℤ b
le_from_test a b h = grind (arith, ints)

pub test_from_le : (a b : ℤ) → a ≤ℤ b → int_le a b ≡ true
test_from_le a b h = grind (arith, ints)

-- ---- what a rule that matches holds

pub record Parts (rule : Rule) (question : Question) : Type 0 where
  pub speaks : speaks_of rule.principals question.principal ≡ true
  pub act_held : holds rule.acts question.act ≡ true
  pub covered : covers rule.channel question.channel ≡ true
  pub low : rule.low ≤ℤ question.stream
  pub high : question.stream ≤ℤ rule.high

pub parts_of : (rule : Rule) (question : Question) → matches rule question ≡ true → Parts rule question
unfolding matches
parts_of rule question is_match =
    let all = and_parts (speaks_of rule.principals question.principal && holds rule.acts question.act && covers rule.channel question.channel && int_le rule.low question.stream) (int_le question.stream rule.high) is_match in
    let four = and_parts (speaks_of rule.principals question.principal && holds rule.acts question.act && covers rule.channel question.channel) (int_le rule.low question.stream) all.0 in
    let three = and_parts (speaks_of rule.principals question.principal && holds rule.acts question.act) (covers rule.channel question.channel) four.0 in
    let two = and_parts (speaks_of rule.principals question.principal) (holds rule.acts question.act) three.0 in
    record {
      speaks = two.0;
      act_held = two.1;
      covered = three.1;
      low = le_from_test rule.low question.stream four.1;
      high = le_from_test question.stream rule.high all.1;
    }

of_parts : (rule : Rule) (question : Question) → Parts rule question → matches rule question ≡ true
unfolding matches
of_parts rule question parts =
    and_from _ _
    (and_from _ _ (and_from _ _ (and_from _ _ parts.speaks parts.act_held) parts.covered) (test_from_le rule.low question.stream parts.low))
    (test_from_le question.stream rule.high parts.high)

-- ---- acts

act_at : (act : Act) → get_or every_act (act_number act) Publish ≡ act
act_at Publish = refl
act_at PublishExclusive = refl
act_at Subscribe = refl
act_at Spy = refl
act_at Destination = refl
act_at Counter = refl
act_at Terminate = refl
act_at Offer = refl
act_at Image = refl
act_at Receive = refl
act_at Send = refl
act_at Retransmit = refl
act_at Join = refl
act_at ListOf = refl

pub act_below : (act : Act) → act_number act < 14
act_below Publish = omega arith
act_below PublishExclusive = omega arith
act_below Subscribe = omega arith
act_below Spy = omega arith
act_below Destination = omega arith
act_below Counter = omega arith
act_below Terminate = omega arith
act_below Offer = omega arith
act_below Image = omega arith
act_below Receive = omega arith
act_below Send = omega arith
act_below Retransmit = omega arith
act_below Join = omega arith
act_below ListOf = omega arith

some_act : (test : Act → Bool) (act : Act) → test act ≡ true → list_any test every_act ≡ true
some_act test act is = list_any_at test every_act (act_number act) Publish (act_below act) (ap test (act_at act) ∙ is)

each_act : (test : Act → Bool) (act : Act) → list_all test every_act ≡ true → test act ≡ true
each_act test act all =
    true_from_ne_false (test act) (λ fails. true≢false (sym all ∙ list_all_at test every_act (act_number act) Publish (act_below act) (ap test (act_at act) ∙ fails)))

acts_meet : (one other : Acts) (act : Act) → holds one act ≡ true → holds other act ≡ true → share_act one other ≡ true
unfolding share_act
acts_meet one other act first second = some_act (λ a. holds one a && holds other a) act (and_from _ _ first second)

acts_cover : (wide narrow : Acts) (act : Act) → covers_acts wide narrow ≡ true → holds narrow act ≡ true → holds wide act ≡ true
unfolding covers_acts
acts_cover wide narrow act covered held =
    ⊎_elim
    (λ missing. absurd (false≢true (sym (not_from_true (holds narrow act) held) ∙ missing)))
    (λ is. is)
    (or_cases (not (holds narrow act)) (holds wide act) (each_act (λ a. not (holds narrow a) || holds wide a) act covered))

-- ---- principals

spoken : (principals : Principals) (old new : Rules) (asker : Asker) (principal : ℕ) → speaks principals asker ≡ true → IsAsker old new asker principal →
    speaks_of principals principal ≡ true
spoken Any old new asker principal h is = refl
spoken (Only one) old new Every principal h is = absurd (false≢true h)
spoken (Only one) old new (One number) principal h is = eq-eqb one principal (eqb-true one number h ∙ is)
spoken (Only one) old new (But number) principal h is = absurd (false≢true h)
spoken (Only one) old new Others principal h is = absurd (false≢true h)

-- whom a rule of the policy names, a rule of either of the two does
abbrev pub IsEither : Rules → Rules → List Rule → Type 0
IsEither old new rules = (principal : ℕ) → is_named rules principal ≡ true → (is_named old.rules principal ≡ true) ⊎ (is_named new.rules principal ≡ true)

pub is_old : (old new : Rules) → IsEither old new old.rules
is_old old new = λ principal named. inl named

pub is_new : (old new : Rules) → IsEither old new new.rules
is_new old new = λ principal named. inr named

may_be_spoken : (principals : Principals) (old new : Rules) (asker : Asker) (principal : ℕ) → speaks_of principals principal ≡ true → IsAsker old new asker principal →
    (names principal principals ≡ true → (is_named old.rules principal ≡ true) ⊎ (is_named new.rules principal ≡ true)) → may_speak principals asker ≡ true
may_be_spoken Any old new asker principal h is named = refl
may_be_spoken (Only one) old new Every principal h is named = refl
may_be_spoken (Only one) old new (One number) principal h is named = eq-eqb one number (eqb-true one principal h ∙ sym is)
may_be_spoken (Only one) old new (But number) principal h is named =
    ap not (ne_eqb one number (λ (same : one ≡ number). is (sym same ∙ eqb-true one principal h)))
may_be_spoken (Only one) old new Others principal h is named =
    ⊎_elim
    (λ by_old. absurd (true≢false (sym by_old ∙ is.0)))
    (λ by_new. absurd (true≢false (sym by_new ∙ is.1)))
    (named h)

-- ---- rules

-- a rule that reaches each request of a scope matches those on the channels that it covers
pub reached : (rule : Rule) (old new : Rules) (scope : Scope) (question : Question) → reaches_each rule scope ≡ true → IsIn old new scope question →
    covers rule.channel question.channel ≡ true → matches rule question ≡ true
unfolding reaches_each
reached rule old new scope question h is covered =
    let all = and_parts (speaks rule.principals scope.asker && covers_acts rule.acts scope.acts && int_le rule.low scope.low) (int_le scope.high rule.high) h in
    let three = and_parts (speaks rule.principals scope.asker && covers_acts rule.acts scope.acts) (int_le rule.low scope.low) all.0 in
    let two = and_parts (speaks rule.principals scope.asker) (covers_acts rule.acts scope.acts) three.0 in
    let from = le_from_test rule.low scope.low three.1 in
    let to = le_from_test scope.high rule.high all.1 in
    let low = is.low in
    let high = is.high in
    of_parts rule question (record {
      speaks = spoken rule.principals old new scope.asker question.principal two.0 is.asker;
      act_held = acts_cover rule.acts scope.acts question.act two.1 is.act;
      covered = covered;
      low = omega (arith, ints);
      high = omega (arith, ints);
    })

-- a rule of either policy that matches a request of the scope is one that may match
pub not_missed : (rules : List Rule) (at : ℕ) (rule : Rule) (old new : Rules) (scope : Scope) (channel : Shape) (question : Question) → IsEither old new rules → at < length rules →
    get_or rules at rule ≡ rule → IsIn old new scope question → question.channel ≡ channel → matches rule question ≡ true → may_match rule scope channel ≡ true
unfolding may_reach
not_missed rules at rule old new scope channel question either inside stands is same h =
    let parts = parts_of rule question h in
    let low = is.low in
    let high = is.high in
    let above = parts.low in
    let below = parts.high in
    let named : names question.principal rule.principals ≡ true → (is_named old.rules question.principal ≡ true) ⊎ (is_named new.rules question.principal ≡ true) =
    λ by_name. either question.principal (list_any_at (λ (r : Rule). names question.principal r.principals) rules at rule inside
    (ap (λ (r : Rule). names question.principal r.principals) stands ∙ by_name)) in
    and_from _ _
    (and_from _ _
    (and_from _ _
    (and_from _ _
    (may_be_spoken rule.principals old new scope.asker question.principal parts.speaks is.asker named)
    (acts_meet rule.acts scope.acts question.act parts.act_held is.act))
    (test_from_le rule.low scope.high (omega (arith, ints))))
    (test_from_le scope.low rule.high (omega (arith, ints))))
    (subst (λ (c : Shape). covers rule.channel c ≡ true) same parts.covered)

-- ---- what is left of a scope

and_beq_true : (a b : Bool) → a ≡ true → b ≡ true → (a && beq b true) ≡ true
and_beq_true true true first second = refl
and_beq_true true false first second = absurd (false≢true second)
and_beq_true false b first second = absurd (false≢true first)

-- an act that the scope and the rule hold is left
pub act_left : (rule : Rule) (scope : Scope) (acts : Acts) (act : Act) → ((other : Act) → holds acts other ≡ (holds scope.acts other && beq (holds rule.acts other) true)) →
    holds scope.acts act ≡ true → holds rule.acts act ≡ true → holds acts act ≡ true
act_left rule scope acts act of_both first second = of_both act ∙ and_beq_true _ _ first second

-- a pattern that is `*` covers every channel
pub any_covers : (pattern : Pattern) (channel : Shape) → pattern ≡ AnyChannel → covers pattern channel ≡ true
unfolding covers
any_covers pattern channel is = subst (λ (p : Pattern). covers p channel ≡ true) (sym is) refl
