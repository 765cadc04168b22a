-- Acts that are chosen one after the other.
use Rattle.std.proofs.Common.{◌≡◌, ℕ, ◌+◌, ◌<◌, Bool, true, false, ◌&&◌, ◌||◌, refl, sym, ap, ◌∙◌, get_or, arith, eqb, ltb, ⊎_elim}
use Rattle.std.specs.Bool.{beq}
use Rattle.std.proofs.lemmas.Bool.{cases_order, eq-eqb, le-ltb, lt-ltb, ne_eqb}
use Rattle.policy_core.specs.Act.{act_number}
use Rattle.policy_core.specs.Acts.{holds}
use Rattle.policy_core.specs.declared.act.Act.{Act}
use Rattle.policy_core.specs.declared.acts.Acts.{Acts}
use Rattle.policy_diff.proofs.ScopeLemmas.{act_below}

-- the one holds the act, and the other one as is wanted
abbrev pub of_both : Acts → Acts → Bool → Act → Bool
of_both one other wanted act = holds one act && beq (holds other act) wanted

-- so are the acts below this number
abbrev pub AreChosen : Acts → Acts → Acts → Bool → ℕ → Type 0
AreChosen acts one other wanted number = (act : Act) → holds acts act ≡ (ltb (act_number act) number && of_both one other wanted act)

pub none_chosen : (acts one other : Acts) (wanted : Bool) → ((act : Act) → holds acts act ≡ false) → AreChosen acts one other wanted 0
none_chosen acts one other wanted none = λ act. none act ∙ ap (λ b. b && of_both one other wanted act) (sym (le-ltb (act_number act) 0 (omega arith)))

same_act : (one other : Acts) (wanted : Bool) (act same : Act) → act_number act ≡ act_number same → of_both one other wanted act ≡ of_both one other wanted same
same_act one other wanted act same is =
    ap (λ (n : ℕ). get_or one.held n false && beq (get_or other.held n false) wanted) is

or_false : (b : Bool) → (b || false) ≡ b
or_false true = refl
or_false false = refl

and_false : (b : Bool) → (b && false) ≡ false
and_false true = refl
and_false false = refl

and_true : (b : Bool) → (b && true) ≡ b
and_true true = refl
and_true false = refl

pub more_chosen : (acts next one other : Acts) (wanted chosen : Bool) (number : ℕ) (at : Act) → act_number at ≡ number → chosen ≡ of_both one other wanted at →
    ((act : Act) → holds next act ≡ (holds acts act || (chosen && eqb (act_number at) (act_number act)))) → AreChosen acts one other wanted number →
    AreChosen next one other wanted (number + 1)
more_chosen acts next one other wanted chosen number at is chosen_is with before = λ act.
    let own = act_number act in
    let wish = of_both one other wanted act in
    with act
    ∙ ap (λ b. b || (chosen && eqb (act_number at) own)) (before act)
    ∙ ⊎_elim
    (λ (same : own ≡ number).
    let past : ltb own number ≡ false = le-ltb own number (omega arith) in
    let upto : ltb own (number + 1) ≡ true = lt-ltb own (number + 1) (omega arith) in
    let equal : eqb (act_number at) own ≡ true = eq-eqb _ _ (is ∙ sym same) in
    ap (λ b. (b && wish) || (chosen && eqb (act_number at) own)) past
    ∙ ap (λ b. chosen && b) equal ∙ and_true chosen ∙ chosen_is ∙ same_act one other wanted at act (is ∙ sym same)
    ∙ ap (λ b. b && wish) (sym upto))
    (λ apart.
    ⊎_elim
    (λ (below : own < number).
    let past : ltb own number ≡ true = lt-ltb own number below in
    let upto : ltb own (number + 1) ≡ true = lt-ltb own (number + 1) (omega arith) in
    let differ : eqb (act_number at) own ≡ false = ne_eqb _ _ (λ (e : act_number at ≡ own). absurd (omega arith)) in
    ap (λ b. (ltb own number && wish) || (chosen && b)) differ
    ∙ ap (λ b. (ltb own number && wish) || b) (and_false chosen)
    ∙ or_false (ltb own number && wish)
    ∙ ap (λ b. b && wish) (past ∙ sym upto))
    (λ (above : number < own).
    let past : ltb own number ≡ false = le-ltb own number (omega arith) in
    let upto : ltb own (number + 1) ≡ false = le-ltb own (number + 1) (omega arith) in
    let differ : eqb (act_number at) own ≡ false = ne_eqb _ _ (λ (e : act_number at ≡ own). absurd (omega arith)) in
    ap (λ b. (ltb own number && wish) || (chosen && b)) differ
    ∙ ap (λ b. (ltb own number && wish) || b) (and_false chosen)
    ∙ or_false (ltb own number && wish)
    ∙ ap (λ b. b && wish) (past ∙ sym upto))
    apart)
    (cases_order own number)

pub all_chosen : (acts one other : Acts) (wanted : Bool) (number : ℕ) → 13 < number → AreChosen acts one other wanted number →
    (act : Act) → holds acts act ≡ of_both one other wanted act
all_chosen acts one other wanted number past are = λ act.
    let small = act_below act in
    are act ∙ ap (λ b. b && of_both one other wanted act) (lt-ltb (act_number act) number (omega arith))
