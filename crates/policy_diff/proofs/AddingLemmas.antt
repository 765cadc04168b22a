-- Rows that are added, one after the other.
use Rattle.std.proofs.Common.{◌≡◌, ℕ, ℤ, pos, negsuc, ◌+◌, ◌<◌, ◌≤◌, ◌≤ℤ◌, ◌<ℤ◌, ◌+ℤ◌, Bool, true, false, not, ◌&&◌, ◌||◌, List, [], ◌∷◌, ◌++◌, Option, Some, None, length, get_or, slice_get, take, refl, sym, ap, ◌∙◌, subst, ⊎_elim, inl, inr, arith, eqb}
use Rattle.std.specs.Prelude.{◌⊎◌, IfSome}
use Rattle.std.specs.Bool.{beq}
use Rattle.std.specs.List.{All, Contains}
use Rattle.std.proofs.lemmas.Bool.{cases_Bool, cases_eq, eq-eqb, eqb-true, false≢true, true≢false}
use Rattle.std.proofs.lemmas.Int.{ints}
use Rattle.std.proofs.lemmas.List.{take_all}
use Rattle.std.proofs.lemmas.List.Elements.{All-get_or, All-nil, All-push, Contains-append_left, Contains-push}
use Rattle.std.proofs.lemmas.List.Folds.{list_any_more}
use Rattle.std.proofs.lemmas.Option.{slice_get_within, slice_get-get_or}
use Rattle.policy_core.specs.Act.{act_number}
use Rattle.policy_core.specs.Acts.{holds}
use Rattle.policy_core.specs.Question.{Question}
use Rattle.policy_core.specs.RuleList.{Rules}
use Rattle.policy_core.specs.declared.act.Act.{Act}
use Rattle.policy_core.specs.declared.acts.Acts.{Acts}
use Rattle.policy_diff.specs.Adding.{Adds, AddsScope, AreNamed, AreWordsApart, IsFound, IsOfOne, IsOfPair, IsOfScope, IsPairOf, IsTakenOff, IsWholePair, NoneIsLeft}
use Rattle.policy_diff.specs.Askers.{is_among}
use Rattle.policy_diff.specs.Deciding.{IsDecidedBy, IsExample}
use Rattle.policy_diff.specs.Diff.{AreApart, IsDiff, IsShown, IsSound, SpeaksOf, all_pairs, word_of}
use Rattle.policy_diff.specs.Examples.{asked_by}
use Rattle.policy_diff.specs.Scope.{IsAsker, IsIn, IsStream, is_named}
use Rattle.policy_diff.specs.declared.examples.Example.{Example}
use Rattle.policy_diff.specs.declared.pairs.Deciders.{Deciders}
use Rattle.policy_diff.specs.declared.diff_rows.Pair.{Pair}
use Rattle.policy_diff.specs.declared.diff_rows.Row.{Row}
use Rattle.policy_diff.specs.declared.scope.Asker.{Asker}
use Rattle.policy_diff.specs.declared.scope.Asker.TheVariants.{But, One, Others}
use Rattle.policy_diff.specs.declared.scope.Scope.{Scope}
use Rattle.policy_diff.proofs.DiffLemmas.{apart_of_words, is_of_deciders, missed_by_none, words_of_apart}
use Rattle.policy_diff.proofs.PlaceLemmas.{both_decide}
use Rattle.policy_diff.proofs.ScopeLemmas.{act_below}

-- ---- one after the other

pub adds_nothing : (old new : Rules) (chosen : Question → Type 0) (rows : List Row) → ((question : Question) → chosen question → ⊥) → Adds old new chosen rows rows
adds_nothing old new chosen rows none = record {
  sound = λ all. all;
  kept = λ question is. is;
  found = λ question is. absurd (none question is);
}

pub adds_then : (old new : Rules) (f g h : Question → Type 0) (a b c : List Row) → Adds old new f a b → Adds old new g b c →
    ((question : Question) → h question → f question ⊎ g question) → Adds old new h a c
adds_then old new f g h a b c first second either = record {
  sound = λ all. second.sound (first.sound all);
  kept = λ question is. second.kept question (first.kept question is);
  found = λ question is.
      ⊎_elim
      (λ one. second.kept question (first.found question one))
      (λ other. second.found question other)
      (either question is);
}

pub adds_fewer : (old new : Rules) (f h : Question → Type 0) (a b : List Row) → Adds old new f a b → ((question : Question) → h question → f question) → Adds old new h a b
adds_fewer old new f h a b adds fewer = record {
  sound = adds.sound;
  kept = adds.kept;
  found = λ question is. adds.found question (fewer question is);
}

-- ---- a row

found_more : (old new : Rules) (rows : List Row) (row : Row) (question : Question) → IsFound old new rows question → IsFound old new (rows ++ row ∷ []) question
found_more old new rows row question is = record {
  row = is.row;
  listed = Contains-append_left rows (row ∷ []) is.row is.listed;
  within = is.within;
  decided = is.decided;
}

pub row_added : (old new : Rules) (deciders : Deciders) (scope : Scope) (rows : List Row) (row : Row) → IsSound old new row → row.deciders ≡ deciders → row.scope ≡ scope →
    AddsScope old new deciders scope rows (rows ++ row ∷ [])
row_added old new deciders scope rows row sound same_deciders same_scope = record {
  sound = λ all. All-push (IsSound old new) rows row all sound;
  kept = λ question is. found_more old new rows row question is;
  found = λ question is. record {
    row = row;
    listed = Contains-push rows row;
    within = subst (λ (s : Scope). IsIn old new s question) (sym same_scope) is.within;
    decided = subst (λ (d : Deciders). IsDecidedBy old new question d) (sym same_deciders) is.pair.decided;
  };
}

pub sound_row : (old new : Rules) (deciders : Deciders) (scope : Scope) (example : Option Example) → AreWordsApart old new deciders →
    IfSome example (IsExample old new deciders scope) → IsSound old new (record { deciders = deciders; scope = scope; example = example })
sound_row old new deciders scope None words is = tt
sound_row old new deciders scope (Some example) words is = record {
  within = is.within;
  decided = λ question inside same. is_of_deciders old new question deciders (both_decide old new deciders scope example question is inside same);
  apart = λ question inside same. apart_of_words old new question deciders (both_decide old new deciders scope example question is inside same) words;
}

pub none_added : (old new : Rules) (deciders : Deciders) (scope : Scope) (rows : List Row) → NoneIsLeft old new deciders scope → AddsScope old new deciders scope rows rows
none_added old new deciders scope rows none =
    adds_nothing old new (IsOfScope old new deciders scope) rows (λ question is. none question is.within is.pair.decided)

-- a request of a scope is of one that differs from it in its askers alone
moved : (old new : Rules) (scope part : Scope) (question : Question) → part.acts ≡ scope.acts → part.low ≡ scope.low → part.high ≡ scope.high →
    IsAsker old new part.asker question.principal → IsIn old new scope question → IsIn old new part question
moved old new scope part question acts low high asks is = record {
  asker = asks;
  act = ap (λ (a : Acts). holds a question.act) acts ∙ is.act;
  low = subst (λ (z : ℤ). z ≤ℤ question.stream) (sym low) is.low;
  high = subst (λ (z : ℤ). question.stream ≤ℤ z) (sym high) is.high;
}

-- ---- of each principal

-- a request of the scope of one of these principals
pub record IsOfSome (old new : Rules) (deciders : Deciders) (scope : Scope) (numbers : List ℕ) (question : Question) : Type 0 where
  pub inside : IsOfScope old new deciders scope question
  pub among : is_among numbers question.principal ≡ true

or_cases_of : (a b : Bool) → (a || b) ≡ true → (a ≡ true) ⊎ (b ≡ true)
or_cases_of true b h = inl refl
or_cases_of false b h = inr h

pub each_starts : (old new : Rules) (deciders : Deciders) (scope : Scope) (rows : List Row) → Adds old new (IsOfSome old new deciders scope []) rows rows
each_starts old new deciders scope rows =
    adds_nothing old new (IsOfSome old new deciders scope []) rows (λ question is. false≢true is.among)

pub each_goes_on : (old new : Rules) (deciders : Deciders) (scope one : Scope) (named : List ℕ) (at number d : ℕ) (first before after : List Row) → at < length named →
    number ≡ get_or named at d → one.asker ≡ One number → one.acts ≡ scope.acts → one.low ≡ scope.low → one.high ≡ scope.high →
    Adds old new (IsOfSome old new deciders scope (take at named)) first before → AddsScope old new deciders one before after →
    Adds old new (IsOfSome old new deciders scope (take (at + 1) named)) first after
each_goes_on old new deciders scope one named at number d first before after inside is asker acts low high so_far more =
    adds_then old new (IsOfSome old new deciders scope (take at named)) (IsOfScope old new deciders one) (IsOfSome old new deciders scope (take (at + 1) named)) first before after so_far more
    (λ question of_some.
    ⊎_elim
    (λ (earlier : is_among (take at named) question.principal ≡ true). inl (record { inside = of_some.inside; among = earlier }))
    (λ (here : eqb (get_or named at d) question.principal ≡ true).
    let within = of_some.inside.within in
    let asks : number ≡ question.principal = is ∙ eqb-true _ _ here in
    inr (record {
      pair = of_some.inside.pair;
      within = moved old new scope one question acts low high (subst (λ (a : Asker). IsAsker old new a question.principal) (sym asker) asks) within;
    }))
    (or_cases_of _ _ (sym (list_any_more (λ other. eqb other question.principal) named at d inside) ∙ of_some.among)))

pub each_ends : (old new : Rules) (deciders : Deciders) (scope others : Scope) (named : List ℕ) (at : ℕ) (first before after : List Row) → length named ≤ at →
    others.asker ≡ Others → others.acts ≡ scope.acts → others.low ≡ scope.low → others.high ≡ scope.high → AreNamed old new named →
    Adds old new (IsOfSome old new deciders scope (take at named)) first before → AddsScope old new deciders others before after →
    AddsScope old new deciders scope first after
each_ends old new deciders scope others named at first before after all asker acts low high are so_far more =
    adds_then old new (IsOfSome old new deciders scope (take at named)) (IsOfScope old new deciders others) (IsOfScope old new deciders scope) first before after so_far more
    (λ question is.
    ⊎_elim
    (λ (there : is_among named question.principal ≡ true).
    inl (record { inside = is; among = ap (λ (numbers : List ℕ). is_among numbers question.principal) (take_all at named all) ∙ there }))
    (λ (absent : is_among named question.principal ≡ false).
    let within = is.within in
    inr (record {
      pair = is.pair;
      within = moved old new scope others question acts low high (subst (λ (a : Asker). IsAsker old new a question.principal) (sym asker) (are question.principal absent)) within;
    }))
    (cases_Bool (is_among named question.principal)))

-- of one principal, and of all but that one
pub two_added : (old new : Rules) (deciders : Deciders) (scope one but : Scope) (number : ℕ) (first before after : List Row) →
    one.asker ≡ One number → one.acts ≡ scope.acts → one.low ≡ scope.low → one.high ≡ scope.high →
    but.asker ≡ But number → but.acts ≡ scope.acts → but.low ≡ scope.low → but.high ≡ scope.high →
    AddsScope old new deciders one first before → AddsScope old new deciders but before after → AddsScope old new deciders scope first after
two_added old new deciders scope one but number first before after one_asker one_acts one_low one_high but_asker but_acts but_low but_high so_far more =
    adds_then old new (IsOfScope old new deciders one) (IsOfScope old new deciders but) (IsOfScope old new deciders scope) first before after so_far more
    (λ question is.
    let within = is.within in
    ⊎_elim
    (λ (here : number ≡ question.principal).
    inl (record {
      pair = is.pair;
      within = moved old new scope one question one_acts one_low one_high (subst (λ (a : Asker). IsAsker old new a question.principal) (sym one_asker) here) within;
    }))
    (λ (apart : number ≡ question.principal → ⊥).
    inr (record {
      pair = is.pair;
      within = moved old new scope but question but_acts but_low but_high (subst (λ (a : Asker). IsAsker old new a question.principal) (sym but_asker) apart) within;
    }))
    (cases_eq number question.principal))

-- ---- from stream to stream

-- a request of the scope on a stream below this one
pub record IsBelow (old new : Rules) (deciders : Deciders) (scope : Scope) (low : ℤ) (question : Question) : Type 0 where
  pub inside : IsOfScope old new deciders scope question
  pub below : question.stream <ℤ low

-- a request of a scope is of a part of it with its stream
between : (old new : Rules) (scope part : Scope) (low high : ℤ) (question : Question) → part.asker ≡ scope.asker → part.acts ≡ scope.acts → part.low ≡ low → part.high ≡ high →
    IsIn old new scope question → low ≤ℤ question.stream → question.stream ≤ℤ high → IsIn old new part question
between old new scope part low high question asker acts part_low part_high is from upto = record {
  asker = subst (λ (a : Asker). IsAsker old new a question.principal) (sym asker) is.asker;
  act = ap (λ (a : Acts). holds a question.act) acts ∙ is.act;
  low = subst (λ (z : ℤ). z ≤ℤ question.stream) (sym part_low) from;
  high = subst (λ (z : ℤ). question.stream ≤ℤ z) (sym part_high) upto;
}

int_cases : (a b : ℤ) → (a <ℤ b) ⊎ (b ≤ℤ a)
int_cases a b = grind (arith, ints)

pub no_streams : (old new : Rules) (deciders : Deciders) (scope : Scope) (rows : List Row) → scope.high <ℤ scope.low → AddsScope old new deciders scope rows rows
no_streams old new deciders scope rows empty =
    adds_nothing old new (IsOfScope old new deciders scope) rows
    (λ question is. let low = is.within.low in let high = is.within.high in omega (arith, ints, low, high, empty))

pub streams_start : (old new : Rules) (deciders : Deciders) (scope : Scope) (rows : List Row) → Adds old new (IsBelow old new deciders scope scope.low) rows rows
streams_start old new deciders scope rows =
    adds_nothing old new (IsBelow old new deciders scope scope.low) rows
    (λ question is. let low = is.inside.within.low in let below = is.below in omega (arith, ints, low, below))

pub streams_go_on : (old new : Rules) (deciders : Deciders) (scope part : Scope) (low high next : ℤ) (first before after : List Row) →
    Adds old new (IsBelow old new deciders scope low) first before → AddsScope old new deciders part before after →
    part.asker ≡ scope.asker → part.acts ≡ scope.acts → part.low ≡ low → part.high ≡ high → next ≡ high +ℤ pos 1 →
    Adds old new (IsBelow old new deciders scope next) first after
streams_go_on old new deciders scope part low high next first before after so_far more asker acts part_low part_high step =
    adds_then old new (IsBelow old new deciders scope low) (IsOfScope old new deciders part) (IsBelow old new deciders scope next) first before after so_far more
    (λ question is.
    let within = is.inside.within in
    let below = is.below in
    ⊎_elim
    (λ (lower : question.stream <ℤ low). inl (record { inside = is.inside; below = lower }))
    (λ (from : low ≤ℤ question.stream).
    inr (record {
      pair = is.inside.pair;
      within = between old new scope part low high question asker acts part_low part_high within from (omega (arith, ints, below, step));
    }))
    (int_cases question.stream low))

pub streams_end : (old new : Rules) (deciders : Deciders) (scope part : Scope) (low high : ℤ) (first before after : List Row) →
    Adds old new (IsBelow old new deciders scope low) first before → AddsScope old new deciders part before after →
    part.asker ≡ scope.asker → part.acts ≡ scope.acts → part.low ≡ low → part.high ≡ high → high ≡ scope.high →
    AddsScope old new deciders scope first after
streams_end old new deciders scope part low high first before after so_far more asker acts part_low part_high end =
    adds_then old new (IsBelow old new deciders scope low) (IsOfScope old new deciders part) (IsOfScope old new deciders scope) first before after so_far more
    (λ question is.
    let within = is.within in
    let upto = within.high in
    ⊎_elim
    (λ (lower : question.stream <ℤ low). inl (record { inside = is; below = lower }))
    (λ (from : low ≤ℤ question.stream).
    inr (record {
      pair = is.pair;
      within = between old new scope part low high question asker acts part_low part_high within from (subst (λ (z : ℤ). question.stream ≤ℤ z) (sym end) upto);
    }))
    (int_cases question.stream low))

-- ---- act by act

-- a request of the scope whose act is none of those left
pub record IsDone (old new : Rules) (deciders : Deciders) (scope : Scope) (left : Acts) (question : Question) : Type 0 where
  pub inside : IsOfScope old new deciders scope question
  pub done : holds left question.act ≡ false

pub acts_start : (old new : Rules) (deciders : Deciders) (scope : Scope) (rows : List Row) → Adds old new (IsDone old new deciders scope scope.acts) rows rows
acts_start old new deciders scope rows =
    adds_nothing old new (IsDone old new deciders scope scope.acts) rows (λ question is. true≢false (sym is.inside.within.act ∙ is.done))

pub acts_go_on : (old new : Rules) (deciders : Deciders) (scope : Scope) (left acts : Acts) (first before after : List Row) →
    Adds old new (IsDone old new deciders scope left) first before → Adds old new (IsTakenOff old new deciders scope left acts) before after →
    Adds old new (IsDone old new deciders scope acts) first after
acts_go_on old new deciders scope left acts first before after so_far more =
    adds_then old new (IsDone old new deciders scope left) (IsTakenOff old new deciders scope left acts) (IsDone old new deciders scope acts) first before after so_far more
    (λ question is.
    ⊎_elim
    (λ (held : holds left question.act ≡ true). inr (record { inside = is.inside; before = held; after = is.done }))
    (λ (done : holds left question.act ≡ false). inl (record { inside = is.inside; done = done }))
    (cases_Bool (holds left question.act)))

pub acts_end : (old new : Rules) (deciders : Deciders) (scope : Scope) (left : Acts) (first after : List Row) → ((act : Act) → act_number act < 14 → holds left act ≡ false) →
    Adds old new (IsDone old new deciders scope left) first after → AddsScope old new deciders scope first after
acts_end old new deciders scope left first after none so_far =
    adds_fewer old new (IsDone old new deciders scope left) (IsOfScope old new deciders scope) first after so_far
    (λ question is. record { inside = is; done = none question.act (act_below question.act) })

and_beq : (a b : Bool) → (a && beq b false) ≡ false → a ≡ true → b ≡ true
and_beq true true h is = refl
and_beq true false h is = absurd (true≢false h)
and_beq false b h is = absurd (false≢true is)

-- the acts that are like one of them are taken off
pub taken_off : (old new : Rules) (deciders : Deciders) (scope part : Scope) (left acts after : Acts) (rows more : List Row) →
    AddsScope old new deciders part rows more → part.asker ≡ scope.asker → part.acts ≡ acts → part.low ≡ scope.low → part.high ≡ scope.high →
    ((act : Act) → holds after act ≡ (holds left act && beq (holds acts act) false)) →
    Adds old new (IsTakenOff old new deciders scope left after) rows more
taken_off old new deciders scope part left acts after rows more adds asker part_acts low high off =
    adds_fewer old new (IsOfScope old new deciders part) (IsTakenOff old new deciders scope left after) rows more adds
    (λ question is.
    let within = is.inside.within in
    let held : holds acts question.act ≡ true = and_beq _ _ (sym (off question.act) ∙ is.after) is.before in
    record {
      pair = is.inside.pair;
      within = record {
        asker = subst (λ (a : Asker). IsAsker old new a question.principal) (sym asker) within.asker;
        act = ap (λ (a : Acts). holds a question.act) part_acts ∙ held;
        low = subst (λ (z : ℤ). z ≤ℤ question.stream) (sym low) within.low;
        high = subst (λ (z : ℤ). question.stream ≤ℤ z) (sym high) within.high;
      };
    })

and_of_true : (a b : Bool) → b ≡ true → (a && beq b false) ≡ false
and_of_true true b is = ap (λ c. beq c false) is
and_of_true false b is = refl

and_of_false : (a b : Bool) → a ≡ false → (a && b) ≡ false
and_of_false a b is = ap (λ c. c && b) is

or_true : (b : Bool) → (b || true) ≡ true
or_true true = refl
or_true false = refl

-- the act itself is taken off
pub act_off : (like acts left after : Acts) (act : Act) → ((other : Act) → holds acts other ≡ (holds like other || eqb (act_number act) (act_number other))) →
    ((other : Act) → holds after other ≡ (holds left other && beq (holds acts other) false)) → holds after act ≡ false
act_off like acts left after act with off =
    let held : holds acts act ≡ true = with act ∙ ap (λ b. holds like act || b) (eq-eqb (act_number act) (act_number act) refl) ∙ or_true (holds like act) in
    off act ∙ and_of_true _ _ held

-- what was not left is not left then
pub still_off : (acts left after : Acts) (act : Act) → ((other : Act) → holds after other ≡ (holds left other && beq (holds acts other) false)) →
    holds left act ≡ false → holds after act ≡ false
still_off acts left after act off was = off act ∙ and_of_false _ _ was

pub none_taken_off : (old new : Rules) (deciders : Deciders) (scope : Scope) (left : Acts) (rows : List Row) → Adds old new (IsTakenOff old new deciders scope left left) rows rows
none_taken_off old new deciders scope left rows =
    adds_nothing old new (IsTakenOff old new deciders scope left left) rows (λ question is. true≢false (sym is.before ∙ is.after))

-- none of the acts up to this one is left
pub none_more : (before after : Acts) (number : ℕ) (at : Act) → act_number at ≡ number → holds after at ≡ false →
    ((act : Act) → holds before act ≡ false → holds after act ≡ false) → ((act : Act) → act_number act < number → holds before act ≡ false) →
    (act : Act) → act_number act < number + 1 → holds after act ≡ false
none_more before after number at is here fewer none = λ act small.
    ⊎_elim
    (λ (same : act_number act ≡ number). ap (λ (n : ℕ). get_or after.held n false) (same ∙ sym is) ∙ here)
    (λ (apart : act_number act ≡ number → ⊥). fewer act (none act (omega (arith, small, apart))))
    (cases_eq (act_number act) number)

-- ---- pair by pair

-- the first so many
abbrev pub IsOfFirst : Rules → Rules → List Deciders → ℕ → Question → Type 0
IsOfFirst old new pairs count question =
    (at : ℕ) × (deciders : Deciders) × (at < count) × (slice_get pairs at ≡ Some deciders) × IsWholePair old new deciders question

pub pairs_start : (old new : Rules) (pairs : List Deciders) (rows : List Row) → Adds old new (IsOfFirst old new pairs 0) rows rows
pairs_start old new pairs rows = adds_nothing old new (IsOfFirst old new pairs 0) rows (λ question is. let low = is.2 in omega (arith, low))

pub pairs_go_on : (old new : Rules) (pairs : List Deciders) (at : ℕ) (deciders : Deciders) (first before after : List Row) →
    Adds old new (IsOfFirst old new pairs at) first before → Adds old new (IsWholePair old new deciders) before after → slice_get pairs at ≡ Some deciders →
    Adds old new (IsOfFirst old new pairs (at + 1)) first after
pairs_go_on old new pairs at deciders first before after so_far more stands =
    adds_then old new (IsOfFirst old new pairs at) (IsWholePair old new deciders) (IsOfFirst old new pairs (at + 1)) first before after so_far more
    (λ question is.
    ⊎_elim
    (λ (here : is.0 ≡ at).
    let two : Some is.1 ≡ Some deciders = sym is.3 ∙ ap (slice_get pairs) here ∙ stands in
    let same : is.1 ≡ deciders = cc in
    inr (subst (λ (d : Deciders). IsWholePair old new d question) same is.4))
    (λ (apart : is.0 ≡ at → ⊥). let low = is.2 in inl (is.0, is.1, omega (arith, low, apart), is.3, is.4))
    (cases_eq is.0 at))

pub pairs_end : (old new : Rules) (pairs : List Deciders) (count : ℕ) (first after : List Row) → length pairs ≤ count →
    Adds old new (IsOfFirst old new pairs count) first after → Adds old new (IsOfOne old new pairs) first after
pairs_end old new pairs count first after all so_far =
    adds_fewer old new (IsOfFirst old new pairs count) (IsOfOne old new pairs) first after so_far
    (λ question is.
    let within = slice_get_within pairs is.at is.deciders is.stands in
    (is.at, is.deciders, omega (arith, within, all), is.stands, is.whole))

-- two with one word decide no request with different words
pub same_words : (old new : Rules) (deciders : Deciders) (rows : List Row) → word_of old deciders.old ≡ word_of new deciders.new → Adds old new (IsWholePair old new deciders) rows rows
same_words old new deciders rows same =
    adds_nothing old new (IsWholePair old new deciders) rows (λ question is. words_of_apart old new question deciders is.pair.decided is.pair.apart same)

pub pair_added : (old new : Rules) (deciders : Deciders) (scope : Scope) (before after : List Row) →
    ((question : Question) → IsStream question.stream → IsDecidedBy old new question deciders → IsIn old new scope question) → AddsScope old new deciders scope before after →
    Adds old new (IsWholePair old new deciders) before after
pair_added old new deciders scope before after within adds =
    adds_fewer old new (IsOfScope old new deciders scope) (IsWholePair old new deciders) before after adds
    (λ question is. record { pair = is.pair; within = within question is.stream is.pair.decided })

-- of what is looked at for the two
pub of_pair : (old new : Rules) (deciders : Deciders) (pair : Pair) (scope : Scope) (before after : List Row) → IsPairOf old new deciders pair →
    ((question : Question) → IsStream question.stream → IsDecidedBy old new question deciders → IsIn old new scope question) →
    AddsScope pair.before.now.policy pair.after.now.policy pair.deciders scope before after → Adds old new (IsWholePair old new deciders) before after
of_pair old new deciders pair scope before after is within adds =
    pair_added old new deciders scope before after within
    (subst (λ (d : Deciders). AddsScope old new d scope before after) is.deciders_are
    (subst (λ (n : Rules). AddsScope old n pair.deciders scope before after) is.new_is
    (subst (λ (o : Rules). AddsScope o pair.after.now.policy pair.deciders scope before after) is.old_is adds)))

pub words_of_pair : (old new : Rules) (deciders : Deciders) (pair : Pair) → IsPairOf old new deciders pair → AreWordsApart old new deciders →
    AreWordsApart pair.before.now.policy pair.after.now.policy pair.deciders
words_of_pair old new deciders pair is words =
    subst (λ (o : Rules). AreWordsApart o pair.after.now.policy pair.deciders) (sym is.old_is)
    (subst (λ (n : Rules). AreWordsApart old n pair.deciders) (sym is.new_is)
    (subst (λ (d : Deciders). AreWordsApart old new d) (sym is.deciders_are) words))

pub named_of_pair : (old new : Rules) (deciders : Deciders) (pair : Pair) (named : List ℕ) → IsPairOf old new deciders pair → AreNamed old new named →
    AreNamed pair.before.now.policy pair.after.now.policy named
named_of_pair old new deciders pair named is are =
    subst (λ (o : Rules). AreNamed o pair.after.now.policy named) (sym is.old_is)
    (subst (λ (n : Rules). AreNamed old n named) (sym is.new_is) are)

-- ---- the whole

pub is_diff : (old new : Rules) (pairs : List Deciders) (rows : List Row) → pairs ≡ all_pairs old new → Adds old new (IsOfOne old new pairs) [] rows → IsDiff old new rows
is_diff old new pairs rows are adds = record {
  sound = adds.sound (All-nil (IsSound old new));
  complete = λ question stream apart.
      let missed = missed_by_none old new question apart in
      let deciders = missed.0 in
      let place = subst (λ (all : List Deciders). Contains all deciders) (sym are) missed.1 in
      let stands : slice_get pairs place.0 ≡ Some deciders = slice_get-get_or pairs place.0 deciders place.1 ∙ ap Some place.2 in
      let found = adds.found question (record {
        at = place.0;
        deciders = deciders;
        stands = stands;
        whole = record { stream = stream; pair = record { apart = apart; decided = missed.2 } };
      }) in
      (found.row, found.listed, record { within = found.within; decided = is_of_deciders old new question found.row.deciders found.decided });
}

-- a sound row with an example shows that the policies decide some request otherwise
pub apart_by : (old new : Rules) (row : Row) (example : Example) → row.example ≡ Some example → IsSound old new row → (question : Question) × AreApart old new question
apart_by old new row example is sound =
    let shown : IsShown old new row example = subst (λ (o : Option Example). IfSome o (IsShown old new row)) is sound in
    (asked_by example, shown.apart (asked_by example) shown.within refl)

pub apart_at : (old new : Rules) (rows : List Row) (at : ℕ) (row : Row) → at < length rows → row ≡ get_or rows at row → All (IsSound old new) rows →
    (IsSound old new row → (question : Question) × AreApart old new question) → (question : Question) × AreApart old new question
apart_at old new rows at row inside is all next = next (subst (λ (r : Row). IsSound old new r) (sym is) (All-get_or (IsSound old new) rows at row inside all))
