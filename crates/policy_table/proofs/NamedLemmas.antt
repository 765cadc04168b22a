-- The principals that rules name.
use Rattle.std.proofs.Common.{◌≡◌, ℕ, ◌+◌, ◌<◌, ◌≤◌, Bool, true, false, cond, ◌||◌, List, [], ◌∷◌, ◌++◌, length, get_or, take, refl, sym, ap, ◌∙◌, subst, ⊎_elim, arith, eqb}
use Rattle.std.proofs.lemmas.Bool.{cases_Bool, cond-false, cond-true, eqb-true, false≢true, or_parts}
use Rattle.std.proofs.lemmas.List.Folds.{list_any-append, list_any_more}
use Rattle.std.proofs.lemmas.List.Sums.{sum_by-append}
use Rattle.std.specs.List.{count_by}
use Rattle.policy_core.specs.declared.rule.Rule.{Rule}
use Rattle.policy_table.specs.Scope.{AddsNamed, is_among, is_named, names}

counted : (one : ℕ) (numbers : List ℕ) (number : ℕ) → count_by (λ other. eqb other number) (one ∷ numbers)
    ≡ (0 + cond (eqb one number) 1 0) + count_by (λ other. eqb other number) numbers
counted one numbers number = sum_by-append (λ other. cond (eqb other number) 1 0) (one ∷ []) numbers

pub none_among : (numbers : List ℕ) (number : ℕ) → is_among numbers number ≡ false → count_by (λ other. eqb other number) numbers ≡ 0
none_among [] number h = refl
none_among (one ∷ numbers) number h =
    let parts = or_parts (eqb one number) (is_among numbers number) h in
    counted one numbers number
    ∙ ap (λ (n : ℕ). (0 + n) + count_by (λ other. eqb other number) numbers) (cond-false (eqb one number) 1 0 parts.0)
    ∙ ap (λ (n : ℕ). (0 + 0) + n) (none_among numbers number parts.1)

pub some_among : (numbers : List ℕ) (number : ℕ) → is_among numbers number ≡ true → 1 ≤ count_by (λ other. eqb other number) numbers
some_among [] number h = absurd (false≢true h)
some_among (one ∷ numbers) number h =
    ⊎_elim
    (λ (here : eqb one number ≡ true).
    let whole = counted one numbers number
    ∙ ap (λ (n : ℕ). (0 + n) + count_by (λ other. eqb other number) numbers) (cond-true (eqb one number) 1 0 here) in
    subst (λ (n : ℕ). 1 ≤ n) (sym whole) (omega arith))
    (λ (past : eqb one number ≡ false).
    let whole = counted one numbers number
    ∙ ap (λ (n : ℕ). (0 + n) + count_by (λ other. eqb other number) numbers) (cond-false (eqb one number) 1 0 past) in
    let rest = some_among numbers number (ap (λ b. b || is_among numbers number) (sym past) ∙ h) in
    subst (λ (n : ℕ). 1 ≤ n) (sym whole) (omega (arith, rest)))
    (cases_Bool (eqb one number))

or_false : (b : Bool) → (b || false) ≡ b
or_false true = refl
or_false false = refl

once_more : (old : List ℕ) (number other : ℕ) → is_among old number ≡ false → count_by (λ o. eqb o other) old ≤ 1
    → count_by (λ o. eqb o other) (old ++ number ∷ []) ≤ 1
once_more old number other none few =
    let whole : count_by (λ o. eqb o other) (old ++ number ∷ []) ≡ count_by (λ o. eqb o other) old + (0 + cond (eqb number other) 1 0) =
    sum_by-append (λ o. cond (eqb o other) 1 0) old (number ∷ []) in
    ⊎_elim
    (λ (same : eqb number other ≡ true).
    let zero : count_by (λ o. eqb o other) old ≡ 0 = subst (λ (n : ℕ). count_by (λ o. eqb o n) old ≡ 0) (eqb-true number other same) (none_among old number none) in
    let total = whole ∙ ap (λ (n : ℕ). n + (0 + cond (eqb number other) 1 0)) zero ∙ ap (λ (n : ℕ). 0 + (0 + n)) (cond-true (eqb number other) 1 0 same) in
    subst (λ (n : ℕ). n ≤ 1) (sym total) (omega arith))
    (λ (apart : eqb number other ≡ false).
    let total = whole ∙ ap (λ (n : ℕ). count_by (λ o. eqb o other) old + (0 + n)) (cond-false (eqb number other) 1 0 apart) in
    subst (λ (n : ℕ). n ≤ 1) (sym total) (omega (arith, few)))
    (cases_Bool (eqb number other))

pub named_one : (old : List ℕ) (number : ℕ) → is_among old number ≡ false → AddsNamed old (old ++ number ∷ []) (λ other. eqb number other)
named_one old number none = record {
  all = λ other. list_any-append (λ o. eqb o other) old (number ∷ []) ∙ ap (λ b. is_among old other || b) (or_false (eqb number other));
  once = λ other few. once_more old number other none few;
}

or_absorbs : (a b : Bool) → (b ≡ true → a ≡ true) → a ≡ (a || b)
or_absorbs true b h = refl
or_absorbs false true h = h refl
or_absorbs false false h = refl

pub named_there : (old : List ℕ) (number : ℕ) → is_among old number ≡ true → AddsNamed old old (λ other. eqb number other)
named_there old number there = record {
  all = λ other. or_absorbs _ _ (λ same. subst (λ (n : ℕ). is_among old n ≡ true) (eqb-true number other same) there);
  once = λ other few. few;
}

pub named_nothing : (old : List ℕ) (chosen : ℕ → Bool) → ((number : ℕ) → chosen number ≡ false) → AddsNamed old old chosen
named_nothing old chosen none = record {
  all = λ other. sym (ap (λ b. is_among old other || b) (none other) ∙ or_false (is_among old other));
  once = λ other few. few;
}

or_assoc : (a b c : Bool) → ((a || b) || c) ≡ (a || (b || c))
or_assoc true b c = refl
or_assoc false b c = refl

pub named_more : (rules : List Rule) (at : ℕ) (rule : Rule) (first old new : List ℕ) → at < length rules → get_or rules at rule ≡ rule
    → AddsNamed first old (is_named (take at rules)) → AddsNamed old new (λ number. names number rule.principals)
    → AddsNamed first new (is_named (take (at + 1) rules))
named_more rules at rule first old new inside is before more = record {
  all = λ number.
      more.all number ∙ ap (λ b. b || names number rule.principals) (before.all number)
      ∙ or_assoc (is_among first number) (is_named (take at rules) number) (names number rule.principals)
      ∙ ap (λ b. is_among first number || b) (sym (
      list_any_more (λ r. names number r.principals) rules at rule inside
      ∙ ap (λ (r : Rule). is_named (take at rules) number || names number r.principals) is));
  once = λ number few. more.once number (before.once number few);
}
