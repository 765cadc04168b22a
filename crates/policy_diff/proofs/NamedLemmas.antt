-- The principals that rules name.
use Rattle.std.proofs.Common.{◌≡◌, ℕ, ◌+◌, ◌<◌, Bool, true, false, ◌||◌, List, [], ◌∷◌, ◌++◌, length, get_or, take, refl, sym, ap, ◌∙◌, subst, arith, eqb}
use Rattle.std.proofs.lemmas.Bool.{eqb-true, or_parts}
use Rattle.std.proofs.lemmas.List.Folds.{list_any-append, list_any_more}
use Rattle.policy_core.specs.RuleList.{Rules}
use Rattle.policy_core.specs.declared.rule.Rule.{Rule}
use Rattle.policy_diff.specs.Adding.{AreNamed}
use Rattle.policy_diff.specs.Askers.{AddsNamed, is_among}
use Rattle.policy_diff.specs.Scope.{is_named, names}

or_false : (b : Bool) → (b || false) ≡ b
or_false true = refl
or_false false = refl

pub named_one : (old : List ℕ) (number : ℕ) → AddsNamed old (old ++ number ∷ []) (λ other. eqb number other)
named_one old number = record {
  all = λ other. list_any-append (λ o. eqb o other) old (number ∷ []) ∙ ap (λ b. is_among old other || b) (or_false (eqb number other));
}

or_absorbs : (a b : Bool) → (b ≡ true → a ≡ true) → a ≡ (a || b)
or_absorbs true b h = refl
or_absorbs false true h = h refl
or_absorbs false false h = refl

pub named_there : (old : List ℕ) (number : ℕ) → is_among old number ≡ true → AddsNamed old old (λ other. eqb number other)
named_there old number there = record {
  all = λ other. or_absorbs _ _ (λ same. subst (λ (n : ℕ). is_among old n ≡ true) (eqb-true number other same) there);
}

pub named_nothing : (old : List ℕ) (chosen : ℕ → Bool) → ((number : ℕ) → chosen number ≡ false) → AddsNamed old old chosen
named_nothing old chosen none = record {
  all = λ other. sym (ap (λ b. is_among old other || b) (none other) ∙ or_false (is_among old other));
}

or_assoc : (a b c : Bool) → ((a || b) || c) ≡ (a || (b || c))
or_assoc true b c = refl
or_assoc false b c = refl

pub named_more : (rules : List Rule) (at : ℕ) (rule : Rule) (first old new : List ℕ) → at < length rules → get_or rules at rule ≡ rule
    → AddsNamed first old (is_named (take at rules)) → AddsNamed old new (λ number. names number rule.principals)
    → AddsNamed first new (is_named (take (at + 1) rules))
named_more rules at rule first old new inside is before more = record {
  all = λ number.
      more.all number ∙ ap (λ b. b || names number rule.principals) (before.all number)
      ∙ or_assoc (is_among first number) (is_named (take at rules) number) (names number rule.principals)
      ∙ ap (λ b. is_among first number || b) (sym (
      list_any_more (λ r. names number r.principals) rules at rule inside
      ∙ ap (λ (r : Rule). is_named (take at rules) number || names number r.principals) is));
}

-- the principals that rules of two policies name
pub are_named : (old new : Rules) (middle named : List ℕ) → AddsNamed [] middle (is_named old.rules) → AddsNamed middle named (is_named new.rules) → AreNamed old new named
are_named old new middle named first second = λ principal absent.
    let last = or_parts (is_among middle principal) (is_named new.rules principal) (sym (second.all principal) ∙ absent) in
    (sym (first.all principal) ∙ last.0, last.1)
