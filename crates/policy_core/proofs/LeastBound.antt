-- The bound until which a policy is steady is the least one after the moment.
use Rattle.std.proofs.Common.{◌≡◌, ℕ, zero, suc, ◌<◌, ◌≤◌, ◌⊎◌, true, List, [], ◌∷◌, ◌++◌, Option, Some, None, refl, ap, sym, subst, nat_lt, true≢false, ⊎_elim, arith, inl, inr, is_some, slice_get}
use Rattle.std.proofs.lemmas.Bool.{cases_Bool}
use Rattle.std.proofs.lemmas.Bool.Decides.{nat_tests}
use Rattle.policy_core.specs.declared.rule.Rule.{Rule}
use Rattle.policy_core.specs.Moments.{bound_of, bounds, bounds_of, steady_until}
use Rattle.policy_core.specs.MomentLaws.{IsBoundOf, IsLeastAfter, is_before}
use Rattle.policy_core.specs.RuleList.{Rules}
use Rattle.policy_core.proofs.Bounds.{AreAhead, all_ahead}
use Rattle.policy_core.proofs.Ever.{Has, least_is_in}

-- a bound of a rule at a place
abbrev IsBoundIn : List Rule → ℕ → Type 0
IsBoundIn rules bound = (place : ℕ) × (rule : Rule) × (slice_get rules place ≡ Some rule) × ((rule.from ≡ Some bound) ⊎ (rule.until ≡ Some bound))

has_more : (bound : ℕ) (some more : List ℕ) → Has bound more → Has bound (some ++ more)
has_more bound [] more h = h
has_more bound (other ∷ some) more h = inr (has_more bound some more h)

has_some : (bound : ℕ) (some more : List ℕ) → Has bound some → Has bound (some ++ more)
has_some bound [] more h = absurd (true≢false h)
has_some bound (other ∷ some) more h = ⊎_elim (λ here. inl here) (λ rest. inr (has_some bound some more rest)) h

has_one : (bound : ℕ) (found : Option ℕ) → found ≡ Some bound → Has bound (bound_of found)
has_one bound None h = absurd (true≢false (sym (ap is_some h)))
has_one bound (Some other) h = inl (let same : bound ≡ other = cc in same)

one_has : (bound : ℕ) (found : Option ℕ) → Has bound (bound_of found) → found ≡ Some bound
one_has bound None h = absurd (true≢false h)
one_has bound (Some other) h = ⊎_elim (λ same. ap (λ (n : ℕ). Some n) (sym same)) (λ no. absurd (true≢false no)) h

parts_of : (bound : ℕ) (some more : List ℕ) → Has bound (some ++ more) → Has bound some ⊎ Has bound more
parts_of bound [] more h = inr h
parts_of bound (other ∷ some) more h = ⊎_elim
    (λ here. inl (inl here))
    (λ rest. ⊎_elim (λ in'. inl (inr in')) (λ after. inr after) (parts_of bound some more rest))
    h

-- bounds of the list are those of its rules
pub in_bounds : (rules : List Rule) (bound place : ℕ) (rule : Rule) → slice_get rules place ≡ Some rule →
    (rule.from ≡ Some bound) ⊎ (rule.until ≡ Some bound) → Has bound (bounds rules)
in_bounds [] bound place rule there is = absurd (true≢false (sym (ap is_some there)))
in_bounds (first ∷ rules) bound zero rule there is =
    let same : first ≡ rule = cc in
    has_some bound (bounds_of first) (bounds rules)
    (subst (λ (r : Rule). Has bound (bounds_of r)) (sym same) (⊎_elim
    (λ begins. has_some bound (bound_of rule.from) (bound_of rule.until) (has_one bound rule.from begins))
    (λ ends. has_more bound (bound_of rule.from) (bound_of rule.until) (has_one bound rule.until ends))
    is))
in_bounds (first ∷ rules) bound (suc place) rule there is =
    has_more bound (bounds_of first) (bounds rules) (in_bounds rules bound place rule there is)

pub of_a_rule : (rules : List Rule) (bound : ℕ) → Has bound (bounds rules) → IsBoundIn rules bound
of_a_rule [] bound h = absurd (true≢false h)
of_a_rule (first ∷ rules) bound h = ⊎_elim
    (λ here. (
      zero,
      first,
      refl,
      ⊎_elim
          (λ begins. inl (one_has bound first.from begins))
          (λ ends. inr (one_has bound first.until ends))
          (parts_of bound (bound_of first.from) (bound_of first.until) here),
    ))
    (λ rest. let found = of_a_rule rules bound rest in (suc found.0, found.1, found.2, found.3))
    (parts_of bound (bounds_of first) (bounds rules) h)

-- a bound that is ahead is so
ahead : (moment later bound : ℕ) (all : List ℕ) → AreAhead moment later all → Has bound all → moment < bound → later < bound
ahead moment later bound [] are h after = absurd (true≢false h)
ahead moment later bound (other ∷ all) are h after = ⊎_elim
    (λ same. subst (λ (n : ℕ). later < n) (sym same) (are.0 (subst (λ (n : ℕ). moment < n) same after)))
    (λ rest. ahead moment later bound all are.1 rest after)
    h

steady_before : (policy : Rules) (moment later other : ℕ) → is_before later (steady_until policy moment) ≡ true → Has other (bounds policy.rules) → moment < other → later < other
unfolding steady_until
steady_before policy moment later other before has after =
    ahead moment later other (bounds policy.rules) (all_ahead moment later None (bounds policy.rules) before).1 has after

-- no other bound after the moment comes sooner
no_sooner : (policy : Rules) (moment bound other : ℕ) → steady_until policy moment ≡ Some bound → Has other (bounds policy.rules) → moment < other → bound ≤ other
no_sooner policy moment zero other is has after = omega (arith, after)
no_sooner policy moment (suc before) other is has after =
    let small : before < suc before = omega arith in
    let first : is_before before (Some (suc before)) ≡ true = grind (arith, nat_tests, small) in
    let rest : before < other = steady_before policy moment before other (subst (λ (o : Option ℕ). is_before before o ≡ true) (sym is) first) has after in
    omega (arith, rest)

pub least : (policy : Rules) (moment bound : ℕ) → steady_until policy moment ≡ Some bound → IsLeastAfter policy moment bound
least policy moment bound is =
    let in' = least_is_in policy moment bound is in
    record {
      is_bound = of_a_rule policy.rules bound in'.0;
      after = in'.1;
      least = λ other of after. no_sooner policy moment bound other is (in_bounds policy.rules other of.0 of.1 of.2 of.3) after;
    }

pub none : (policy : Rules) (moment : ℕ) → steady_until policy moment ≡ None → (bound : ℕ) → IsBoundOf policy bound → bound ≤ moment
none policy moment is bound of = ⊎_elim
    (λ yes.
    let after : moment < bound = grind (arith, nat_tests, yes) in
    let late : bound < bound = steady_before policy moment bound bound (subst (λ (o : Option ℕ). is_before bound o ≡ true) (sym is) refl)
    (in_bounds policy.rules bound of.0 of.1 of.2 of.3) after in
    omega (arith, late))
    (λ no. let up : bound ≤ moment = grind (arith, nat_tests, no) in up)
    (cases_Bool (nat_lt moment bound))
