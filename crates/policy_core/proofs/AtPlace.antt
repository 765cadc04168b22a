-- What stands at a place of a policy at a moment.
use Rattle.std.proofs.Common.{◌≡◌, ℕ, ◌<◌, Some, get_or, subst, ap, sym, ◌∙◌, slice_get, length}
use Rattle.std.proofs.lemmas.Option.{slice_get-get_or}
use Rattle.policy_core.specs.declared.rule.Rule.{Rule}
use Rattle.policy_core.specs.Moments.{as_of, at}
use Rattle.policy_core.specs.RuleList.{Rules}
use Rattle.policy_core.proofs.AtMoment.{at_length, at_place}

-- a place of the policy at the moment is one of the policy
pub within : (policy now : Rules) (moment place : ℕ) → at policy moment ≡ now → place < length now.rules → place < length policy.rules
within policy now moment place is inside =
    subst (λ (n : ℕ). place < n) (sym (ap (λ (p : Rules). length p.rules) is) ∙ at_length policy moment) inside

-- what is said of the rule at the place, as it is then, is so of what stands there then
pub as_stands : (P : Rule → Type 0) (policy now : Rules) (moment place : ℕ) (rule : Rule) → at policy moment ≡ now →
    place < length policy.rules → slice_get now.rules place ≡ Some rule →
    ((found : Rule) → slice_get policy.rules place ≡ Some found → P (as_of moment found)) → P rule
as_stands P policy now moment place rule is inside stands each =
    let found : Rule = get_or policy.rules place rule in
    let there : slice_get policy.rules place ≡ Some found = slice_get-get_or policy.rules place rule inside in
    let stands' : slice_get (at policy moment).rules place ≡ Some rule = subst (λ (p : Rules). slice_get p.rules place ≡ Some rule) (sym is) stands in
    subst P (at_place policy moment place found rule there stands') (each found there)
