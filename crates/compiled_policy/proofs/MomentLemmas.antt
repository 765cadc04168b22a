-- Candidates are so of what rules are at any moment.
use Rattle.std.proofs.Common.{◌≡◌, ℕ, ◌<◌, ◌+◌, ◌*◌, Bool, true, ◌&&◌, List, [], ◌∷◌, get_or, arith, Option, Some, None, length, map, option_map, slice_get, refl, true≢false, is_some, sym, ap, ◌∙◌, subst}
use Rattle.std.proofs.lemmas.Bool.{and_parts}
use Rattle.std.proofs.lemmas.List.{length-map}
use Rattle.std.proofs.lemmas.Option.{slice_get-get_or, slice_get-map}
use Rattle.std.specs.Int.{bit_at}
use Rattle.policy_core.proofs.AtMoment.{as_of_matches}
use Rattle.policy_core.specs.Moments.{as_of, stands_at}
use Rattle.policy_core.specs.Question.{Question}
use Rattle.policy_core.specs.Rule.{matches}
use Rattle.policy_core.specs.declared.rule.Rule.{Rule}
use Rattle.compiled_policy.specs.Search.{AreCandidates, common_word}
use Rattle.compiled_policy.specs.declared.candidates.Candidates.{Candidates}

-- what is mapped was there
was_there : (moment : ℕ) (found : Option Rule) (rule : Rule) → option_map (as_of moment) found ≡ Some rule →
    (was : Rule) × (found ≡ Some was) × (as_of moment was ≡ rule)
was_there moment None rule h = absurd (true≢false (sym (ap is_some h)))
was_there moment (Some was) rule h = (was, refl, let e : Some (as_of moment was) ≡ Some rule = h in cc)

pub candidates_at : (rules : List Rule) (moment : ℕ) (question : Question) (sets : Candidates) →
    AreCandidates rules question sets → AreCandidates (map (as_of moment) rules) question sets
candidates_at rules moment question sets are = record {
  inside = λ word bit small low set. subst (λ (n : ℕ). 64 * word + bit < n) (sym (length-map rules (as_of moment))) (are.inside word bit small low set);
  all = λ place rule there is.
      let was = was_there moment (slice_get rules place) rule (sym (slice_get-map (as_of moment) rules place) ∙ there) in
      let both : (stands_at was.0 moment && matches was.0 question) ≡ true =
      sym (as_of_matches moment was.0 question) ∙ (ap (λ (r : Rule). matches r question) was.2 ∙ is) in
      are.all place was.0 was.1 (and_parts (stands_at was.0 moment) (matches was.0 question) both).1;
}

-- a rule stands at each place of the list
pub some_rule : (rules : List Rule) (place : ℕ) → place < length rules → (rule : Rule) × (slice_get rules place ≡ Some rule)
some_rule [] place inside = absurd (omega (arith, inside))
some_rule (rule ∷ rules) place inside = (get_or (rule ∷ rules) place rule, slice_get-get_or (rule ∷ rules) place rule inside)
