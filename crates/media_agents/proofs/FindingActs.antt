-- A look that is taken to list what it shows.
use Rattle.std.proofs.Common.{◌≡◌, List, [], ◌∷◌, ap, inl, inr, subst, sym, ◌∙◌}
use Rattle.std.specs.Prelude.{Result, Ok, Err}
use Rattle.driver_core.specs.State.{State}
use Rattle.media_agents.specs.Acts.{Access, GoesOn, looked}
use Rattle.media_agents.specs.Agents.{Lists}
use Rattle.media_agents.specs.Stepping.{look_of}
use Rattle.media_agents.proofs.ActLemmas.{goes_on_as}
use Rattle.published_registry.specs.Histories.{History, IsContinuedBy, registry_of}

module _ {X : Type 0} (Are : State → List X → Type 0) (before after : History) (listed : List X) (answer : Result History History) (old new : List Access → Type 0) where
  -- it showed that
  pub lists : (look : History) (registry : State) → answer ≡ Ok look → IsContinuedBy before after → after ≡ look → registry ≡ registry_of look → Are registry listed
      → GoesOn (λ (accesses : List Access). accesses ≡ look_of answer ∷ []) old new
      → GoesOn (Lists Are before after listed) old new
  lists look registry is later same shown are =
      goes_on_as (λ (accesses : List Access). accesses ≡ look_of answer ∷ []) (Lists Are before after listed) old new
      (λ a looks. (
        later,
        inl (
          subst (λ (s : State). Are s listed) (shown ∙ ap registry_of (sym same)) are,
          looks ∙ ap (λ (answer : Result History History). look_of answer ∷ []) is ∙ ap (λ (look : History). looked look ∷ []) (sym same),
        ),
      ))

  -- there was none
  pub lists_none : (pass : History) → answer ≡ Err pass → IsContinuedBy before after → listed ≡ []
      → GoesOn (λ (accesses : List Access). accesses ≡ look_of answer ∷ []) old new
      → GoesOn (Lists Are before after listed) old new
  lists_none pass is later none =
      goes_on_as (λ (accesses : List Access). accesses ≡ look_of answer ∷ []) (Lists Are before after listed) old new
      (λ a looks. (later, inr (none, looks ∙ ap (λ (answer : Result History History). look_of answer ∷ []) is)))
