-- What an offer is answered, and what it counts.
use Rattle.std.proofs.Common.{◌≡◌, ℕ, ◌+◌, ◌⊎◌, true, Option, Some, None, Result, Ok, Err, IfSome, IfErr, subst, ap, ◌∙◌, ⊎_elim, inl, inr, arith}
use Rattle.log_steps.specs.declared.answer.Answer.{Answer}
use Rattle.log_slots.specs.Counting.{taken_by}
use Rattle.media_driver.specs.Clients.{Attached}
use Rattle.media_driver.specs.Steps.{Counts, offer_answer}
use Rattle.media_driver.specs.declared.faults.OfferFault.{OfferFault}

-- what is said of what is there, if anything is, is so of it
pub of_some : {A : Type 0} (P : A → Type 0) (found : Option A) (it : A) → found ≡ Some it → IfSome found P → P it
of_some P found it is h = subst (λ o. IfSome o P) is h

-- and what is so of it is said
pub to_some : {A : Type 0} (P : A → Type 0) (found : Option A) (it : A) → IfSome found (λ other. it ≡ other) → P it → IfSome found P
to_some P None it is h = is
to_some P (Some other) it is h = subst P is h

-- a position counts one message, and a fault none
pub counted : (result : Result ℕ OfferFault) (answer : Answer) (old new : Attached) → IfSome (offer_answer result) (λ other. answer ≡ other) →
    IfErr result (λ _. taken_by answer ≡ 0) →
    (new.counted ≡ old.counted + taken_by answer) ⊎ ((new.counted ≡ old.counted) × (new.ended ≡ true)) → Counts result old new
counted (Ok position) answer old new is none adds = ⊎_elim
    (λ more. inl (more ∙ ap (λ (a : Answer). old.counted + taken_by a) is))
    (λ ended. inr ended)
    adds
counted (Err fault) answer old new is none adds = ⊎_elim
    (λ more. let same : old.counted + 0 ≡ old.counted = omega arith in more ∙ (ap (λ (n : ℕ). old.counted + n) none ∙ same))
    (λ ended. ended.0)
    adds
