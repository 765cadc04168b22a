-- What the rules ask of a policy is what the table says.
use Rattle.std.proofs.Common.{ℕ, List, inl, inr, ⊎_elim}
use Rattle.driver_core.specs.Requests.{IsAsked, IsCounterQuestion, IsDestinationQuestion, IsPublicationQuestion, IsSubscriptionQuestion, IsTerminationQuestion}
use Rattle.driver_core.specs.State.{State}
use Rattle.driver_laws.specs.Acts.{IsListed}
use Rattle.policy_core.specs.Question.{Question}

pub is_listed : (s : State) (handle : ℕ) (bytes : List ℕ) (correlation : ℕ) (question : Question) →
    IsAsked s handle bytes correlation question → IsListed s handle bytes correlation question
is_listed s handle bytes correlation question asks =
    ⊎_elim
    (λ (one : IsSubscriptionQuestion s handle bytes correlation question).
    inl (one.request, one.asks, one.correlation_is, one.question_is))
    (λ others.
    inr (⊎_elim
    (λ (one : IsCounterQuestion s handle bytes correlation question).
    inl (one.client, one.fields, one.asks, one.question_is))
    (λ others'.
    inr (⊎_elim
    (λ (one : IsTerminationQuestion s handle bytes correlation question).
    inl (one.client, one.fields, one.asks, one.question_is))
    (λ others''.
    inr (⊎_elim
    (λ (one : IsPublicationQuestion s handle bytes correlation question).
    inl (one.request, one.asks, one.correlation_is, one.question_is))
    (λ (one : IsDestinationQuestion s handle bytes correlation question).
    inr (one.request, one.asks, one.correlation_is, one.question_is))
    others''))
    others'))
    others))
    asks
